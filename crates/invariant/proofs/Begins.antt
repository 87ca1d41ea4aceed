-- Beginning a call keeps the invariant: the thread stands idle, and holds what the call's first place allows.
-- Assumes nothing.
use Rattle.std.specs.Prelude.{true, false, ◌≡◌, refl}
use Rattle.std.proofs.Common.{ap}
use Rattle.state.specs.declared.holding.Holding.{Holding}
use Rattle.state.specs.declared.holding.Holding.TheVariants.{Nothing, Read, Write}
use Rattle.state.specs.declared.place.Place.TheVariants.{Idle}
use Rattle.lock.specs.Begin.{first_place, holds_nothing, may_begin}
use Rattle.lock.specs.declared.code.Call.{Call}
use Rattle.lock.specs.declared.code.Call.TheVariants.{Read as ToRead, Write as ToWrite, TryRead, TryWrite, ReadUnlock}
use Rattle.lock.specs.declared.code.Call.TheVariants.{WriteUnlock, Downgrade}
use Rattle.queue.specs.Tests.{never}
use Rattle.invariant.specs.Table.{any, off_queue, about, Free, Reads, Writes, Allowed}
use Rattle.invariant.specs.Invariant.{Inv}
use Rattle.invariant.specs.Moves.{is_aside}
use Rattle.invariant.specs.Kept.{Setting, mine, gone_to}
use Rattle.invariant.proofs.OffQueue.{OffQueue, off_queue_lem, role_down, goes_off_queue}

-- ── what a call asks for, its first place allows ──

nothing_held : (h : Holding) → holds_nothing h ≡ true → Free h
nothing_held Nothing e = record { reads = refl; writes = refl }
nothing_held Read e = never refl e
nothing_held Write e = never refl e

read_held : (h : Holding) → may_begin ReadUnlock h ≡ true → Reads h
read_held Nothing e = never refl e
read_held Read e = record { reads = refl; writes = refl }
read_held Write e = never refl e

write_held : (h : Holding) → may_begin WriteUnlock h ≡ true → Writes h
write_held Nothing e = never refl e
write_held Read e = never refl e
write_held Write e = record { reads = refl; writes = refl }

pub record FirstAllowed (call : Call) (h : Holding) : Type 0 where
  pub off : OffQueue (about (first_place call))
  pub allowed : Allowed (about (first_place call)).may h
  pub needs : (about (first_place call)).needs_queue ≡ false
  pub leaves : (about (first_place call)).leaves ≡ false

-- and it is no place of a split
pub first_not_aside : (call : Call) → is_aside (first_place call) ≡ false
first_not_aside ToRead = refl
first_not_aside ToWrite = refl
first_not_aside TryRead = refl
first_not_aside TryWrite = refl
first_not_aside ReadUnlock = refl
first_not_aside WriteUnlock = refl
first_not_aside Downgrade = refl

first_allowed : (call : Call) (h : Holding) → may_begin call h ≡ true → FirstAllowed call h
first_allowed ToRead h e =
    record { off = off_queue_lem _ _ _ _; allowed = nothing_held h e; needs = refl; leaves = refl }
first_allowed ToWrite h e =
    record { off = off_queue_lem _ _ _ _; allowed = nothing_held h e; needs = refl; leaves = refl }
first_allowed TryRead h e =
    record { off = off_queue_lem _ _ _ _; allowed = nothing_held h e; needs = refl; leaves = refl }
first_allowed TryWrite h e =
    record { off = off_queue_lem _ _ _ _; allowed = nothing_held h e; needs = refl; leaves = refl }
first_allowed ReadUnlock h e =
    record { off = off_queue_lem _ _ _ _; allowed = read_held h e; needs = refl; leaves = refl }
first_allowed WriteUnlock h e =
    record { off = off_queue_lem _ _ _ _; allowed = write_held h e; needs = refl; leaves = refl }
first_allowed Downgrade h e =
    record { off = off_queue_lem _ _ _ _; allowed = write_held h e; needs = refl; leaves = refl }

pub kept_begin : (st : Setting) → (mine st).place ≡ Idle → (call : Call) → may_begin call (mine st).holding ≡ true
    → Inv st.n (gone_to st (first_place call) st.s.nd) st.g
kept_begin st here call e =
    let f : FirstAllowed call (mine st).holding = first_allowed call (mine st).holding e in
    let is : about (mine st).place ≡ off_queue any false false false = ap about here in
    goes_off_queue st (role_down st.i st.me.0 (rw is (off_queue_lem _ _ _ _))) (first_place call) f.off
    f.allowed
    (never f.needs) (rw (f.leaves, is)) (rw is (never refl))
