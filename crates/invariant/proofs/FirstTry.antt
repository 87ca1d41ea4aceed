-- try_read and try_write, which read and write attempt first: each place's rule keeps the invariant.
-- Assumes nothing.
use Rattle.std.specs.Prelude.{ℕ, Bool, true, false, ◌≡◌, refl, Option, Some, None}
use Rattle.std.proofs.Common.{ap, ◌∙◌}
use Rattle.word.specs.Cases.{pick_both}
use Rattle.word.specs.Flags.{locked}
use Rattle.word.specs.Rules.{read_lock_of}
use Rattle.word.specs.declared.flags.Word.{Word}
use Rattle.state.specs.View.{granted, stays, writes}
use Rattle.state.specs.declared.holding.Holding.{Holding}
use Rattle.state.specs.declared.place.Place.{Place}
use Rattle.state.specs.declared.place.Place.TheVariants.{Idle, TryReadLoad, TryReadCas, TryWriteOr, ContendLoad}
use Rattle.acquire.specs.TryRead.{try_read_by, try_read_judged, try_read_load_of, try_read_cas_by, try_read_cas_of}
use Rattle.acquire.specs.TryWrite.{try_write_refused, try_write_or_of}
use Rattle.queue.specs.Tests.{never}
use Rattle.invariant.specs.Table.{free, off_queue, about, about_at, Free, Allowed, leaver}
use Rattle.invariant.specs.Invariant.{Inv}
use Rattle.invariant.specs.Moves.{moves_no_ticket}
use Rattle.invariant.specs.Kept.{look_at, Kept, Goes, Setting, mine, gone_to, kept_stood, moved_to, became}
use Rattle.invariant.specs.Kept.{kept_compare}
use Rattle.invariant.proofs.OffQueue.{OffQueue, off_queue_lem, RoleDown, role_down, goes_off_queue, ends_call}
use Rattle.invariant.proofs.CallEnds.{ended_read, ended_written}

module _ (st : Setting) (k : ℕ) where
  open st use {n, s, g, i, me, tin}

  -- a thread that stands at a first attempt
  module _ {p : Place} (here : (mine st).place ≡ p) (first : about p ≡ off_queue free false false false)
      (unmoved : moves_no_ticket p ≡ true) where
    told : about_at s me.0 ≡ off_queue free false false false
    told = ap about here ∙ first

    is_first : RoleDown s g me.0
    is_first = role_down i me.0 (rw told (off_queue_lem _ _ _ _))

    nothing : Free (mine st).holding
    nothing = rw told at (i.holding me.0)

    no_leaver : leaver (mine st) ≡ 0
    no_leaver = rw told

    on_to : (q : Place) → OffQueue (about q) → Allowed (about q).may (mine st).holding → (about q).needs_queue ≡ false
        → (about q).leaves ≡ false
        → Inv n (gone_to st q s.nd) g
    on_to q o a needs leaves =
        goes_off_queue st is_first q o a (never needs) (rw (leaves, told)) (rw told (never refl))

    judged : (blocking : Bool) (r : Option Word) → Kept st k (try_read_by (look_at st k) blocking s.word r)
    judged blocking (Some to) =
        kept_stood st k here unmoved _ _ refl
        (on_to (TryReadCas blocking s.word) (off_queue_lem _ _ _ _) nothing refl refl)
    judged true None =
        kept_stood st k here unmoved _ _ refl (on_to (ContendLoad false 0) (off_queue_lem _ _ _ _) nothing refl refl)
    judged false None = kept_stood st k here unmoved _ _ refl (on_to Idle (off_queue_lem _ _ _ _) tt refl refl)

  pub kept_try_read_load : (blocking : Bool) → (mine st).place ≡ TryReadLoad blocking
      → Goes st k (λ v. try_read_load_of v blocking)
  kept_try_read_load blocking here = judged here refl refl blocking (read_lock_of s.word)

  at_end_lem : {p : Place} → (mine st).place ≡ p → moves_no_ticket p ≡ true → (blocking : Bool) (w : Word) (h : Holding)
      → Inv n (moved_to st w (became (mine st) Idle h)) g
      → Kept st k (writes (look_at st k) w h (granted blocking))
  at_end_lem here unmoved true w h j = kept_stood st k here unmoved _ _ refl j
  at_end_lem here unmoved false w h j = kept_stood st k here unmoved _ _ refl j

  pub kept_try_read_cas : (blocking : Bool) (seen : Word) → (mine st).place ≡ TryReadCas blocking seen
      → Goes st k (λ v. try_read_cas_of v blocking seen)
  kept_try_read_cas blocking seen here = kept_compare st k seen _ _ (λ same. by same (read_lock_of seen) refl) again
    where
      again : Kept st k (try_read_judged (look_at st k) blocking s.word)
      again = judged here refl refl blocking (read_lock_of s.word)

      by : s.word ≡ seen → (r : Option Word) → read_lock_of seen ≡ r
          → Kept st k (try_read_cas_by (look_at st k) blocking r)
      by same (Some to) e =
          at_end_lem here refl blocking to _
          (ends_call st _ to _
          (ended_read st (is_first here refl refl) (nothing here refl refl) (no_leaver here refl refl) to
          (ap read_lock_of same ∙ e)))
      by same None e = again

  pub kept_try_write_or : (blocking : Bool) → (mine st).place ≡ TryWriteOr blocking
      → Goes st k (λ v. try_write_or_of v blocking)
  kept_try_write_or blocking here = pick_both (Kept st k) (locked s.word) _ _ (λ e. held blocking)
      (λ e. at_end_lem here refl blocking _ _
      (ends_call st _ _ _
      (ended_written st (is_first here refl refl) (nothing here refl refl) (no_leaver here refl refl) e)))
    where
      held : (b : Bool) → Kept st k (stays (look_at st k) (try_write_refused b))
      held true =
          kept_stood st k here refl _ _ refl
          (on_to here refl refl (ContendLoad true 0) (off_queue_lem _ _ _ _) (nothing here refl refl) refl refl)
      held false = kept_stood st k here refl _ _ refl (on_to here refl refl Idle (off_queue_lem _ _ _ _) tt refl refl)
