-- Beginning a call: refusals 3 and 4, and the call's first place. Beginning touches nothing shared.
-- Assumes nothing.
use Rattle.std.specs.Prelude.{ℕ, Bool, true, false, ltb, eqb, None}
use Rattle.word.specs.Base.{pick}
use Rattle.state.specs.Answer.{accepted_with}
use Rattle.state.specs.Holding.{reads_of, writes_of}
use Rattle.state.specs.Machine.{thread_at, refused_of}
use Rattle.state.specs.declared.answer.Answer.TheVariants.{Begun}
use Rattle.state.specs.declared.answer.Refusal.TheVariants.{InsideCall, WrongHolding}
use Rattle.state.specs.declared.holding.Holding.{Holding}
use Rattle.state.specs.declared.machine.Machine.{Machine}
use Rattle.state.specs.declared.machine.Thread.{Thread}
use Rattle.state.specs.declared.machine.Outcome.{Outcome}
use Rattle.state.specs.declared.place.Place.{Place}
use Rattle.state.specs.declared.place.Place.TheVariants.{TryReadLoad, TryWriteOr, ReadUnlockLoad}
use Rattle.state.specs.declared.place.Place.TheVariants.{WriteUnlockCas, DowngradeCas}
use Rattle.state.specs.Access.{access_of}
use Rattle.state.specs.declared.access.Kind.{Kind}
use Rattle.state.specs.declared.access.Kind.TheVariants.{Nothing, Load, Store, WeakCompare, StrongCompare}
use Rattle.state.specs.declared.access.Kind.TheVariants.{FetchOr, Subtract, Complete, Park}
use Rattle.word.specs.Number.{thread}
use Rattle.lock.specs.Record.{with_thread}
use Rattle.lock.specs.declared.code.Call.{Call}
use Rattle.lock.specs.declared.code.Call.TheVariants.{Read, Write, TryRead, TryWrite}
use Rattle.lock.specs.declared.code.Call.TheVariants.{ReadUnlock, WriteUnlock, Downgrade}

-- the call's first access
abbrev pub first_place : Call → Place
first_place Read = TryReadLoad true
first_place Write = TryWriteOr true
first_place TryRead = TryReadLoad false
first_place TryWrite = TryWriteOr false
first_place ReadUnlock = ReadUnlockLoad
first_place WriteUnlock = WriteUnlockCas
first_place Downgrade = DowngradeCas

abbrev pub holds_nothing : Holding → Bool
holds_nothing h = pick (eqb (reads_of h) 0) (eqb (writes_of h) 0) false

-- begin 0..3 holding nothing; 4 holding read; 5 or 6 holding write
abbrev pub may_begin : Call → Holding → Bool
may_begin Read h = holds_nothing h
may_begin Write h = holds_nothing h
may_begin TryRead h = holds_nothing h
may_begin TryWrite h = holds_nothing h
may_begin ReadUnlock h = ltb 0 (reads_of h)
may_begin WriteUnlock h = ltb 0 (writes_of h)
may_begin Downgrade h = ltb 0 (writes_of h)

abbrev pub idle_by : Kind → Bool
idle_by Nothing = true
idle_by Load = false
idle_by Store = false
idle_by WeakCompare = false
idle_by StrongCompare = false
idle_by FetchOr = false
idle_by Subtract = false
idle_by Complete = false
idle_by Park = false

-- the one place that makes no access
abbrev pub is_idle : Place → Bool
is_idle p = idle_by (access_of (thread 0) p).kind

abbrev pub placed_of : Thread → Place → Thread
placed_of t p = record { place = p; token = t.token; holding = t.holding }

-- the thread stands at the call's first access
abbrev pub began_of : Machine → ℕ → Call → Outcome
began_of m i call =
    record {
      machine = with_thread m i (placed_of (thread_at m i) (first_place call));
      reply = accepted_with Begun None;
    }

-- 3 inside a call, then 4
abbrev pub begin_of : Machine → ℕ → Call → Outcome
begin_of m i call =
    pick (is_idle (thread_at m i).place)
    (pick (may_begin call (thread_at m i).holding) (began_of m i call) (refused_of m WrongHolding))
    (refused_of m InsideCall)
