-- A step, code 16, or a step that fails for no cause, code 17: refusals 5, 6, 7, then 8, then the rule of the place.
-- Assumes nothing.
use Rattle.std.specs.Prelude.{ℕ, Bool, Err, Ok, Option, Some, None}
use Rattle.word.specs.Base.{pick}
use Rattle.word.specs.Number.{none, slot_of}
use Rattle.word.specs.declared.number.ThreadNumber.{ThreadNumber}
use Rattle.word.specs.declared.number.NodeNumber.{NodeNumber}
use Rattle.state.specs.Answer.{Verdict}
use Rattle.state.specs.Access.{access_of, touched_of}
use Rattle.state.specs.Machine.{thread_at, node_at, refused_of}
use Rattle.state.specs.declared.access.Kind.{Kind}
use Rattle.state.specs.declared.access.Kind.TheVariants.{Nothing, Load, Store, WeakCompare, StrongCompare, FetchOr}
use Rattle.state.specs.declared.access.Kind.TheVariants.{Subtract as Subtracting, Complete, Park as Parking}
use Rattle.state.specs.declared.answer.Refusal.TheVariants.{NotInCall, NoToken, CannotFail, Damaged}
use Rattle.state.specs.declared.machine.Machine.{Machine}
use Rattle.state.specs.declared.machine.Outcome.{Outcome}
use Rattle.state.specs.declared.place.Place.{Place}
use Rattle.state.specs.declared.place.Place.TheVariants as At
use Rattle.state.specs.declared.view.Mark.{Mark}
use Rattle.state.specs.declared.view.Mark.TheVariants.{Missing, Reader, Writer}
use Rattle.state.specs.declared.view.View.{View}
use Rattle.lock.specs.Advance.{advance_of}
use Rattle.lock.specs.Landed.{landed_of}

-- 7: code 17 at an access that is neither a weak compare nor park
abbrev pub failing_of : Bool → Verdict
failing_of fails = pick fails (Err CannotFail) (Ok tt)

-- 6: code 16 at park without a token
abbrev pub parking_of : Bool → Bool → Verdict
parking_of token fails = pick fails (Ok tt) (pick token (Ok tt) (Err NoToken))

-- 5 on an idle thread, then 6, then 7, by the kind of access alone
abbrev pub halted_of : Kind → Bool → Bool → Verdict
halted_of Nothing token fails = Err NotInCall
halted_of Parking token fails = parking_of token fails
halted_of WeakCompare token fails = Ok tt
halted_of Load token fails = failing_of fails
halted_of Store token fails = failing_of fails
halted_of StrongCompare token fails = failing_of fails
halted_of FetchOr token fails = failing_of fails
halted_of Subtracting token fails = failing_of fails
halted_of Complete token fails = failing_of fails

-- the tail whose writer mark the local code reads, after the store of the tail in the head
unfoldable pub marked_of : Place → NodeNumber
marked_of At.Idle = none
marked_of (At.TryReadLoad _) = none
marked_of (At.TryReadCas _ _) = none
marked_of (At.TryWriteOr _) = none
marked_of (At.ContendLoad _ _) = none
marked_of (At.ContendCas _ _ _) = none
marked_of (At.RegisterCas _ _ _) = none
marked_of (At.CompletedLoad _) = none
marked_of (At.Park _) = none
marked_of (At.WalkTail _ _ _) = none
marked_of (At.WalkNext _ _ _) = none
marked_of (At.WalkPrev _ _ _ _) = none
marked_of (At.WalkHead walk seen tail) = tail
marked_of (At.QueueCas _ _) = none
marked_of (At.SplitPrev _ _ _) = none
marked_of (At.SplitStore _ _ _ _) = none
marked_of (At.SplitCas _ _ _) = none
marked_of (At.SplitRestore _ _ _ _) = none
marked_of (At.TakeCas _ _ _) = none
marked_of (At.WakePrev _ _) = none
marked_of (At.WakeStore _ _ _) = none
marked_of At.ReadUnlockLoad = none
marked_of (At.ReadUnlockCas _) = none
marked_of (At.Subtract _ _) = none
marked_of At.WriteUnlockCas = none
marked_of (At.ReleaseCas _) = none
marked_of At.DowngradeCas = none
marked_of (At.DowngradeSlowCas _) = none

abbrev pub mark_at : Machine → ℕ → Mark
mark_at m k = pick (node_at m k).writer Writer Reader

abbrev pub mark_by : Machine → Option ℕ → Mark
mark_by m None = Missing
mark_by m (Some k) = mark_at m k

abbrev pub mark_of : Machine → NodeNumber → Mark
mark_of m tail = mark_by m (slot_of tail m.count)

-- what a step at place p may look at: the word, node k, the mark, and the thread's own record
abbrev pub view_at : Machine → ThreadNumber → ℕ → Bool → Place → View
view_at m me k fails p =
    record {
      me = me;
      word = m.word;
      node = node_at m k;
      mark = mark_of m (marked_of p);
      token = (thread_at m me.0).token;
      holding = (thread_at m me.0).holding;
      fails = fails;
    }

-- the rule of the place, and what it changed stored
abbrev pub reached_at : Machine → ThreadNumber → ℕ → Bool → Place → Outcome
reached_at m me k fails p = landed_of m me.0 k (advance_of (view_at m me k fails p) p)

-- 8: the access would touch a node outside 1..count
abbrev pub touching_by : Machine → ThreadNumber → Bool → Place → Option ℕ → Outcome
touching_by m me fails p None = refused_of m Damaged
touching_by m me fails p (Some k) = reached_at m me k fails p

abbrev pub step_by : Machine → ThreadNumber → Bool → Place → Verdict → Outcome
step_by m me fails p (Err r) = refused_of m r
step_by m me fails p (Ok _) = touching_by m me fails p (slot_of (touched_of (access_of me p) me) m.count)

-- a step of a thread that stands at place p
abbrev pub step_at : Machine → ThreadNumber → Bool → Place → Outcome
step_at m me fails p =
    step_by m me fails p (halted_of (access_of me p).kind (thread_at m me.0).token fails)

unfoldable pub step_of : Machine → ThreadNumber → Bool → Outcome
step_of m me fails = step_at m me fails (thread_at m me.0).place
