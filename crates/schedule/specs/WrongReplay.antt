-- Replays that invent the number of events run, refuted by computed counterexamples: document 01's 'one that invents
-- the number of events run (it is the length of the longest accepted beginning)'.
-- In this order: the statement over any replay, and that it holds of the replay; one event too many; none at all.
-- Not here: wrong programs for one event (crate promises) and over runs (crate safety).
-- Assumes nothing.
use Rattle.std.specs.Prelude.{ℕ, zero, suc, ◌+◌, ◌<◌, ◌≤◌, List, [], ◌∷◌, refl, None}
use Rattle.std.proofs.Common.{arith}
use Rattle.state.specs.Access.{access_of}
use Rattle.state.specs.Machine.{fresh_of}
use Rattle.state.specs.declared.answer.Answer.TheVariants.{Begun}
use Rattle.state.specs.declared.answer.Refusal.{Refusal}
use Rattle.state.specs.declared.machine.Machine.{Machine}
use Rattle.lock.specs.Event.{event_of}
use Rattle.schedule.specs.Replay.{stopped_of, replay_of}
use Rattle.schedule.specs.Statements.{state_at, Accepts, Beginning}
use Rattle.schedule.specs.Theorems.{run_is_longest}
use Rattle.schedule.specs.declared.replay.Replayed.{Replayed}

abbrev pub Replay : Type 0
Replay = Machine → List ℕ → Replayed Refusal

-- the events run are an accepted beginning, and no longer one is accepted
abbrev pub RunIsLongest : Replay → Type 0
RunIsLongest replay =
    (m : Machine) (s : List ℕ) → Beginning m s (replay m s).run × ((k : ℕ) → Beginning m s k → k ≤ (replay m s).run)

pub replay_runs_longest : RunIsLongest replay_of
replay_runs_longest = run_is_longest

-- ── one event too many ──

abbrev one_more : Replay
one_more m s = stopped_of (replay_of m s).machine ((replay_of m s).run + 1) (replay_of m s).stop

pub one_more_refuted : RunIsLongest one_more → ⊥
unfolding replay_of
one_more_refuted holds = let x : 1 ≤ 0 = (holds (fresh_of 1).machine []).0.there in omega (arith, x)

-- ── none at all ──

abbrev none_run : Replay
none_run m s = stopped_of (replay_of m s).machine 0 (replay_of m s).stop

-- a begin of read is an accepted beginning of one
begun_read : Beginning (fresh_of 1).machine (0 ∷ 0 ∷ []) 1
unfolding state_at event_of access_of
begun_read = record { there = there; accepted = first }
  where
    there : 1 ≤ 1
    there = omega arith

    first : (i : ℕ) → i < 1 → Accepts (fresh_of 1).machine (0 ∷ 0 ∷ []) i
    first zero l = record { answer = Begun; woken = None; is = refl }
    first (suc i) l = absurd (omega (arith, l))

pub none_run_refuted : RunIsLongest none_run → ⊥
none_run_refuted holds =
    let x : 1 ≤ 0 = (holds (fresh_of 1).machine (0 ∷ 0 ∷ [])).1 1 begun_read in omega (arith, x)
