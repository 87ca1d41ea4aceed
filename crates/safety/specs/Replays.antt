-- A replay is a run: of the events before the one that it stops at, which was not refused 8.
-- In this order: a list of events' replay; a whole file's.
-- Assumes nothing.
use Rattle.std.specs.Prelude.{ℕ, List, [], ◌∷◌, ◌≢◌, ◌≡◌, refl, drop, Err, Ok, Result, Ok as Good, Err as Bad}
use Rattle.std.proofs.Common.{sym, ◌∙◌, subst, arith}
use Rattle.word.specs.Number.{thread}
use Rattle.state.specs.Answer.{refusal_number, Reply}
use Rattle.state.specs.Machine.{fresh_of}
use Rattle.state.specs.declared.answer.Refusal.{Refusal}
use Rattle.state.specs.declared.answer.Refusal.TheVariants.{Damaged}
use Rattle.state.specs.declared.machine.Machine.{Machine}
use Rattle.lock.specs.Event.{event_of}
use Rattle.promises.specs.Refusals.{number_given}
use Rattle.schedule.specs.File.{header_length, file_number, checked_of}
use Rattle.schedule.specs.Replay.{stop_number, goes_on, replay_of}
use Rattle.schedule.specs.Whole.{file_stop_number, file_stop_of, file_replay_by, file_replay_of}
use Rattle.schedule.specs.declared.file.FileRefusal.{FileRefusal}
use Rattle.schedule.specs.declared.file.FileRefusal.TheVariants.{TooShort, Version, Length, Threads, TooMany}
use Rattle.schedule.specs.declared.file.Head.{Head}
use Rattle.schedule.specs.declared.replay.Replayed.{Replayed as Replay}
use Rattle.invariant.proofs.Events.{Sound, event_safe}
use Rattle.safety.specs.Statements.{Event, ran_by, ran, reached, NeverStopsAtEight, Replayed, ReplayedSafe}
use Rattle.safety.specs.Runs.{start, reached_ok, event_not_eight}

-- ── events ──

record RunsTo (m : Machine) (r : Replay Refusal) : Type 0 where
  events : List Event
  machine : r.machine ≡ ran m events
  not_eight : stop_number r.stop ≢ refusal_number Damaged

replay_runs : (m : Machine) → Sound m → (s : List ℕ) → RunsTo m (replay_of m s)
unfolding replay_of ran_by
replay_runs m ok [] = record { events = []; machine = refl; not_eight = λ e. omega (arith, e) }
replay_runs m ok (odd ∷ []) = record { events = []; machine = refl; not_eight = λ e. omega (arith, e) }
replay_runs m ok (code ∷ t ∷ s) =
    by (event_of m code (thread t)).reply refl
    (replay_runs (event_of m code (thread t)).machine (event_safe m ok (thread t) code).ok s)
  where
    by : (r : Reply) → (event_of m code (thread t)).reply ≡ r
        → RunsTo (event_of m code (thread t)).machine (replay_of (event_of m code (thread t)).machine s)
        → RunsTo m (goes_on m r (replay_of (event_of m code (thread t)).machine s))
    by (Err r) e later = record {
      events = [];
      machine = refl;
      not_eight =
          subst (λ (x : Reply). number_given x ≢ refusal_number Damaged) e (event_not_eight m ok code (thread t));
    }
    by (Ok told) e later = record {
      events = record { code = code; thread = thread t } ∷ later.events;
      machine = later.machine;
      not_eight = later.not_eight;
    }

pub replay_not_eight : NeverStopsAtEight replay_of
replay_not_eight n es s = (replay_runs (reached n es) (reached_ok n es) s).not_eight

-- ── a file ──

same_number : (x : Result (Unit {0}) Refusal) → file_stop_number (file_stop_of x) ≡ stop_number x
same_number (Good all) = refl
same_number (Bad r) = refl

no_file_eight : (r : FileRefusal) → file_number r ≢ refusal_number Damaged
no_file_eight TooShort e = omega (arith, e)
no_file_eight Version e = omega (arith, e)
no_file_eight Length e = omega (arith, e)
no_file_eight Threads e = omega (arith, e)
no_file_eight TooMany e = omega (arith, e)

pub replayed : ReplayedSafe file_replay_of
unfolding ran_by
replayed file = by (checked_of file)
  where
    by : (c : Result Head FileRefusal) → Replayed (file_replay_by c file)
    by (Good head) =
        let fresh = (fresh_of head.threads).machine in
        let x : RunsTo fresh (replay_of fresh (drop header_length file)) =
        replay_runs fresh (start head.threads).ok (drop header_length file) in
        record {
          count = head.threads;
          events = x.events;
          machine = x.machine;
          not_eight = λ e. x.not_eight (sym (same_number (replay_of fresh (drop header_length file)).stop) ∙ e);
        }
    by (Bad r) = record { count = 1; events = []; machine = refl; not_eight = no_file_eight r }
