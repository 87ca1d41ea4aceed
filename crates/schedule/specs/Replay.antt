-- The replay of a run of events, code and thread each: it stops at the first refused event, with the machine before
-- that event, or where no whole event is left.
-- Assumes nothing.
use Rattle.std.specs.Prelude.{ℕ, ◌+◌, ◌*◌, List, [], ◌∷◌, get_or, Err, Ok, Result}
use Rattle.word.specs.Number.{thread}
use Rattle.word.specs.declared.number.ThreadNumber.{ThreadNumber}
use Rattle.state.specs.Answer.{refusal_number, Reply}
use Rattle.state.specs.declared.answer.Refusal.{Refusal}
use Rattle.state.specs.declared.machine.Machine.{Machine}
use Rattle.state.specs.declared.machine.Outcome.{Outcome}
use Rattle.lock.specs.Event.{event_of}
use Rattle.schedule.specs.File.{event_width}
use Rattle.schedule.specs.declared.replay.Replayed.{Replayed}

-- document 01's number for why a replay stopped: the refusal's; 0 where every event ran
abbrev pub stop_number : Result (Unit {0}) Refusal → ℕ
stop_number (Ok ran) = 0
stop_number (Err refusal) = refusal_number refusal

-- the k-th event's two bytes, from 0
abbrev pub code_at : List ℕ → ℕ → ℕ
code_at s k = get_or s (event_width * k) 0

abbrev pub thread_at : List ℕ → ℕ → ThreadNumber
thread_at s k = thread (get_or s (event_width * k + 1) 0)

abbrev pub event_at : Machine → List ℕ → ℕ → Outcome
event_at m s k = event_of m (code_at s k) (thread_at s k)

abbrev pub stopped_of : Machine → ℕ → Result (Unit {0}) Refusal → Replayed Refusal
stopped_of m n stop = record { machine = m; run = n; stop = stop }

-- as many events more before it
abbrev pub after : ℕ → Replayed Refusal → Replayed Refusal
after n r = stopped_of r.machine (n + r.run) r.stop

-- by an event's reply: refused there, on the machine before it; or one event run, and then the others
abbrev pub goes_on : Machine → Reply → Replayed Refusal → Replayed Refusal
goes_on m (Err refusal) later = stopped_of m 0 (Err refusal)
goes_on m (Ok told) later = after 1 later

unfoldable pub replay_of : Machine → List ℕ → Replayed Refusal
replay_of m [] = stopped_of m 0 (Ok tt)
replay_of m (odd ∷ []) = stopped_of m 0 (Ok tt)
replay_of m (code ∷ t ∷ s) =
    goes_on m (event_of m code (thread t)).reply (replay_of (event_of m code (thread t)).machine s)
