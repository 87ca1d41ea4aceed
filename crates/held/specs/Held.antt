-- What a replay hands back together: the machine, the number run and the stop, and the bytes of the unread rest; of a
-- run of events, then of a whole file.
-- Assumes nothing.
use Rattle.std.specs.Prelude.{ℕ, ◌*◌, List, drop}
use Rattle.state.specs.declared.answer.Refusal.{Refusal}
use Rattle.state.specs.declared.machine.Machine.{Machine}
use Rattle.schedule.specs.File.{event_width}
use Rattle.schedule.specs.Replay.{replay_of}
use Rattle.schedule.specs.Whole.{file_replay_of, file_rest_of}
use Rattle.schedule.specs.declared.replay.Replayed.{Replayed}
use Rattle.schedule.specs.declared.whole.FileStop.{FileStop}
use Rattle.held.specs.declared.replay.Held.{Held}

-- all that a `Held` is, but for where its bytes lie
abbrev pub shown_of : {E : Type 0} → Held E → Replayed E × List ℕ
shown_of r = (record { machine = r.machine; run = r.run; stop = r.stop }, r.rest.now)

abbrev pub held_of : Machine → List ℕ → Replayed Refusal × List ℕ
held_of m s = (replay_of m s, drop (event_width * (replay_of m s).run) s)

abbrev pub file_shown_of : Held FileStop → Replayed FileStop × List ℕ
file_shown_of r = shown_of r

abbrev pub file_held_of : List ℕ → Replayed FileStop × List ℕ
file_held_of s = (file_replay_of s, file_rest_of s)
