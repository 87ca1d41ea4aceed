-- A whole file: checked, then replayed from a fresh machine of its threads. A refused file runs nothing, and hands back
-- all its bytes and a fresh machine of one thread.
-- Assumes nothing.
use Rattle.std.specs.Prelude.{ℕ, ◌*◌, List, Result, Ok, Err, drop}
use Rattle.state.specs.Answer.{refusal_number}
use Rattle.state.specs.Machine.{made_of, fresh_of}
use Rattle.state.specs.declared.answer.Refusal.{Refusal}
use Rattle.schedule.specs.File.{header_length, event_width, file_number, checked_of}
use Rattle.schedule.specs.Replay.{replay_of}
use Rattle.schedule.specs.declared.file.FileRefusal.{FileRefusal}
use Rattle.schedule.specs.declared.file.Head.{Head}
use Rattle.schedule.specs.declared.replay.Replayed.{Replayed}
use Rattle.schedule.specs.declared.whole.FileStop.{FileStop}
use Rattle.schedule.specs.declared.whole.FileStop.TheVariants.{Refused, File}

-- document 01's number for why a file's replay stopped: an event's refusal, the file's, or 0 where every event ran
abbrev pub file_stop_number : Result (Unit {0}) FileStop → ℕ
file_stop_number (Ok ran) = 0
file_stop_number (Err (Refused refusal)) = refusal_number refusal
file_stop_number (Err (File refusal)) = file_number refusal

abbrev pub file_stop_of : Result (Unit {0}) Refusal → Result (Unit {0}) FileStop
file_stop_of (Ok ran) = Ok ran
file_stop_of (Err refusal) = Err (Refused refusal)

abbrev pub file_ran_of : Replayed Refusal → Replayed FileStop
file_ran_of r = record { machine = r.machine; run = r.run; stop = file_stop_of r.stop }

abbrev pub file_refused_of : FileRefusal → Replayed FileStop
file_refused_of refusal = record { machine = made_of 1; run = 0; stop = Err (File refusal) }

abbrev pub file_replay_by : Result Head FileRefusal → List ℕ → Replayed FileStop
file_replay_by (Ok head) s = file_ran_of (replay_of (fresh_of head.threads).machine (drop header_length s))
file_replay_by (Err refusal) s = file_refused_of refusal

abbrev pub file_replay_of : List ℕ → Replayed FileStop
file_replay_of s = file_replay_by (checked_of s) s

-- the unread rest by why it stopped and how many events ran
abbrev pub file_rest_by : Result (Unit {0}) FileStop → ℕ → List ℕ → List ℕ
file_rest_by (Err (File refusal)) run s = s
file_rest_by (Ok ran) run s = drop (event_width * run) (drop header_length s)
file_rest_by (Err (Refused refusal)) run s = drop (event_width * run) (drop header_length s)

abbrev pub file_rest_of : List ℕ → List ℕ
file_rest_of s = file_rest_by (file_replay_of s).stop (file_replay_of s).run s
