-- The whole print of a schedule file, after document 01: a line for each event that runs, in order; then `end N`, or,
-- where an event is refused, `refused N` in its place; a refused file prints only that line.
-- In order: why a replay stopped, in words; the lines of a run of events, over any line for an event, so that the
-- trace's are the same lines longer; a file's lines; the bytes of lines; the print.
-- Not here: one event's line (Replayed.antt); what is said of the whole (Statements.antt); the trace (crate traced).
-- Assumes nothing.
use Rattle.std.specs.Prelude.{ℕ, ◌+◌, List, [], ◌∷◌, ◌++◌, drop, Err, Ok, Option, Result}
use Rattle.word.specs.Number.{thread}
use Rattle.word.specs.declared.number.ThreadNumber.{ThreadNumber}
use Rattle.state.specs.Answer.{Reply}
use Rattle.state.specs.Machine.{fresh_of}
use Rattle.state.specs.declared.answer.Answer.{Answer}
use Rattle.state.specs.declared.machine.Machine.{Machine}
use Rattle.lock.specs.Event.{event_of}
use Rattle.schedule.specs.File.{header_length, checked_of}
use Rattle.schedule.specs.Whole.{file_stop_number}
use Rattle.schedule.specs.declared.file.FileRefusal.{FileRefusal}
use Rattle.schedule.specs.declared.file.Head.{Head}
use Rattle.schedule.specs.declared.whole.FileStop.{FileStop}
use Rattle.schedule.specs.declared.whole.FileStop.TheVariants as Stop
use Rattle.print.specs.Text.{ascii}
use Rattle.print.specs.Replayed.{event_text, end_text, refused_text}

-- ── why a replay stopped ──

-- after so many events: none was left, an event was refused, or the file was
abbrev pub stop_text : ℕ → Result (Unit {0}) FileStop → List ℕ
stop_text run (Ok ran) = end_text run
stop_text run (Err (Stop.Refused refusal)) = refused_text (file_stop_number (Err (Stop.Refused refusal)))
stop_text run (Err (Stop.File refusal)) = refused_text (file_stop_number (Err (Stop.File refusal)))

-- ── a run of events ──

-- the line of an event that runs, by its number, thread, answer, the thread woken and the machine after it
abbrev pub EventLine : Type 0
EventLine = ℕ → ThreadNumber → Answer → Option ThreadNumber → Machine → List ℕ

-- by an event's reply: its line and those of the later ones, or the refusal and no more
abbrev pub lines_by : EventLine → ℕ → ThreadNumber → Reply → Machine → List (List ℕ) → List (List ℕ)
lines_by line at t (Ok told) m later = line at t told.answer told.woken m ∷ later
lines_by line at t (Err refusal) m later = stop_text at (Err (Stop.Refused refusal)) ∷ []

-- code and thread each, from event number `at` on; an odd byte is not an event
unfoldable pub event_lines : EventLine → ℕ → Machine → List ℕ → List (List ℕ)
event_lines line at m [] = stop_text at (Ok tt) ∷ []
event_lines line at m (odd ∷ []) = stop_text at (Ok tt) ∷ []
event_lines line at m (code ∷ t ∷ s) =
    lines_by line at
    (thread t)
    (event_of m code (thread t)).reply
    (event_of m code (thread t)).machine
    (event_lines line (at + 1) (event_of m code (thread t)).machine s)

-- ── a file ──

abbrev pub file_lines_by : EventLine → Result Head FileRefusal → List ℕ → List (List ℕ)
file_lines_by line (Ok head) s = event_lines line 0 (fresh_of head.threads).machine (drop header_length s)
file_lines_by line (Err refusal) s = stop_text 0 (Err (Stop.File refusal)) ∷ []

abbrev pub file_lines : EventLine → List ℕ → List (List ℕ)
file_lines line s = file_lines_by line (checked_of s) s

-- ── bytes ──

-- each line and its end
unfoldable pub bytes_of : List (List ℕ) → List ℕ
bytes_of [] = []
bytes_of (line ∷ lines) = line ++ ascii "\n" ++ bytes_of lines

-- ── the print ──

-- event, thread, answer, woken, word
abbrev pub print_line : EventLine
print_line at t answer woken m = event_text at t answer woken m.word

abbrev pub print_lines : List ℕ → List (List ℕ)
print_lines s = file_lines print_line s

abbrev pub print_bytes : List ℕ → List ℕ
print_bytes s = bytes_of (print_lines s)
