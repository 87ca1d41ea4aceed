-- The whole trace of a schedule file (docs/TRACE.md): document 01's print with each event's line longer, and at the end
-- a line for each thread; a refused file prints only its refusal.
-- In order: an event's line; the threads' lines; the trace.
-- Not here: why a replay stopped, and the lines of a run of events, which are the print's (crate print, Whole.antt).
-- Assumes nothing.
use Rattle.std.specs.Prelude.{ℕ, zero, suc, List, [], ◌∷◌, ◌++◌, Result, Ok, Err}
use Rattle.word.specs.Number.{thread}
use Rattle.state.specs.declared.machine.Machine.{Machine}
use Rattle.schedule.specs.File.{checked_of}
use Rattle.schedule.specs.Whole.{file_replay_of}
use Rattle.schedule.specs.declared.file.FileRefusal.{FileRefusal}
use Rattle.schedule.specs.declared.file.Head.{Head}
use Rattle.print.specs.Replayed.{event_text}
use Rattle.print.specs.Whole.{EventLine, file_lines, bytes_of}
use Rattle.traced.specs.Event.{state_text}
use Rattle.traced.specs.Thread.{thread_text}

-- event, thread, answer, woken, word; the waiters and the readers
abbrev pub trace_line : EventLine
trace_line at t answer woken m = event_text at t answer woken m.word ++ state_text m

-- of the first k threads
unfoldable pub thread_lines : ℕ → Machine → List (List ℕ)
thread_lines zero m = []
thread_lines (suc k) m = thread_lines k m ++ thread_text m (thread k) ∷ []

-- of every thread of the machine that the replay hands back; a refused file ran on none
abbrev pub end_lines_by : Result Head FileRefusal → Machine → List (List ℕ)
end_lines_by (Ok head) m = thread_lines m.count m
end_lines_by (Err refusal) m = []

abbrev pub trace_lines : List ℕ → List (List ℕ)
trace_lines s = file_lines trace_line s ++ end_lines_by (checked_of s) (file_replay_of s).machine

abbrev pub trace_bytes : List ℕ → List ℕ
trace_bytes s = bytes_of (trace_lines s)
