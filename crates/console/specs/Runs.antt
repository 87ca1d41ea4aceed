-- What the functions that print answer: what a file's replay came to, and how many bytes were written of it.
-- In order: the answer; a refused file's line; the trace or the print; by what was read of a file.
-- Not here: the lines (crates print and traced, Whole.antt).
-- Assumes nothing.
use Rattle.std.specs.Prelude.{ℕ, List, [], ◌∷◌, ◌++◌, Err, length}
use Rattle.state.specs.declared.machine.Machine.{Machine}
use Rattle.schedule.specs.Replay.{replay_of}
use Rattle.schedule.specs.Whole.{file_ran_of, file_refused_of, file_replay_of}
use Rattle.schedule.specs.declared.file.FileRefusal.{FileRefusal}
use Rattle.schedule.specs.declared.file.FileRefusal.TheVariants.{TooMany}
use Rattle.schedule.specs.declared.replay.Replayed.{Replayed}
use Rattle.schedule.specs.declared.whole.FileStop.{FileStop}
use Rattle.schedule.specs.declared.whole.FileStop.TheVariants as Stop
use Rattle.print.specs.Whole.{stop_text, event_lines, bytes_of, print_bytes}
use Rattle.traced.specs.Whole.{thread_lines, trace_bytes}
use Rattle.console.specs.Pages.{line_for}
use Rattle.console.specs.declared.input.Reading.{Reading}
use Rattle.console.specs.declared.input.Reading.TheVariants.{Whole, Full, Unreadable}
use Rattle.console.specs.declared.pages.Lines.{Lines}
use Rattle.console.specs.declared.pages.Lines.TheVariants.{Plain, Traced}
use Rattle.console.specs.declared.runs.Printed.{Printed}

-- those bytes, of that replay
abbrev pub printed_of : Replayed FileStop → List ℕ → Printed
printed_of replayed bytes = record { replayed = replayed; bytes = length bytes }

-- a refused file's one line
abbrev pub refused_bytes : FileRefusal → List ℕ
refused_bytes refusal = bytes_of (stop_text 0 (Err (Stop.File refusal)) ∷ [])

abbrev pub refused_printed : FileRefusal → Printed
refused_printed refusal = printed_of (file_refused_of refusal) (refused_bytes refusal)

-- ── the trace or the print ──

-- the trace's lines for the threads
abbrev pub end_lines : Lines → Machine → List (List ℕ)
end_lines Traced m = thread_lines m.count m
end_lines Plain m = []

-- of a run of events on a machine
abbrev pub ran_bytes : Lines → Machine → List ℕ → List ℕ
ran_bytes which m s =
    bytes_of (event_lines (line_for which) 0 m s) ++ bytes_of (end_lines which (replay_of m s).machine)

abbrev pub ran_printed : Lines → Machine → List ℕ → Printed
ran_printed which m s = printed_of (file_ran_of (replay_of m s)) (ran_bytes which m s)

-- of a file
abbrev pub file_bytes : Lines → List ℕ → List ℕ
file_bytes Traced s = trace_bytes s
file_bytes Plain s = print_bytes s

abbrev pub file_printed : Lines → List ℕ → Printed
file_printed which s = printed_of (file_replay_of s) (file_bytes which s)

-- ── by what was read ──

-- whole: what the file prints; full, so that it may have more bytes than are looked at: `refused 14` without the other
-- checks; unreadable: nothing
abbrev pub received_bytes : (List ℕ → List ℕ) → Reading → List ℕ → List ℕ
received_bytes prints Whole s = prints s
received_bytes prints Full s = refused_bytes TooMany
received_bytes prints Unreadable s = []
