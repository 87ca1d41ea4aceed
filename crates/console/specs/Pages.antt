-- A replay's lines laid page by page: what a page is filled with, and what is left to print.
-- In order: the line of a move; whether a replay goes on after it; what a cursor has still to print and to run; a page.
-- Not here: the lines themselves (crates print and traced, Whole.antt); the laws of one move (Moves.antt).
-- Assumes nothing.
use Rattle.std.specs.Prelude.{ℕ, ◌*◌, ◌/◌, ◌<◌, ◌≤◌, List, [], ◌++◌, ◌≡◌, length, take, drop, Err, Ok, Option, Some}
use Rattle.std.specs.Prelude.{None, Result}
use Rattle.std.specs.declared.ops.ControlFlow.{ControlFlow}
use Rattle.std.specs.declared.ops.ControlFlow.TheVariants.{Continue, Break}
use Rattle.state.specs.Answer.{Reply}
use Rattle.schedule.specs.File.{event_width}
use Rattle.schedule.specs.Replay.{after, replay_of}
use Rattle.schedule.specs.Whole.{file_ran_of}
use Rattle.schedule.specs.declared.cursor.Cursor.{Cursor}
use Rattle.schedule.specs.declared.cursor.Moved.{Moved}
use Rattle.schedule.specs.declared.cursor.Seen.{Seen}
use Rattle.schedule.specs.declared.replay.Replayed.{Replayed}
use Rattle.schedule.specs.declared.whole.FileStop.{FileStop}
use Rattle.schedule.specs.declared.whole.FileStop.TheVariants as Stop
use Rattle.print.specs.Replayed.{step_text}
use Rattle.print.specs.Whole.{EventLine, event_lines, bytes_of, print_line}
use Rattle.traced.specs.Event.{traced_text}
use Rattle.traced.specs.Whole.{trace_line}
use Rattle.console.specs.declared.pages.Filled.{Filled}
use Rattle.console.specs.declared.pages.Lines.{Lines}
use Rattle.console.specs.declared.pages.Lines.TheVariants.{Plain, Traced}

-- ── one move ──

-- the trace's line of an event, or the print's
abbrev pub line_for : Lines → EventLine
line_for Traced = trace_line
line_for Plain = print_line

-- the line of a move of a cursor that stood at event `at`
abbrev pub move_text : Lines → ℕ → Moved → List ℕ
move_text Traced at moved = traced_text at moved
move_text Plain at moved = step_text at moved

-- there is more to print, or the replay is over, by what stopped it
abbrev pub Going : Type 0
Going = ControlFlow (Result (Unit {0}) FileStop) (Unit {0})

abbrev pub going_by : Reply → Going
going_by (Ok told) = Continue tt
going_by (Err refusal) = Break (Err (Stop.Refused refusal))

-- by what a cursor saw: over where no event was left, or that one was refused
abbrev pub going_of : Option Seen → Going
going_of None = Break (Ok tt)
going_of (Some seen) = going_by seen.reply

-- ── what is left ──

-- the bytes that a cursor has still to print
abbrev pub to_print : Lines → Cursor → List ℕ → List ℕ
to_print which c s = bytes_of (event_lines (line_for which) c.at c.machine (drop (event_width * c.at) s))

-- what the whole replay comes to, from a cursor on
abbrev pub to_run : Cursor → List ℕ → Replayed FileStop
to_run c s = file_ran_of (after c.at (replay_of c.machine (drop (event_width * c.at) s)))

-- the same where a replay goes on from a cursor, or is over there
abbrev pub print_by : Lines → Going → Cursor → List ℕ → List ℕ
print_by which (Continue on) c s = to_print which c s
print_by which (Break stop) c s = []

abbrev pub run_by : Going → Cursor → List ℕ → Replayed FileStop
run_by (Continue on) c s = to_run c s
run_by (Break stop) c s = record { machine = c.machine; run = c.at; stop = stop }

-- further on, and not past the end; none is asked where it is over
abbrev pub Further : Going → Cursor → Cursor → List ℕ → Type 0
Further (Continue on) from c s = (from.at < c.at) × (c.at ≤ length s / event_width)
Further (Break stop) from c s = Unit {0}

-- ── a page ──

-- the page's first bytes, and then what is left, are what was to be printed
pub record Fills (which : Lines) (from : Cursor) (s page : List ℕ) (r : Filled) : Type 0 where
  pub within : r.at ≤ length page
  pub bytes : take r.at page ++ print_by which r.going r.cursor s ≡ to_print which from s
  pub replay : run_by r.going r.cursor s ≡ to_run from s
  pub further : Further r.going from r.cursor s
