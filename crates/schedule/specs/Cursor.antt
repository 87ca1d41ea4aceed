-- Event by event: a cursor is the machine so far and how many events ran. It stays at the end and at a refused event.
-- Assumes nothing.
use Rattle.std.specs.Prelude.{ℕ, zero, suc, ◌+◌, ◌/◌, List, leb, length, Err, Ok, Option, Some, None}
use Rattle.word.specs.Base.{pick}
use Rattle.state.specs.Answer.{Reply}
use Rattle.state.specs.declared.machine.Machine.{Machine}
use Rattle.state.specs.declared.machine.Outcome.{Outcome}
use Rattle.schedule.specs.File.{event_width}
use Rattle.schedule.specs.Replay.{code_at, thread_at, event_at}
use Rattle.schedule.specs.declared.cursor.Cursor.{Cursor}
use Rattle.schedule.specs.declared.cursor.Seen.{Seen}
use Rattle.schedule.specs.declared.cursor.Moved.{Moved}

abbrev pub start_of : Machine → Cursor
start_of m = record { machine = m; at = 0 }

abbrev pub moved_to : Cursor → Option Seen → Moved
moved_to c seen = record { cursor = c; seen = seen }

-- where an event leads: on, or nowhere where it is refused
abbrev pub reached : Cursor → Reply → Machine → Cursor
reached c (Err refusal) m = c
reached c (Ok told) m = record { machine = m; at = c.at + 1 }

-- the event that a cursor stands before, and what it was answered
abbrev pub seen_of : Cursor → List ℕ → Reply → Option Seen
seen_of c s reply = Some (record { code = code_at s c.at; thread = thread_at s c.at; reply = reply })

abbrev pub moved_by : Cursor → List ℕ → Outcome → Moved
moved_by c s o = moved_to (reached c o.reply o.machine) (seen_of c s o.reply)

unfoldable pub moved_of : Cursor → List ℕ → Moved
moved_of c s =
    pick (leb (length s / event_width) c.at) (moved_to c None) (moved_by c s (event_at c.machine s c.at))

-- the cursor after so many moves
unfoldable pub cursor_after : ℕ → Cursor → List ℕ → Cursor
cursor_after zero c s = c
cursor_after (suc k) c s = (moved_of (cursor_after k c s) s).cursor
