-- `console::runs::run`: what is written, and then what is left, stays what was to be printed; the measure is how many
-- events are left. Assumes nothing.
use Rattle.std.proofs.Common.{◌-◌, ◌/◌, length}
use Rattle.schedule.specs.File.{event_width}
use Rattle.console.specs.Paging.{Paging}
use Rattle.console.proofs.runs.run.Given as goal

abbrev pub invariant-loop-stop : goal.invariant-loop-stop
invariant-loop-stop g l = Paging l.fn.which l.initial.cursor l.fn.s l.cursor l.bytes

abbrev pub decreases-loop-stop : goal.decreases-loop-stop
decreases-loop-stop g l = length l.fn.s / event_width - l.cursor.at
