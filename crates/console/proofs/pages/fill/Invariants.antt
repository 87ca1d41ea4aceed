-- `console::pages::fill`: what is laid, and then what is left, stays what was to be printed; the measure is how much of
-- the page is free. Assumes nothing.
use Rattle.std.proofs.Common.{◌-◌, length}
use Rattle.console.specs.Filling.{Filling}
use Rattle.console.proofs.pages.fill.Given as goal

abbrev pub invariant-loop-which : goal.invariant-loop-which
invariant-loop-which l = Filling l.fn.which l.fn.first l.fn.s l.page l.cursor l.at

abbrev pub decreases-loop-which : goal.decreases-loop-which
decreases-loop-which l = length l.page - l.at
