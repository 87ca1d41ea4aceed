-- `console::runs::threads`: the first threads' lines are laid. Assumes nothing.
use Rattle.console.specs.ThreadLines.{LaysThreads}
use Rattle.console.proofs.runs.threads.Given as goal

abbrev pub invariant-loop-k : goal.invariant-loop-k
invariant-loop-k l = LaysThreads l.fn.m l.page l.at l.k
