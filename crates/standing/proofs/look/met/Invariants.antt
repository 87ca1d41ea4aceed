-- `standing::look::met`: what the visits left will come to. Assumes nothing.
use Rattle.std.proofs.Common.{false, ◌≡◌, ◌-◌}
use Rattle.standing.specs.Look.{met_from}
use Rattle.standing.proofs.look.met.Given as goal

abbrev pub invariant-loop : goal.invariant-loop
invariant-loop l = met_from (l.visits - l.counter) l.m l.n l.at false ≡ met_from l.visits l.m l.n l.fn.from false
