-- `standing::stands::held`: by which of the threads passed the node is held. Assumes nothing.
use Rattle.std.proofs.Common.{◌≡◌}
use Rattle.standing.specs.Stands.{held_below}
use Rattle.standing.proofs.stands.held.Given as goal

abbrev pub invariant-loop-k : goal.invariant-loop-k
invariant-loop-k l = l.standing ≡ held_below l.k l.m l.n
