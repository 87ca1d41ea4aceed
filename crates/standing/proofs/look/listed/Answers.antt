-- `standing::look::listed` meets its contract: the search is that of the whole array. Assumes nothing.
use Rattle.std.proofs.Common.{◌≡◌, length, arith}
use Rattle.state.specs.Machine.{thread_limit}
use Rattle.standing.proofs.Among.{any_is}
use Rattle.standing.proofs.look.listed.Goals as goal

pub returns-in-Ok : goal.returns-in-Ok
returns-in-Ok c =
    let w = c.in-Ok.w in
    let long : length w.nodes ≡ thread_limit = omega arith in
    rw (c.in-Ok.is, c.contains.ensures.value, ← long) (any_is w.nodes c.args.n)
