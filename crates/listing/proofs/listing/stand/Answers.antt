-- `listing::listing::stand` meets its contract: the node is stored after the others. Assumes nothing.
use Rattle.std.proofs.Common.{refl, ◌<◌, rules, arith}
use Rattle.state.specs.Machine.{thread_limit}
use Rattle.listing.proofs.Turn.{listed_more, padded_more}
use Rattle.listing.proofs.listing.stand.Goals as goal

pub returns-clause-ok : goal.returns-clause-ok
returns-clause-ok c =
    let w = c.args.waiters.now in
    let room : w.length < thread_limit = omega arith in
    record {
      inside = search rules;
      its = search rules;
      room = omega arith;
      one_more = refl;
      listed = listed_more w c.args.at c.requires.padded room;
      padded = padded_more w c.args.at c.requires.padded room;
    }
