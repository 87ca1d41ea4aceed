-- `listing::listing::from_head`: what is listed and what is still to follow make the whole, while no tail is met
-- and on the way to it. Assumes nothing.
use Rattle.std.proofs.Common.{◌≡◌, ◌-◌, ◌≤◌}
use Rattle.listing.specs.Listing.{node_by, to_tail, followed_of}
use Rattle.listing.specs.Way.{IsPadded, listed_in}
use Rattle.listing.proofs.Turn.{prepend_all, after}
use Rattle.listing.proofs.listing.from_head.Given as goal

abbrev pub invariant-loop-at : goal.invariant-loop-at
invariant-loop-at l = record {
  padded : IsPadded l.waiters;
  few : l.waiters.length ≤ l.m.count;
  its : l.node ≡ node_by l.m l.at;
  whole : prepend_all (listed_in l.waiters) (after (l.m.count - l.waiters.length) l.m l.at l.node)
      ≡ followed_of l.m l.fn.head;
}

abbrev pub decreases-loop-at : goal.decreases-loop-at
decreases-loop-at l = l.m.count - l.waiters.length

abbrev pub invariant-loop-m : goal.invariant-loop-m
invariant-loop-m l = record {
  padded : IsPadded l.waiters;
  few : l.waiters.length ≤ l.m.count;
  its : l.node ≡ node_by l.m l.at;
  whole : prepend_all (listed_in l.waiters) (to_tail (l.m.count - l.waiters.length) l.m l.tail l.at)
      ≡ followed_of l.m l.fn.head;
}

abbrev pub decreases-loop-m : goal.decreases-loop-m
decreases-loop-m l = l.m.count - l.waiters.length
