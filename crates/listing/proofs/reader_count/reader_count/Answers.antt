-- `listing::reader_count::reader_count` meets its contract: the listing of a queue has a last node, which is
-- within, by the laws of listings. Assumes nothing.
use Rattle.std.proofs.Common.{◌-◌, sym, arith}
use Rattle.listing.specs.Laws.{few_threads, waiters_some, waiters_most, waiters_within}
use Rattle.listing.proofs.reader_count.reader_count.Goals as goal

pub overflow_sub-oldest : goal.overflow_sub-oldest
overflow_sub-oldest c =
    let is = sym c.in_ok-waiters.ensures in
    let some = waiters_some c.args.m c.in_ok-waiters.waiters is (sym c.if-not-queued.ensures) in
    omega arith

pub bounds-waiters-waiters : goal.bounds-waiters-waiters
bounds-waiters-waiters c =
    let m = c.args.m in
    let few = few_threads m.count (sym c.if-not-good_count.ensures) in
    let most = waiters_most m c.in_ok-waiters.waiters (sym c.in_ok-waiters.ensures) in
    omega arith

pub unwrap-raw-requires : goal.unwrap-raw-requires
unwrap-raw-requires c =
    let m = c.args.m in
    let w = c.in_ok-waiters.waiters in
    let is = sym c.in_ok-waiters.ensures in
    let some = waiters_some m w is (sym c.if-not-queued.ensures) in
    let inside = waiters_within m w is (w.length - 1) (omega arith) in
    let found = c.node_at.ensures (few_threads m.count (sym c.if-not-good_count.ensures)) in
    rw (found, inside)
