-- `listing::reader_count::reads_below`: the loop's invariant is the sum over the threads passed. Assumes nothing.
use Rattle.std.proofs.Common.{◌≡◌}
use Rattle.listing.specs.ReaderCount.{reads_below}
use Rattle.listing.proofs.reader_count.reads_below.Given as goal

abbrev pub invariant-loop-t : goal.invariant-loop-t
invariant-loop-t l = l.readers ≡ reads_below l.t-index l.fn.m
