-- `traced::thread::put_rousers`: those of the threads passed are put. Assumes nothing.
use Rattle.std.proofs.Common.{◌≡◌}
use Rattle.print.specs.Line.{put_all}
use Rattle.traced.specs.Thread.{rousers_text}
use Rattle.traced.proofs.thread.put_rousers.Given as goal

abbrev pub invariant-loop-k : goal.invariant-loop-k
invariant-loop-k l = l.line ≡ put_all l.fn.line (rousers_text l.k l.m)
