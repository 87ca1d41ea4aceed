-- `traced::event::put_nodes`: the nodes passed are put. Assumes nothing.
use Rattle.std.proofs.Common.{◌≡◌}
use Rattle.print.specs.Line.{put_all}
use Rattle.traced.specs.Event.{nodes_text}
use Rattle.traced.proofs.event.put_nodes.Given as goal

abbrev pub invariant-loop-n : goal.invariant-loop-n
invariant-loop-n l = l.line ≡ put_all l.fn.line (nodes_text l.n-index l.fn.w.nodes)
