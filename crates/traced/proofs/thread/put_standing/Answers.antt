-- `traced::thread::put_standing` meets its contract: of a waiter in the queue, whom it waits for. Assumes nothing.
use Rattle.print.specs.Laws.{put_both}
use Rattle.traced.proofs.thread.put_standing.Goals as goal

pub returns-in-InQueue : goal.returns-in-InQueue
returns-in-InQueue c = simp (c.put_rousers.ensures, c.text-in-InQueue.ensures, c.in-InQueue.is, put_both)
