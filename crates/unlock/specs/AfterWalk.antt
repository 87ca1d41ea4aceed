-- Find tail's last access, the store of the tail in the head, with the local code that follows it.
-- Assumes nothing.
use Rattle.std.specs.Prelude.{Err}
use Rattle.word.specs.Base.{pick}
use Rattle.word.specs.Flags.{locked, downgraded}
use Rattle.word.specs.declared.flags.Word.{Word}
use Rattle.word.specs.declared.number.NodeNumber.{NodeNumber}
use Rattle.state.specs.Node.{with_tail}
use Rattle.state.specs.View.{at, links, Stepped}
use Rattle.state.specs.declared.answer.Refusal.TheVariants.{Damaged}
use Rattle.state.specs.declared.node.Node.{Node}
use Rattle.state.specs.declared.place.Who.{Who}
use Rattle.state.specs.declared.place.Who.TheVariants.{Leaver}
use Rattle.state.specs.declared.place.Walk.{Walk}
use Rattle.state.specs.declared.place.Walk.TheVariants.{Queue, ReadUnlock, Downgrade}
use Rattle.state.specs.declared.place.Place.TheVariants.{QueueCas, SplitPrev, TakeCas, WakePrev, Subtract}
use Rattle.state.specs.declared.view.Mark.{Mark}
use Rattle.state.specs.declared.view.Mark.TheVariants.{Missing, Reader, Writer}
use Rattle.state.specs.declared.view.View.{View}

-- the tail's writer mark is read: without DOWNGRADED and with a writer tail, load its prev;
-- in all other cases weak compare to 17 or 0
abbrev pub marked_by : View → Node → Who → Word → NodeNumber → Mark → Stepped
marked_by v n who seen tail Missing = Err Damaged
marked_by v n who seen tail Reader = links v n (at (TakeCas who seen tail))
marked_by v n who seen tail Writer =
    pick (downgraded seen) (links v n (at (TakeCas who seen tail))) (links v n (at (SplitPrev who seen tail)))

abbrev pub tail_marked : View → Node → Who → Word → NodeNumber → Stepped
tail_marked v n who seen tail = marked_by v n who seen tail v.mark

-- LOCKED without DOWNGRADED: weak compare clearing QUEUE_LOCKED; else the tail's writer mark is read
abbrev pub tail_found : View → Node → Who → Word → NodeNumber → Stepped
tail_found v n who seen tail =
    pick (locked seen)
    (pick (downgraded seen) (tail_marked v n who seen tail) (links v n (at (QueueCas who seen))))
    (tail_marked v n who seen tail)

-- what the walk was for: unlock queue; read_unlock subtracts; downgrade completes all of the old queue
abbrev pub walked_of : View → Node → Walk → Word → NodeNumber → Stepped
walked_of v n (Queue who) seen tail = tail_found v n who seen tail
walked_of v n ReadUnlock seen tail = links v n (at (Subtract seen tail))
walked_of v n Downgrade seen tail = links v n (at (WakePrev Leaver tail))

-- store the tail in the head
abbrev pub walk_head_of : View → Walk → Word → NodeNumber → Stepped
walk_head_of v walk seen tail = walked_of v (with_tail v.node tail) walk seen tail
