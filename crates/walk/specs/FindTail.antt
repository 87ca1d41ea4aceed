-- Find tail, from a head: load tail; if none, load next, store that node's prev, and go on from there.
-- Assumes nothing.
use Rattle.word.specs.Base.{pick}
use Rattle.word.specs.Number.{is_none}
use Rattle.word.specs.Flags.{to_node}
use Rattle.word.specs.declared.flags.Word.{Word}
use Rattle.word.specs.declared.number.NodeNumber.{NodeNumber}
use Rattle.state.specs.Node.{with_prev}
use Rattle.state.specs.View.{at, stays, links, Stepped}
use Rattle.state.specs.declared.place.Walk.{Walk}
use Rattle.state.specs.declared.place.Place.TheVariants.{WalkTail, WalkNext, WalkPrev, WalkHead}
use Rattle.state.specs.declared.view.View.{View}

-- load tail; if none, load next; if set, store it in the head
abbrev pub walk_tail_of : View → Walk → Word → NodeNumber → Stepped
walk_tail_of v walk seen current =
    pick (is_none v.node.tail)
    (stays v (at (WalkNext walk seen current)))
    (stays v (at (WalkHead walk seen v.node.tail)))

-- load next
abbrev pub walk_next_of : View → Walk → Word → NodeNumber → Stepped
walk_next_of v walk seen current = stays v (at (WalkPrev walk seen current (to_node v.node.next)))

-- store that node's prev, and go on from there
abbrev pub walk_prev_of : View → Walk → Word → NodeNumber → NodeNumber → Stepped
walk_prev_of v walk seen current next = links v (with_prev v.node current) (at (WalkTail walk seen next))
