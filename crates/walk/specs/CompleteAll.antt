-- Complete all: from the tail, load prev, complete, go to prev, until none.
-- Assumes nothing.
use Rattle.word.specs.Base.{pick}
use Rattle.word.specs.Number.{is_none, owner_of}
use Rattle.word.specs.declared.number.NodeNumber.{NodeNumber}
use Rattle.state.specs.Node.{with_completed}
use Rattle.state.specs.View.{at, after_queue, stays, completes, Stepped}
use Rattle.state.specs.declared.place.Who.{Who}
use Rattle.state.specs.declared.place.Place.TheVariants.{WakePrev, WakeStore}
use Rattle.state.specs.declared.view.View.{View}

-- load prev
abbrev pub wake_prev_of : View → Who → NodeNumber → Stepped
wake_prev_of v who current = stays v (at (WakeStore who current v.node.prev))

-- complete, which wakes the owner; go to prev, until none
abbrev pub wake_store_of : View → Who → NodeNumber → NodeNumber → Stepped
wake_store_of v who current prev =
    pick (is_none prev)
    (completes v (with_completed v.node) (owner_of current) (after_queue who))
    (completes v (with_completed v.node) (owner_of current) (at (WakePrev who prev)))
