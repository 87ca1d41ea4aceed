-- Unlock queue after its walk: weak compare clearing QUEUE_LOCKED, the split and its restore, weak compare to 17 or 0.
-- Assumes nothing.
use Rattle.word.specs.Base.{pick}
use Rattle.word.specs.Number.{none, is_none}
use Rattle.word.specs.Flags.{clear_queue_locked}
use Rattle.word.specs.Rules.{taken_of}
use Rattle.word.specs.declared.flags.Word.{Word}
use Rattle.word.specs.declared.number.NodeNumber.{NodeNumber}
use Rattle.state.specs.Node.{with_tail}
use Rattle.state.specs.View.{at, after_queue, walk_from, agrees_of, stays, writes, links, Stepped}
use Rattle.state.specs.declared.place.Who.{Who}
use Rattle.state.specs.declared.place.Walk.TheVariants.{Queue}
use Rattle.state.specs.declared.place.Place.TheVariants.{SplitStore, SplitCas, SplitRestore}
use Rattle.state.specs.declared.place.Place.TheVariants.{TakeCas, WakePrev, WakeStore}
use Rattle.state.specs.declared.view.View.{View}

-- every failure finds the tail again from the new word
abbrev pub walk_again : View → Who → Stepped
walk_again v who = stays v (walk_from (Queue who) v.word)

-- weak compare clearing QUEUE_LOCKED ends it
abbrev pub queue_cas_of : View → Who → Word → Stepped
queue_cas_of v who seen =
    pick (agrees_of v seen) (writes v (clear_queue_locked seen) v.holding (after_queue who)) (walk_again v who)

-- load the tail's prev
abbrev pub split_prev_of : View → Who → Word → NodeNumber → Stepped
split_prev_of v who seen tail =
    pick (is_none v.node.prev)
    (stays v (at (TakeCas who seen tail)))
    (stays v (at (SplitStore who seen tail v.node.prev)))

-- if set, store prev as the head's tail: the tail is now set aside
abbrev pub split_store_of : View → Who → Word → NodeNumber → NodeNumber → Stepped
split_store_of v who seen tail prev = links v (with_tail v.node prev) (at (SplitCas who seen tail))

-- weak compare clearing QUEUE_LOCKED, then complete the tail; on failure restore
abbrev pub split_cas_of : View → Who → Word → NodeNumber → Stepped
split_cas_of v who seen tail =
    pick (agrees_of v seen)
    (writes v (clear_queue_locked seen) v.holding (at (WakeStore who tail none)))
    (stays v (at (SplitRestore who seen tail v.word)))

-- restore the old head's tail, and find the tail again from the word reported
abbrev pub split_restore_of : View → Who → Word → NodeNumber → Word → Stepped
split_restore_of v who seen tail reported = links v (with_tail v.node tail) (walk_from (Queue who) reported)

-- weak compare to 17 (DOWNGRADED) or 0, then complete all
abbrev pub take_cas_of : View → Who → Word → NodeNumber → Stepped
take_cas_of v who seen tail =
    pick (agrees_of v seen) (writes v (taken_of seen) v.holding (at (WakePrev who tail))) (walk_again v who)
