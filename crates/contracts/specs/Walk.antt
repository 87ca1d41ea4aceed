-- The contracts of crate walk: each public function's result is determined, and wrong answers that its contract rules
-- out. Find tail, then complete all. Assumes nothing.
use Rattle.std.specs.Prelude.{refl, Option, Some, None}
use Rattle.word.specs.Flags.{word}
use Rattle.word.specs.Number.{node, none, thread}
use Rattle.word.specs.declared.flags.Word.{Word}
use Rattle.word.specs.declared.number.NodeNumber.{NodeNumber}
use Rattle.word.specs.declared.number.ThreadNumber.{ThreadNumber}
use Rattle.state.specs.Access.{access_of}
use Rattle.state.specs.Node.{blank_node, with_completed, with_next, with_prev, with_tail}
use Rattle.state.specs.View.{at, end, stays, links, completes, Stepped}
use Rattle.state.specs.declared.answer.Answer.TheVariants.{Done}
use Rattle.state.specs.declared.place.Place.TheVariants as At
use Rattle.state.specs.declared.place.Walk.{Walk}
use Rattle.state.specs.declared.place.Walk.TheVariants as For
use Rattle.state.specs.declared.place.Who.{Who}
use Rattle.state.specs.declared.place.Who.TheVariants.{Leaver}
use Rattle.state.specs.declared.view.Next.{Next}
use Rattle.state.specs.declared.view.View.{View}
use Rattle.walk.proofs.complete_all.wake_prev.Reads as wake_prev
use Rattle.walk.proofs.complete_all.wake_store.Reads as wake_store
use Rattle.walk.proofs.find_tail_and_add_backlinks.walk_next.Reads as walk_next
use Rattle.walk.proofs.find_tail_and_add_backlinks.walk_prev.Reads as walk_prev
use Rattle.walk.proofs.find_tail_and_add_backlinks.walk_tail.Reads as walk_tail
use Rattle.contracts.specs.Allowed.{Determined, ◌&◌, Allows, apart_by, apart_in, clash, determined}
use Rattle.contracts.specs.Examples.{at_node, seeing}
use Rattle.contracts.specs.Looks.{goes_to, owner_number, place_after, prev_after, woken_by}

-- ── find tail ──

pub walk_tail_determined : (v : View) (walk : Walk) (seen : Word) (current : NodeNumber)
    → Determined (Allows walk_tail.Post (v & walk & seen & current & tt))
walk_tail_determined v walk seen current = determined

-- node 2 has its tail set
abbrev tailed : View
tailed = at_node (with_tail blank_node (node 1)) (seeing 34)

pub walk_tail_walks_on_past_a_set_tail :
    Allows walk_tail.Post (tailed & For.ReadUnlock & word 34 & node 2 & tt)
    (stays tailed (at (At.WalkNext For.ReadUnlock (word 34) (node 2)))) → ⊥
walk_tail_walks_on_past_a_set_tail = apart_in place_after (λ e. clash (cc))

pub walk_tail_stops_without_a_tail :
    Allows walk_tail.Post (seeing 34 & For.ReadUnlock & word 34 & node 2 & tt)
    (stays (seeing 34) (at (At.WalkHead For.ReadUnlock (word 34) (node 2)))) → ⊥
walk_tail_stops_without_a_tail = apart_in place_after (λ e. clash (cc))

pub walk_next_determined : (v : View) (walk : Walk) (seen : Word) (current : NodeNumber)
    → Determined (Allows walk_next.Post (v & walk & seen & current & tt))
walk_next_determined v walk seen current = determined

-- node 2 links to node 1
abbrev linked : View
linked = at_node (with_next blank_node (word 16)) (seeing 34)

pub walk_next_leaves_prev_out :
    Allows walk_next.Post (linked & For.Downgrade & word 34 & node 2 & tt)
    (stays linked (at (At.WalkTail For.Downgrade (word 34) (node 1)))) → ⊥
walk_next_leaves_prev_out = apart_in place_after (λ e. clash (cc))

pub walk_next_goes_by_the_word :
    Allows walk_next.Post (linked & For.Downgrade & word 34 & node 2 & tt)
    (stays linked (at (At.WalkPrev For.Downgrade (word 34) (node 2) (node 2)))) → ⊥
unfolding access_of
walk_next_goes_by_the_word = apart_by goes_to refl

pub walk_prev_determined : (v : View) (walk : Walk) (seen : Word) (current next : NodeNumber)
    → Determined (Allows walk_prev.Post (v & walk & seen & current & next & tt))
walk_prev_determined v walk seen current next = determined

pub walk_prev_stores_the_node_itself :
    Allows walk_prev.Post (seeing 34 & For.Downgrade & word 34 & node 2 & node 1 & tt)
    (links (seeing 34) (with_prev blank_node (node 1)) (at (At.WalkTail For.Downgrade (word 34) (node 1)))) → ⊥
walk_prev_stores_the_node_itself = apart_by prev_after refl

pub walk_prev_stays_at_the_node_left :
    Allows walk_prev.Post (seeing 34 & For.Downgrade & word 34 & node 2 & node 1 & tt)
    (links (seeing 34) (with_prev blank_node (node 2)) (at (At.WalkTail For.Downgrade (word 34) (node 2)))) → ⊥
unfolding access_of
walk_prev_stays_at_the_node_left = apart_by goes_to refl

-- ── complete all ──

pub wake_prev_determined : (v : View) (who : Who) (current : NodeNumber)
    → Determined (Allows wake_prev.Post (v & who & current & tt))
wake_prev_determined v who current = determined

-- node 1 has node 2 before it
abbrev backed : View
backed = at_node (with_prev blank_node (node 2)) (seeing 0)

pub wake_prev_completes_nothing :
    Allows wake_prev.Post (backed & Leaver & node 1 & tt) (stays backed (at (At.WakePrev Leaver (node 2)))) → ⊥
wake_prev_completes_nothing = apart_in place_after (λ e. clash (cc))

pub wake_prev_goes_to_prev_first :
    Allows wake_prev.Post (backed & Leaver & node 1 & tt)
    (stays backed (at (At.WakeStore Leaver (node 2) (node 1)))) → ⊥
unfolding access_of
wake_prev_goes_to_prev_first = apart_by goes_to refl

pub wake_store_determined : (v : View) (who : Who) (current prev : NodeNumber)
    → Determined (Allows wake_store.Post (v & who & current & prev & tt))
wake_store_determined v who current prev = determined

-- node 1 is completed while node 2 was before it
abbrev completing : Option ThreadNumber → Next → Stepped
completing woken next = completes (seeing 0) (with_completed blank_node) woken next

pub wake_store_wakes_the_owner_of_prev :
    Allows wake_store.Post (seeing 0 & Leaver & node 1 & node 2 & tt)
    (completing (Some (thread 1)) (at (At.WakePrev Leaver (node 2)))) → ⊥
wake_store_wakes_the_owner_of_prev = apart_by (λ s. owner_number (woken_by s)) refl

pub wake_store_wakes_nobody :
    Allows wake_store.Post (seeing 0 & Leaver & node 1 & node 2 & tt)
    (completing None (at (At.WakePrev Leaver (node 2)))) → ⊥
wake_store_wakes_nobody = apart_in woken_by (λ e. clash (cc))

-- its prev is none by now
pub wake_store_reads_prev_after_completing :
    Allows wake_store.Post (seeing 0 & Leaver & node 1 & node 2 & tt)
    (completing (Some (thread 0)) (end Done)) → ⊥
wake_store_reads_prev_after_completing = apart_in place_after (λ e. clash (cc))

pub wake_store_goes_on_past_the_last :
    Allows wake_store.Post (seeing 0 & Leaver & node 1 & none & tt)
    (completing (Some (thread 0)) (at (At.WakePrev Leaver none))) → ⊥
wake_store_goes_on_past_the_last = apart_in place_after (λ e. clash (cc))
