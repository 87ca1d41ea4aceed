-- The contracts of crate unlock: each public function's result is determined, and wrong answers that its contract
-- rules out. What follows a walk, then unlock queue. Node 2 is the newest waiter, node 1 the oldest. Assumes nothing.
use Rattle.std.specs.Prelude.{ℕ, true, refl}
use Rattle.word.specs.Flags.{word}
use Rattle.word.specs.Number.{node, none}
use Rattle.word.specs.declared.flags.Word.{Word}
use Rattle.word.specs.declared.number.NodeNumber.{NodeNumber}
use Rattle.state.specs.Access.{access_of}
use Rattle.state.specs.Node.{blank_node, with_prev, with_tail}
use Rattle.state.specs.View.{at, end, walk_from, stays, writes, links, Stepped}
use Rattle.state.specs.declared.answer.Answer.TheVariants.{Done}
use Rattle.state.specs.declared.holding.Holding.TheVariants as Holds
use Rattle.state.specs.declared.place.Place.{Place}
use Rattle.state.specs.declared.place.Place.TheVariants as At
use Rattle.state.specs.declared.place.Walk.{Walk}
use Rattle.state.specs.declared.place.Walk.TheVariants as For
use Rattle.state.specs.declared.place.Who.{Who}
use Rattle.state.specs.declared.place.Who.TheVariants.{Leaver, Waiter}
use Rattle.state.specs.declared.view.Mark.TheVariants as Marks
use Rattle.state.specs.declared.view.View.{View}
use Rattle.unlock.proofs.after_walk.walk_head.Reads as walk_head
use Rattle.unlock.proofs.unlock_queue.queue_cas.Reads as queue_cas
use Rattle.unlock.proofs.unlock_queue.split_cas.Reads as split_cas
use Rattle.unlock.proofs.unlock_queue.split_prev.Reads as split_prev
use Rattle.unlock.proofs.unlock_queue.split_restore.Reads as split_restore
use Rattle.unlock.proofs.unlock_queue.split_store.Reads as split_store
use Rattle.unlock.proofs.unlock_queue.take_cas.Reads as take_cas
use Rattle.contracts.specs.Allowed.{Determined, ◌&◌, Allows, apart_by, apart_in, clash, determined}
use Rattle.contracts.specs.Examples.{at_node, failing, marked, seeing}
use Rattle.contracts.specs.Looks.{goes_to, place_after, tail_after, word_after}

-- ── after a walk ──

pub walk_head_determined : (v : View) (walk : Walk) (seen : Word) (tail : NodeNumber)
    → Determined (Allows walk_head.Post (v & walk & seen & tail & tt))
walk_head_determined v walk seen tail = determined

-- the tail stored in the head, and on to that place
abbrev stored : ℕ → Place → Stepped
stored w p = links (seeing w) (with_tail blank_node (node 1)) (at p)

pub walk_head_takes_a_locked_queue :
    Allows walk_head.Post (marked Marks.Reader (seeing 39) & For.Queue Leaver & word 39 & node 1 & tt)
    (stored 39 (At.TakeCas Leaver (word 39) (node 1))) → ⊥
walk_head_takes_a_locked_queue = apart_in place_after (λ e. clash (cc))

pub walk_head_takes_all_with_a_writer :
    Allows walk_head.Post (marked Marks.Writer (seeing 38) & For.Queue Leaver & word 38 & node 1 & tt)
    (stored 38 (At.TakeCas Leaver (word 38) (node 1))) → ⊥
walk_head_takes_all_with_a_writer = apart_in place_after (λ e. clash (cc))

pub walk_head_splits_off_a_reader :
    Allows walk_head.Post (marked Marks.Reader (seeing 38) & For.Queue Leaver & word 38 & node 1 & tt)
    (stored 38 (At.SplitPrev Leaver (word 38) (node 1))) → ⊥
walk_head_splits_off_a_reader = apart_in place_after (λ e. clash (cc))

pub walk_head_subtracts_at_the_newest :
    Allows walk_head.Post (seeing 35 & For.ReadUnlock & word 35 & node 1 & tt)
    (stored 35 (At.Subtract (word 35) (node 2))) → ⊥
unfolding access_of
walk_head_subtracts_at_the_newest = apart_by goes_to refl

pub walk_head_stores_no_tail :
    Allows walk_head.Post (seeing 35 & For.ReadUnlock & word 35 & node 1 & tt)
    (stays (seeing 35) (at (At.Subtract (word 35) (node 1)))) → ⊥
walk_head_stores_no_tail = apart_by tail_after refl

-- ── unlock queue ──

pub queue_cas_determined : (v : View) (who : Who) (seen : Word)
    → Determined (Allows queue_cas.Post (v & who & seen & tt))
queue_cas_determined v who seen = determined

pub queue_cas_keeps_the_queue_lock :
    Allows queue_cas.Post (seeing 39 & Leaver & word 39 & tt)
    (writes (seeing 39) (word 39) Holds.Nothing (end Done)) → ⊥
queue_cas_keeps_the_queue_lock = apart_by word_after refl

pub queue_cas_gives_up_though_made_to_fail :
    Allows queue_cas.Post (failing (seeing 39) & Leaver & word 39 & tt)
    (writes (seeing 39) (word 35) Holds.Nothing (end Done)) → ⊥
queue_cas_gives_up_though_made_to_fail = apart_by word_after refl

pub queue_cas_ends_a_waiter :
    Allows queue_cas.Post (seeing 39 & Waiter true & word 39 & tt)
    (writes (seeing 39) (word 35) Holds.Nothing (end Done)) → ⊥
queue_cas_ends_a_waiter = apart_in place_after (λ e. clash (cc))

pub split_prev_determined : (v : View) (who : Who) (seen : Word) (tail : NodeNumber)
    → Determined (Allows split_prev.Post (v & who & seen & tail & tt))
split_prev_determined v who seen tail = determined

-- the oldest has node 2 before it
abbrev backed : View
backed = at_node (with_prev blank_node (node 2)) (seeing 38)

pub split_prev_takes_all :
    Allows split_prev.Post (backed & Leaver & word 38 & node 1 & tt)
    (stays backed (at (At.TakeCas Leaver (word 38) (node 1)))) → ⊥
split_prev_takes_all = apart_in place_after (λ e. clash (cc))

pub split_prev_splits_a_queue_of_one :
    Allows split_prev.Post (seeing 22 & Leaver & word 22 & node 1 & tt)
    (stays (seeing 22) (at (At.SplitStore Leaver (word 22) (node 1) none))) → ⊥
split_prev_splits_a_queue_of_one = apart_in place_after (λ e. clash (cc))

pub split_store_determined : (v : View) (who : Who) (seen : Word) (tail prev : NodeNumber)
    → Determined (Allows split_store.Post (v & who & seen & tail & prev & tt))
split_store_determined v who seen tail prev = determined

pub split_store_stores_the_old_tail :
    Allows split_store.Post (seeing 38 & Leaver & word 38 & node 1 & node 2 & tt)
    (links (seeing 38) (with_tail blank_node (node 1)) (at (At.SplitCas Leaver (word 38) (node 1)))) → ⊥
split_store_stores_the_old_tail = apart_by tail_after refl

pub split_store_completes_before_the_compare :
    Allows split_store.Post (seeing 38 & Leaver & word 38 & node 1 & node 2 & tt)
    (links (seeing 38) (with_tail blank_node (node 2)) (at (At.WakeStore Leaver (node 1) none))) → ⊥
split_store_completes_before_the_compare = apart_in place_after (λ e. clash (cc))

pub split_cas_determined : (v : View) (who : Who) (seen : Word) (tail : NodeNumber)
    → Determined (Allows split_cas.Post (v & who & seen & tail & tt))
split_cas_determined v who seen tail = determined

pub split_cas_restores_nothing_on_failure :
    Allows split_cas.Post (failing (seeing 38) & Leaver & word 38 & node 1 & tt)
    (stays (seeing 38) (walk_from (For.Queue Leaver) (word 38))) → ⊥
split_cas_restores_nothing_on_failure = apart_in place_after (λ e. clash (cc))

pub split_cas_completes_all :
    Allows split_cas.Post (seeing 38 & Leaver & word 38 & node 1 & tt)
    (writes (seeing 38) (word 34) Holds.Nothing (at (At.WakePrev Leaver (node 1)))) → ⊥
split_cas_completes_all = apart_in place_after (λ e. clash (cc))

pub split_cas_keeps_the_queue_lock :
    Allows split_cas.Post (seeing 38 & Leaver & word 38 & node 1 & tt)
    (writes (seeing 38) (word 38) Holds.Nothing (at (At.WakeStore Leaver (node 1) none))) → ⊥
split_cas_keeps_the_queue_lock = apart_by word_after refl

pub split_restore_determined : (v : View) (who : Who) (seen : Word) (tail : NodeNumber) (reported : Word)
    → Determined (Allows split_restore.Post (v & who & seen & tail & reported & tt))
split_restore_determined v who seen tail reported = determined

-- node 3 has come since, and the head's tail is node 2
abbrev split : View
split = at_node (with_tail blank_node (node 2)) (seeing 70)

pub split_restore_restores_nothing :
    Allows split_restore.Post (split & Leaver & word 38 & node 1 & word 54 & tt)
    (stays split (walk_from (For.Queue Leaver) (word 54))) → ⊥
split_restore_restores_nothing = apart_by tail_after refl

pub split_restore_walks_from_the_word_now :
    Allows split_restore.Post (split & Leaver & word 38 & node 1 & word 54 & tt)
    (links split (with_tail blank_node (node 1)) (walk_from (For.Queue Leaver) (word 70))) → ⊥
unfolding access_of
split_restore_walks_from_the_word_now = apart_by goes_to refl

pub take_cas_determined : (v : View) (who : Who) (seen : Word) (tail : NodeNumber)
    → Determined (Allows take_cas.Post (v & who & seen & tail & tt))
take_cas_determined v who seen tail = determined

pub take_cas_loses_the_downgraded_reader :
    Allows take_cas.Post (seeing 46 & Leaver & word 46 & node 1 & tt)
    (writes (seeing 46) (word 0) Holds.Nothing (at (At.WakePrev Leaver (node 1)))) → ⊥
take_cas_loses_the_downgraded_reader = apart_by word_after refl

pub take_cas_takes_though_made_to_fail :
    Allows take_cas.Post (failing (seeing 38) & Leaver & word 38 & node 1 & tt)
    (writes (seeing 38) (word 0) Holds.Nothing (at (At.WakePrev Leaver (node 1)))) → ⊥
take_cas_takes_though_made_to_fail = apart_by word_after refl

pub take_cas_completes_one :
    Allows take_cas.Post (seeing 38 & Leaver & word 38 & node 1 & tt)
    (writes (seeing 38) (word 0) Holds.Nothing (at (At.WakeStore Leaver (node 1) none))) → ⊥
take_cas_completes_one = apart_in place_after (λ e. clash (cc))
