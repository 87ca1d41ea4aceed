-- The contracts of crate release: each public function's result is determined, and wrong answers that its contract
-- rules out. read_unlock, write_unlock, release, downgrade. Assumes nothing.
use Rattle.std.specs.Prelude.{ℕ, refl}
use Rattle.word.specs.Flags.{word}
use Rattle.word.specs.Number.{node}
use Rattle.word.specs.declared.flags.Word.{Word}
use Rattle.word.specs.declared.number.NodeNumber.{NodeNumber}
use Rattle.state.specs.Access.{access_of}
use Rattle.state.specs.Node.{blank_node, with_next}
use Rattle.state.specs.View.{at, end, walk_from, stays, writes, subtracts}
use Rattle.state.specs.declared.answer.Answer.TheVariants.{Done}
use Rattle.state.specs.declared.holding.Holding.TheVariants as Holds
use Rattle.state.specs.declared.place.Place.TheVariants as At
use Rattle.state.specs.declared.place.Walk.TheVariants as For
use Rattle.state.specs.declared.place.Who.TheVariants.{Leaver}
use Rattle.state.specs.declared.view.View.{View}
use Rattle.release.proofs.downgrade.downgrade_cas.Reads as downgrade_cas
use Rattle.release.proofs.downgrade.downgrade_slow_cas.Reads as downgrade_slow_cas
use Rattle.release.proofs.read_unlock.read_unlock_cas.Reads as read_unlock_cas
use Rattle.release.proofs.read_unlock.read_unlock_load.Reads as read_unlock_load
use Rattle.release.proofs.read_unlock.subtract.Reads as subtract_step
use Rattle.release.proofs.unlock_contended.release_cas.Reads as release_cas
use Rattle.release.proofs.write_unlock.write_unlock_cas.Reads as write_unlock_cas
use Rattle.contracts.specs.Allowed.{Determined, ◌&◌, Allows, apart_by, apart_in, clash, determined}
use Rattle.contracts.specs.Examples.{at_node, failing, holds, seeing}
use Rattle.contracts.specs.Looks.{goes_to, holding_after, place_after, word_after}

-- ── read_unlock ──

pub read_unlock_load_determined : (v : View) → Determined (Allows read_unlock_load.Post (v & tt))
read_unlock_load_determined v = determined

abbrev reading : ℕ → View
reading w = holds Holds.Read (seeing w)

pub read_unlock_load_is_done_at_its_load :
    Allows read_unlock_load.Post (reading 17 & tt) (stays (reading 17) (end Done)) → ⊥
read_unlock_load_is_done_at_its_load = apart_in place_after (λ e. clash (cc))

pub read_unlock_load_counts_in_the_word_while_queued :
    Allows read_unlock_load.Post (reading 19 & tt) (stays (reading 19) (at (At.ReadUnlockCas (word 19)))) → ⊥
read_unlock_load_counts_in_the_word_while_queued = apart_in place_after (λ e. clash (cc))

pub read_unlock_load_goes_on_below_seventeen :
    Allows read_unlock_load.Post (reading 16 & tt) (stays (reading 16) (at (At.ReadUnlockCas (word 16)))) → ⊥
read_unlock_load_goes_on_below_seventeen e = clash (cc)

pub read_unlock_cas_determined : (v : View) (seen : Word) → Determined (Allows read_unlock_cas.Post (v & seen & tt))
read_unlock_cas_determined v seen = determined

pub read_unlock_cas_wakes_on_a_retracted_downgrade :
    Allows read_unlock_cas.Post (reading 31 & word 31 & tt)
    (writes (reading 31) (word 22) Holds.Nothing (at (At.ReleaseCas (word 22)))) → ⊥
read_unlock_cas_wakes_on_a_retracted_downgrade = apart_in place_after (λ e. clash (cc))

pub read_unlock_cas_leaves_locked :
    Allows read_unlock_cas.Post (reading 17 & word 17 & tt) (writes (reading 17) (word 1) Holds.Nothing (end Done)) → ⊥
read_unlock_cas_leaves_locked = apart_by word_after refl

pub read_unlock_cas_releases_though_made_to_fail :
    Allows read_unlock_cas.Post (failing (reading 17) & word 17 & tt)
    (writes (reading 17) (word 0) Holds.Nothing (end Done)) → ⊥
read_unlock_cas_releases_though_made_to_fail = apart_by word_after refl

pub subtract_determined : (v : View) (seen : Word) (tail : NodeNumber)
    → Determined (Allows subtract_step.Post (v & seen & tail & tt))
subtract_determined v seen tail = determined

-- the oldest waiter's next has so much
abbrev counting : ℕ → View
counting n = at_node (with_next blank_node (word n)) (reading 19)

pub subtract_last_reader_is_done :
    Allows subtract_step.Post (counting 16 & word 19 & node 1 & tt)
    (subtracts (counting 16) (with_next blank_node (word 0)) Holds.Nothing (end Done)) → ⊥
subtract_last_reader_is_done = apart_in place_after (λ e. clash (cc))

pub subtract_releases_before_the_last :
    Allows subtract_step.Post (counting 32 & word 19 & node 1 & tt)
    (subtracts (counting 32) (with_next blank_node (word 16)) Holds.Nothing (at (At.ReleaseCas (word 19)))) → ⊥
subtract_releases_before_the_last = apart_in place_after (λ e. clash (cc))

pub subtract_keeps_the_read :
    Allows subtract_step.Post (counting 32 & word 19 & node 1 & tt)
    (subtracts (counting 32) (with_next blank_node (word 16)) Holds.Read (end Done)) → ⊥
subtract_keeps_the_read = apart_in holding_after (λ e. clash (cc))

-- the word has QUEUE_LOCKED now, which the subtraction must not look at
pub subtract_goes_by_the_word :
    Allows subtract_step.Post (at_node (with_next blank_node (word 16)) (reading 23) & word 19 & node 1 & tt)
    (subtracts (reading 23) (with_next blank_node (word 0)) Holds.Nothing (end Done)) → ⊥
subtract_goes_by_the_word = apart_in place_after (λ e. clash (cc))

pub subtract_below_sixteen :
    Allows subtract_step.Post (counting 15 & word 19 & node 1 & tt)
    (subtracts (counting 15) (with_next blank_node (word 0)) Holds.Nothing (at (At.ReleaseCas (word 19)))) → ⊥
subtract_below_sixteen e = clash (cc)

-- ── write_unlock ──

abbrev writing : ℕ → View
writing w = holds Holds.Write (seeing w)

pub write_unlock_cas_determined : (v : View) → Determined (Allows write_unlock_cas.Post (v & tt))
write_unlock_cas_determined v = determined

pub write_unlock_cas_drops_the_queue :
    Allows write_unlock_cas.Post (writing 19 & tt) (writes (writing 19) (word 0) Holds.Nothing (end Done)) → ⊥
write_unlock_cas_drops_the_queue = apart_by word_after refl

pub write_unlock_cas_leaves_the_word :
    Allows write_unlock_cas.Post (writing 1 & tt) (writes (writing 1) (word 1) Holds.Nothing (end Done)) → ⊥
write_unlock_cas_leaves_the_word = apart_by word_after refl

pub write_unlock_cas_fails_for_no_cause :
    Allows write_unlock_cas.Post (failing (writing 1) & tt) (stays (writing 1) (at (At.ReleaseCas (word 1)))) → ⊥
write_unlock_cas_fails_for_no_cause = apart_by word_after refl

-- ── release ──

pub release_cas_determined : (v : View) (seen : Word) → Determined (Allows release_cas.Post (v & seen & tt))
release_cas_determined v seen = determined

pub release_cas_leaves_the_queue_alone :
    Allows release_cas.Post (writing 19 & word 19 & tt) (writes (writing 19) (word 18) Holds.Nothing (end Done)) → ⊥
release_cas_leaves_the_queue_alone = apart_by word_after refl

pub release_cas_walks_beside_the_owner :
    Allows release_cas.Post (writing 23 & word 23 & tt)
    (writes (writing 23) (word 22) Holds.Nothing (walk_from (For.Queue Leaver) (word 22))) → ⊥
release_cas_walks_beside_the_owner = apart_in place_after (λ e. clash (cc))

pub release_cas_walks_without_the_queue_lock :
    Allows release_cas.Post (writing 19 & word 19 & tt)
    (writes (writing 19) (word 18) Holds.Nothing (walk_from (For.Queue Leaver) (word 18))) → ⊥
release_cas_walks_without_the_queue_lock = apart_by word_after refl

-- ── downgrade ──

pub downgrade_cas_determined : (v : View) → Determined (Allows downgrade_cas.Post (v & tt))
downgrade_cas_determined v = determined

pub downgrade_cas_keeps_write :
    Allows downgrade_cas.Post (writing 1 & tt) (writes (writing 1) (word 17) Holds.Write (end Done)) → ⊥
downgrade_cas_keeps_write = apart_in holding_after (λ e. clash (cc))

pub downgrade_cas_leaves_the_word :
    Allows downgrade_cas.Post (writing 1 & tt) (writes (writing 1) (word 1) Holds.Read (end Done)) → ⊥
downgrade_cas_leaves_the_word = apart_by word_after refl

pub downgrade_cas_is_done_with_a_queue :
    Allows downgrade_cas.Post (writing 19 & tt) (writes (writing 19) (word 17) Holds.Read (end Done)) → ⊥
downgrade_cas_is_done_with_a_queue = apart_by word_after refl

pub downgrade_slow_cas_determined : (v : View) (seen : Word)
    → Determined (Allows downgrade_slow_cas.Post (v & seen & tt))
downgrade_slow_cas_determined v seen = determined

pub downgrade_slow_cas_takes_the_owner's_queue :
    Allows downgrade_slow_cas.Post (writing 23 & word 23 & tt)
    (writes (writing 23) (word 17) Holds.Read (walk_from For.Downgrade (word 23))) → ⊥
downgrade_slow_cas_takes_the_owner's_queue = apart_by word_after refl

pub downgrade_slow_cas_wakes_nobody :
    Allows downgrade_slow_cas.Post (writing 19 & word 19 & tt) (writes (writing 19) (word 17) Holds.Read (end Done)) → ⊥
downgrade_slow_cas_wakes_nobody = apart_in place_after (λ e. clash (cc))

pub downgrade_slow_cas_walks_the_new_word :
    Allows downgrade_slow_cas.Post (writing 35 & word 35 & tt)
    (writes (writing 35) (word 17) Holds.Read (walk_from For.Downgrade (word 17))) → ⊥
unfolding access_of
downgrade_slow_cas_walks_the_new_word = apart_by goes_to refl
