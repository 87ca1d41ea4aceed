-- The contracts of crate acquire: each public function's result is determined, and wrong answers that its contract
-- rules out. try_read, try_write, contend, wait. Assumes nothing.
use Rattle.std.specs.Prelude.{ℕ, Bool, true, false, refl}
use Rattle.std.proofs.lemmas.Bool.{false≢true}
use Rattle.std.proofs.Common.{sym}
use Rattle.word.specs.Flags.{word}
use Rattle.word.specs.Number.{thread}
use Rattle.word.specs.declared.flags.Word.{Word}
use Rattle.state.specs.Node.{blank_node, filled_of, with_completed}
use Rattle.state.specs.View.{at, end, walk_from, stays, writes, links, parks}
use Rattle.state.specs.declared.answer.Answer.TheVariants.{Done, No, Went, Yes}
use Rattle.state.specs.declared.holding.Holding.TheVariants as Holds
use Rattle.state.specs.declared.place.Place.TheVariants as At
use Rattle.state.specs.declared.place.Walk.TheVariants as For
use Rattle.state.specs.declared.place.Who.TheVariants.{Waiter}
use Rattle.state.specs.declared.view.View.{View}
use Rattle.acquire.proofs.lock_contended.contend_cas.Reads as contend_cas
use Rattle.acquire.proofs.lock_contended.contend_load.Reads as contend_load
use Rattle.acquire.proofs.lock_contended.register_cas.Reads as register_cas
use Rattle.acquire.proofs.try_read.try_read_cas.Reads as try_read_cas
use Rattle.acquire.proofs.try_read.try_read_load.Reads as try_read_load
use Rattle.acquire.proofs.try_write.try_write_or.Reads as try_write_or
use Rattle.acquire.proofs.wait.completed_load.Reads as completed_load
use Rattle.acquire.proofs.wait.park.Reads as park_step
use Rattle.contracts.specs.Allowed.{Determined, ◌&◌, Allows, apart_by, apart_in, clash, determined}
use Rattle.contracts.specs.Examples.{at_node, failing, seeing, tokened}
use Rattle.contracts.specs.Looks.{answer_after, holding_after, place_after, token_after, word_after}

-- ── try_read, and the first attempt of read ──

pub try_read_load_determined : (v : View) (blocking : Bool) → Determined (Allows try_read_load.Post (v & blocking & tt))
try_read_load_determined v blocking = determined

pub try_read_load_contends :
    Allows try_read_load.Post (seeing 1 & false & tt) (stays (seeing 1) (at (At.ContendLoad false 0))) → ⊥
try_read_load_contends = apart_in place_after (λ e. clash (cc))

pub read_load_says_no : Allows try_read_load.Post (seeing 1 & true & tt) (stays (seeing 1) (end No)) → ⊥
read_load_says_no = apart_in place_after (λ e. clash (cc))

pub try_read_load_grants_at_the_load :
    Allows try_read_load.Post (seeing 0 & false & tt) (writes (seeing 0) (word 17) Holds.Read (end Yes)) → ⊥
try_read_load_grants_at_the_load = apart_by word_after refl

pub try_read_cas_determined : (v : View) (blocking : Bool) (seen : Word)
    → Determined (Allows try_read_cas.Post (v & blocking & seen & tt))
try_read_cas_determined v blocking seen = determined

pub try_read_cas_leaves_the_word :
    Allows try_read_cas.Post (seeing 0 & false & word 0 & tt) (writes (seeing 0) (word 0) Holds.Read (end Yes)) → ⊥
try_read_cas_leaves_the_word = apart_by word_after refl

pub try_read_cas_goes_by_the_old_word :
    Allows try_read_cas.Post (seeing 1 & false & word 0 & tt) (stays (seeing 1) (at (At.TryReadCas false (word 0)))) → ⊥
try_read_cas_goes_by_the_old_word = apart_in place_after (λ e. clash (cc))

pub try_read_cas_grants_though_made_to_fail :
    Allows try_read_cas.Post (failing (seeing 0) & false & word 0 & tt)
    (writes (seeing 0) (word 17) Holds.Read (end Yes)) → ⊥
try_read_cas_grants_though_made_to_fail = apart_by word_after refl

-- ── try_write, and the first attempt of write ──

pub try_write_or_determined : (v : View) (blocking : Bool) → Determined (Allows try_write_or.Post (v & blocking & tt))
try_write_or_determined v blocking = determined

pub try_write_or_granted_beside_a_reader :
    Allows try_write_or.Post (seeing 17 & false & tt) (writes (seeing 17) (word 17) Holds.Write (end Yes)) → ⊥
try_write_or_granted_beside_a_reader = apart_in holding_after (λ e. clash (cc))

pub try_write_or_contends :
    Allows try_write_or.Post (seeing 17 & false & tt) (stays (seeing 17) (at (At.ContendLoad true 0))) → ⊥
try_write_or_contends = apart_in place_after (λ e. clash (cc))

pub try_write_or_refused_with_went :
    Allows try_write_or.Post (seeing 17 & false & tt) (stays (seeing 17) (end Went)) → ⊥
try_write_or_refused_with_went = apart_in answer_after (λ e. clash (cc))

pub try_write_or_refused_by_a_queue : Allows try_write_or.Post (seeing 18 & false & tt) (stays (seeing 18) (end No)) → ⊥
try_write_or_refused_by_a_queue = apart_by word_after refl

-- ── contend ──

pub contend_load_determined : (v : View) (writer : Bool) (reloads : ℕ)
    → Determined (Allows contend_load.Post (v & writer & reloads & tt))
contend_load_determined v writer reloads = determined

pub contend_load_reloads_an_eighth_time :
    Allows contend_load.Post (seeing 1 & true & 7 & tt) (stays (seeing 1) (at (At.ContendLoad true 8))) → ⊥
contend_load_reloads_an_eighth_time = apart_in place_after (λ e. clash (cc))

pub contend_load_fills_one_too_soon :
    Allows contend_load.Post (seeing 1 & true & 6 & tt)
    (links (seeing 1) (filled_of (thread 0) true (word 1)) (at (At.RegisterCas true 6 (word 1)))) → ⊥
contend_load_fills_one_too_soon = apart_in place_after (λ e. clash (cc))

pub contend_load_resets_the_reloads :
    Allows contend_load.Post (seeing 35 & true & 7 & tt)
    (links (seeing 35) (filled_of (thread 0) true (word 35)) (at (At.RegisterCas true 0 (word 35)))) → ⊥
contend_load_resets_the_reloads = apart_in place_after (λ e. clash (cc))

pub contend_load_reloads_a_queued_word :
    Allows contend_load.Post (seeing 35 & true & 0 & tt) (stays (seeing 35) (at (At.ContendLoad true 1))) → ⊥
contend_load_reloads_a_queued_word = apart_in place_after (λ e. clash (cc))

pub contend_cas_determined : (v : View) (writer : Bool) (reloads : ℕ) (seen : Word)
    → Determined (Allows contend_cas.Post (v & writer & reloads & seen & tt))
contend_cas_determined v writer reloads seen = determined

pub contend_cas_grants_without_locking :
    Allows contend_cas.Post (seeing 18 & true & 0 & word 18 & tt)
    (writes (seeing 18) (word 18) Holds.Write (end Done)) → ⊥
contend_cas_grants_without_locking = apart_by word_after refl

pub contend_cas_grants_read_to_a_writer :
    Allows contend_cas.Post (seeing 0 & true & 0 & word 0 & tt) (writes (seeing 0) (word 1) Holds.Read (end Done)) → ⊥
contend_cas_grants_read_to_a_writer = apart_in holding_after (λ e. clash (cc))

pub contend_cas_grants_though_made_to_fail :
    Allows contend_cas.Post (failing (seeing 0) & true & 0 & word 0 & tt)
    (writes (seeing 0) (word 1) Holds.Write (end Done)) → ⊥
contend_cas_grants_though_made_to_fail = apart_by word_after refl

pub register_cas_determined : (v : View) (writer : Bool) (reloads : ℕ) (seen : Word)
    → Determined (Allows register_cas.Post (v & writer & reloads & seen & tt))
register_cas_determined v writer reloads seen = determined

pub register_cas_first_walks :
    Allows register_cas.Post (seeing 17 & true & 7 & word 17 & tt)
    (writes (seeing 17) (word 19) Holds.Nothing (walk_from (For.Queue (Waiter true)) (word 19))) → ⊥
register_cas_first_walks = apart_in place_after (λ e. clash (cc))

-- thread 0 finds node 2 queued and the queue unlocked: it is to unlock it
pub register_cas_leaves_the_queue_locked :
    Allows register_cas.Post (seeing 35 & true & 0 & word 35 & tt)
    (writes (seeing 35) (word 23) Holds.Nothing (at (At.CompletedLoad true))) → ⊥
register_cas_leaves_the_queue_locked = apart_in place_after (λ e. clash (cc))

pub register_cas_walks_beside_the_owner :
    Allows register_cas.Post (seeing 39 & true & 0 & word 39 & tt)
    (writes (seeing 39) (word 23) Holds.Nothing (walk_from (For.Queue (Waiter true)) (word 23))) → ⊥
register_cas_walks_beside_the_owner = apart_in place_after (λ e. clash (cc))

-- ── wait ──

pub completed_load_determined : (v : View) (writer : Bool) → Determined (Allows completed_load.Post (v & writer & tt))
completed_load_determined v writer = determined

pub completed_load_parks_though_completed :
    Allows completed_load.Post (at_node (with_completed blank_node) (seeing 0) & true & tt)
    (stays (at_node (with_completed blank_node) (seeing 0)) (at (At.Park true))) → ⊥
completed_load_parks_though_completed = apart_in place_after (λ e. clash (cc))

pub completed_load_goes_by_the_token :
    Allows completed_load.Post (tokened (seeing 18) & true & tt)
    (stays (tokened (seeing 18)) (at (At.ContendLoad true 0))) → ⊥
completed_load_goes_by_the_token = apart_in place_after (λ e. clash (cc))

pub park_determined : (v : View) (writer : Bool) → Determined (Allows park_step.Post (v & writer & tt))
park_determined v writer = determined

pub park_keeps_the_token :
    Allows park_step.Post (tokened (seeing 18) & true & tt) (parks (seeing 18) true (at (At.CompletedLoad true))) → ⊥
park_keeps_the_token = apart_in token_after (λ e. false≢true (sym e))

pub park_made_to_fail_takes_the_token :
    Allows park_step.Post (failing (tokened (seeing 18)) & true & tt)
    (parks (seeing 18) false (at (At.CompletedLoad true))) → ⊥
park_made_to_fail_takes_the_token = apart_in token_after false≢true

pub park_contends_at_once :
    Allows park_step.Post (tokened (seeing 18) & true & tt) (parks (seeing 18) false (at (At.ContendLoad true 0))) → ⊥
park_contends_at_once = apart_in place_after (λ e. clash (cc))
