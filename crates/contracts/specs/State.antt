-- The contracts of crate state: each public function's result is determined, and two or three wrong answers that its
-- contract rules out. In the order of its files: access, answer, holding, machine, node, view. Assumes nothing.
use Rattle.std.specs.Prelude.{ℕ, Bool, true, false, refl, [], Err, Ok, Option, Some, None}
use Rattle.std.proofs.lemmas.Bool.{false≢true}
use Rattle.std.proofs.Common.{sym}
use Rattle.word.specs.Flags.{word}
use Rattle.word.specs.Number.{node, thread}
use Rattle.word.specs.declared.flags.Word.{Word}
use Rattle.word.specs.declared.number.NodeNumber.{NodeNumber}
use Rattle.word.specs.declared.number.ThreadNumber.{ThreadNumber}
use Rattle.state.specs.Access.{access_of, at_word_of, load_of, store_of, touched_of}
use Rattle.state.specs.Answer.{answer_text}
use Rattle.state.specs.Machine.{made_of, refused_of}
use Rattle.state.specs.Node.{blank_node, filled_of, with_completed, with_next, with_prev, with_tail}
use Rattle.state.specs.View.{at, end, stays, writes, links, subtracts, completes, parks}
use Rattle.state.specs.declared.access.Access.{Access}
use Rattle.state.specs.declared.access.Kind.TheVariants as Kinds
use Rattle.state.specs.declared.access.Location.TheVariants as Locations
use Rattle.state.specs.declared.answer.Answer.{Answer}
use Rattle.state.specs.declared.answer.Answer.TheVariants.{Done, No, Went, Yes}
use Rattle.state.specs.declared.answer.Refusal.{Refusal}
use Rattle.state.specs.declared.answer.Refusal.TheVariants.{CannotFail, Damaged, NoThread, NoToken, UnknownCode}
use Rattle.state.specs.declared.holding.Holding.{Holding}
use Rattle.state.specs.declared.holding.Holding.TheVariants as Holds
use Rattle.state.specs.declared.machine.Machine.{Machine}
use Rattle.state.specs.declared.node.Node.{Node}
use Rattle.state.specs.declared.place.Place.{Place}
use Rattle.state.specs.declared.place.Place.TheVariants as At
use Rattle.state.specs.declared.place.Walk.{Walk}
use Rattle.state.specs.declared.place.Walk.TheVariants as For
use Rattle.state.specs.declared.place.Who.{Who}
use Rattle.state.specs.declared.place.Who.TheVariants.{Leaver, Waiter}
use Rattle.state.specs.declared.view.Next.{Next}
use Rattle.state.specs.declared.view.View.{View}
use Rattle.state.proofs.access.Access.of.Reads as of
use Rattle.state.proofs.access.Access.touched.Reads as touched
use Rattle.state.proofs.answer.Answer.text.Reads as text
use Rattle.state.proofs.answer.Refusal.number.Reads as number
use Rattle.state.proofs.holding.Holding.downgraded.Reads as downgraded
use Rattle.state.proofs.holding.Holding.granted_read.Reads as granted_read
use Rattle.state.proofs.holding.Holding.granted_write.Reads as granted_write
use Rattle.state.proofs.holding.Holding.reads.Reads as reads_held
use Rattle.state.proofs.holding.Holding.released_read.Reads as released_read
use Rattle.state.proofs.holding.Holding.released_write.Reads as released_write
use Rattle.state.proofs.holding.Holding.writes.Reads as writes_held
use Rattle.state.proofs.machine.Machine.fresh.Reads as fresh
use Rattle.state.proofs.machine.Machine.refused.Reads as refused
use Rattle.state.proofs.machine.Thread.blank.Reads as blank_thread
use Rattle.state.proofs.machine.good_count.Reads as good_count
use Rattle.state.proofs.node.Node.blank.Reads as blank_node_fn
use Rattle.state.proofs.node.Node.filled.Reads as filled
use Rattle.state.proofs.node.Node.with_completed.Reads as with_completed_fn
use Rattle.state.proofs.node.Node.with_next.Reads as with_next_fn
use Rattle.state.proofs.node.Node.with_prev.Reads as with_prev_fn
use Rattle.state.proofs.node.Node.with_tail.Reads as with_tail_fn
use Rattle.state.proofs.view.Next.after_queue.Reads as after_queue
use Rattle.state.proofs.view.Next.at.Reads as at_place
use Rattle.state.proofs.view.Next.end.Reads as end_answer
use Rattle.state.proofs.view.Next.granted.Reads as granted_next
use Rattle.state.proofs.view.Next.walk_from.Reads as walk_from
use Rattle.state.proofs.view.View.agrees.Reads as agrees
use Rattle.state.proofs.view.View.completes.Reads as completes_node
use Rattle.state.proofs.view.View.links.Reads as links_node
use Rattle.state.proofs.view.View.parks.Reads as parks_thread
use Rattle.state.proofs.view.View.stays.Reads as stays_put
use Rattle.state.proofs.view.View.subtracts.Reads as subtracts_count
use Rattle.state.proofs.view.View.writes.Reads as writes_word
use Rattle.contracts.specs.Allowed.{Determined, ◌&◌, Allows, apart_by, apart_in, clash, determined}
use Rattle.contracts.specs.Examples.{failing, holds, machine_of, seeing, thread_of, tokened}
use Rattle.contracts.specs.Looks.{answer_after, holding_after, next_after, node_number, owner_number, place_after}
use Rattle.contracts.specs.Looks.{tail_after, token_after, woken_by, word_after}

-- ── access ──

pub of_determined : (me : ThreadNumber) (p : Place) → Determined (Allows of.Post (me & p & tt))
of_determined me p = determined

pub of_write_unlock_may_fail : Allows of.Post (thread 0 & At.WriteUnlockCas & tt) (at_word_of Kinds.WeakCompare) → ⊥
unfolding access_of
of_write_unlock_may_fail = apart_in (λ a. a.kind) (λ e. clash (cc))

pub of_downgrade_may_fail : Allows of.Post (thread 0 & At.DowngradeCas & tt) (at_word_of Kinds.WeakCompare) → ⊥
unfolding access_of
of_downgrade_may_fail = apart_in (λ a. a.kind) (λ e. clash (cc))

-- the word that the compare went by was 22, the one reported is 38
pub of_restore_at_the_new_head :
    Allows of.Post (thread 0 & At.SplitRestore Leaver (word 22) (node 1) (word 38) & tt)
    (store_of (Locations.Tail (node 2))) → ⊥
unfolding access_of
of_restore_at_the_new_head = apart_by (λ a. (touched_of a (thread 0)).0) refl

pub of_walk_stores_at_the_node_left :
    Allows of.Post (thread 0 & At.WalkPrev For.ReadUnlock (word 34) (node 2) (node 1) & tt)
    (store_of (Locations.Prev (node 2))) → ⊥
unfolding access_of
of_walk_stores_at_the_node_left = apart_by (λ a. (touched_of a (thread 0)).0) refl

pub touched_determined : (a : Access) (me : ThreadNumber) → Determined (Allows touched.Post (a & me & tt))
touched_determined a me = determined

pub touched_is_always_the_own :
    Allows touched.Post (load_of (Locations.Completed (node 2)) & thread 0 & tt) (node 1) → ⊥
touched_is_always_the_own = apart_by node_number refl

pub touched_at_the_word_is_none : Allows touched.Post (at_word_of Kinds.Load & thread 0 & tt) (node 0) → ⊥
touched_at_the_word_is_none = apart_by node_number refl

-- ── answer ──

pub number_determined : (refusal : Refusal) → Determined (Allows number.Post (refusal & tt))
number_determined refusal = determined

pub number_of_no_token_is_seven : Allows number.Post (NoToken & tt) 7 → ⊥
number_of_no_token_is_seven e = clash (cc)

pub number_of_cannot_fail_is_six : Allows number.Post (CannotFail & tt) 6 → ⊥
number_of_cannot_fail_is_six e = clash (cc)

pub number_from_zero : Allows number.Post (UnknownCode & tt) 0 → ⊥
number_from_zero e = clash (cc)

pub text_determined : (a : Answer) → Determined (Allows text.Post (a & tt))
text_determined a = determined

pub text_of_no_is_yes : Allows text.Post (No & tt) (answer_text Yes) → ⊥
text_of_no_is_yes = apart_by (λ t. t.length) refl

pub text_with_its_zeros : Allows text.Post (Done & tt) (record { bytes = (answer_text Done).bytes; length = 5 }) → ⊥
text_with_its_zeros = apart_by (λ t. t.length) refl

-- ── holding ──

pub reads_determined : (h : Holding) → Determined (Allows reads_held.Post (h & tt))
reads_determined h = determined

pub reads_of_a_writer : Allows reads_held.Post (Holds.Write & tt) 1 → ⊥
reads_of_a_writer e = clash (cc)

pub reads_of_a_reader_is_none : Allows reads_held.Post (Holds.Read & tt) 0 → ⊥
reads_of_a_reader_is_none e = clash (cc)

pub holding_writes_determined : (h : Holding) → Determined (Allows writes_held.Post (h & tt))
holding_writes_determined h = determined

pub writes_of_a_reader : Allows writes_held.Post (Holds.Read & tt) 1 → ⊥
writes_of_a_reader e = clash (cc)

pub writes_of_a_writer_is_none : Allows writes_held.Post (Holds.Write & tt) 0 → ⊥
writes_of_a_writer_is_none e = clash (cc)

pub granted_read_determined : (h : Holding) → Determined (Allows granted_read.Post (h & tt))
granted_read_determined h = determined

pub granted_read_gives_nothing : Allows granted_read.Post (Holds.Nothing & tt) Holds.Nothing → ⊥
granted_read_gives_nothing e = clash (cc)

pub granted_read_gives_write : Allows granted_read.Post (Holds.Nothing & tt) Holds.Write → ⊥
granted_read_gives_write e = clash (cc)

pub granted_write_determined : (h : Holding) → Determined (Allows granted_write.Post (h & tt))
granted_write_determined h = determined

pub granted_write_gives_nothing : Allows granted_write.Post (Holds.Nothing & tt) Holds.Nothing → ⊥
granted_write_gives_nothing e = clash (cc)

pub granted_write_gives_read : Allows granted_write.Post (Holds.Nothing & tt) Holds.Read → ⊥
granted_write_gives_read e = clash (cc)

pub released_read_determined : (h : Holding) → Determined (Allows released_read.Post (h & tt))
released_read_determined h = determined

pub released_read_keeps_it : Allows released_read.Post (Holds.Read & tt) Holds.Read → ⊥
released_read_keeps_it e = clash (cc)

pub released_read_gives_write : Allows released_read.Post (Holds.Read & tt) Holds.Write → ⊥
released_read_gives_write e = clash (cc)

pub released_write_determined : (h : Holding) → Determined (Allows released_write.Post (h & tt))
released_write_determined h = determined

pub released_write_keeps_it : Allows released_write.Post (Holds.Write & tt) Holds.Write → ⊥
released_write_keeps_it e = clash (cc)

pub released_write_downgrades : Allows released_write.Post (Holds.Write & tt) Holds.Read → ⊥
released_write_downgrades e = clash (cc)

pub holding_downgraded_determined : (h : Holding) → Determined (Allows downgraded.Post (h & tt))
holding_downgraded_determined h = determined

pub downgraded_keeps_write : Allows downgraded.Post (Holds.Write & tt) Holds.Write → ⊥
downgraded_keeps_write e = clash (cc)

pub downgraded_releases : Allows downgraded.Post (Holds.Write & tt) Holds.Nothing → ⊥
downgraded_releases e = clash (cc)

-- ── machine ──

pub blank_thread_determined : Determined (Allows blank_thread.Post tt)
blank_thread_determined = determined

pub blank_thread_has_a_token :
    Allows blank_thread.Post tt (record { place = At.Idle; token = true; holding = Holds.Nothing }) → ⊥
blank_thread_has_a_token = apart_in (λ t. t.token) (λ e. false≢true (sym e))

pub blank_thread_holds_read : Allows blank_thread.Post tt (thread_of At.Idle Holds.Read) → ⊥
blank_thread_holds_read = apart_in (λ t. t.holding) (λ e. clash (cc))

pub good_count_determined : (count : ℕ) → Determined (Allows good_count.Post (count & tt))
good_count_determined count = determined

pub good_count_of_none : Allows good_count.Post (0 & tt) true → ⊥
good_count_of_none e = false≢true (sym e)

pub good_count_below_the_limit_alone : Allows good_count.Post (8 & tt) false → ⊥
good_count_below_the_limit_alone = false≢true

pub good_count_past_the_limit : Allows good_count.Post (9 & tt) true → ⊥
good_count_past_the_limit e = false≢true (sym e)

pub fresh_determined : (count : ℕ) → Determined (Allows fresh.Post (count & tt))
fresh_determined count = determined

pub fresh_of_nine_is_fine : Allows fresh.Post (9 & tt) (record { machine = made_of 1; verdict = Ok tt }) → ⊥
fresh_of_nine_is_fine = apart_in (λ f. f.verdict) (λ e. clash (cc))

pub fresh_of_nine_has_nine :
    Allows fresh.Post (9 & tt) (record { machine = made_of 9; verdict = Err Damaged }) → ⊥
fresh_of_nine_has_nine = apart_by (λ f. f.machine.count) refl

pub fresh_of_eight_is_refused :
    Allows fresh.Post (8 & tt) (record { machine = made_of 1; verdict = Err Damaged }) → ⊥
fresh_of_eight_is_refused = apart_by (λ f. f.machine.count) refl

pub refused_determined : (m : Machine) (refusal : Refusal) → Determined (Allows refused.Post (m & refusal & tt))
refused_determined m refusal = determined

pub refused_starts_afresh :
    Allows refused.Post (machine_of 2 17 [] [] & NoThread & tt) (refused_of (made_of 2) NoThread) → ⊥
refused_starts_afresh = apart_by (λ o. o.machine.word.0) refl

pub refused_by_another : Allows refused.Post (made_of 2 & NoThread & tt) (refused_of (made_of 2) UnknownCode) → ⊥
refused_by_another = apart_in (λ o. o.reply) (λ e. clash (cc))

-- ── node ──

pub blank_node_determined : Determined (Allows blank_node_fn.Post tt)
blank_node_determined = determined

pub blank_node_is_completed : Allows blank_node_fn.Post tt (with_completed blank_node) → ⊥
blank_node_is_completed = apart_in (λ n. n.completed) (λ e. false≢true (sym e))

pub blank_node_is_its_own_tail : Allows blank_node_fn.Post tt (with_tail blank_node (node 1)) → ⊥
blank_node_is_its_own_tail = apart_by (λ n. n.tail.0) refl

pub filled_determined : (me : ThreadNumber) (writer : Bool) (seen : Word)
    → Determined (Allows filled.Post (me & writer & seen & tt))
filled_determined me writer seen = determined

pub filled_first_has_no_tail :
    Allows filled.Post (thread 0 & true & word 17 & tt) (with_tail (filled_of (thread 0) true (word 17)) (node 0)) → ⊥
filled_first_has_no_tail = apart_by (λ n. n.tail.0) refl

pub filled_second_is_a_tail :
    Allows filled.Post (thread 1 & true & word 19 & tt) (with_tail (filled_of (thread 1) true (word 19)) (node 2)) → ⊥
filled_second_is_a_tail = apart_by (λ n. n.tail.0) refl

pub filled_keeps_the_flags :
    Allows filled.Post (thread 0 & true & word 17 & tt) (with_next (filled_of (thread 0) true (word 17)) (word 17)) → ⊥
filled_keeps_the_flags = apart_by (λ n. n.next.0) refl

pub filled_as_a_reader : Allows filled.Post (thread 0 & true & word 17 & tt) (filled_of (thread 0) false (word 17)) → ⊥
filled_as_a_reader = apart_in (λ n. n.writer) false≢true

pub with_next_determined : (n : Node) (next : Word) → Determined (Allows with_next_fn.Post (n & next & tt))
with_next_determined n next = determined

pub with_next_stores_nothing : Allows with_next_fn.Post (blank_node & word 32 & tt) blank_node → ⊥
with_next_stores_nothing = apart_by (λ n. n.next.0) refl

pub with_next_forgets_completed :
    Allows with_next_fn.Post (with_completed blank_node & word 32 & tt) (with_next blank_node (word 32)) → ⊥
with_next_forgets_completed = apart_in (λ n. n.completed) false≢true

pub with_prev_determined : (n : Node) (prev : NodeNumber) → Determined (Allows with_prev_fn.Post (n & prev & tt))
with_prev_determined n prev = determined

pub with_prev_stores_nothing : Allows with_prev_fn.Post (blank_node & node 2 & tt) blank_node → ⊥
with_prev_stores_nothing = apart_by (λ n. n.prev.0) refl

pub with_prev_stores_the_tail : Allows with_prev_fn.Post (blank_node & node 2 & tt) (with_tail blank_node (node 2)) → ⊥
with_prev_stores_the_tail = apart_by (λ n. n.tail.0) refl

pub with_tail_determined : (n : Node) (tail : NodeNumber) → Determined (Allows with_tail_fn.Post (n & tail & tt))
with_tail_determined n tail = determined

pub with_tail_stores_nothing : Allows with_tail_fn.Post (blank_node & node 2 & tt) blank_node → ⊥
with_tail_stores_nothing = apart_by (λ n. n.tail.0) refl

pub with_tail_stores_the_prev : Allows with_tail_fn.Post (blank_node & node 2 & tt) (with_prev blank_node (node 2)) → ⊥
with_tail_stores_the_prev = apart_by (λ n. n.prev.0) refl

pub with_completed_determined : (n : Node) → Determined (Allows with_completed_fn.Post (n & tt))
with_completed_determined n = determined

pub with_completed_leaves_it_clear : Allows with_completed_fn.Post (blank_node & tt) blank_node → ⊥
with_completed_leaves_it_clear = apart_in (λ n. n.completed) false≢true

pub with_completed_takes_the_links_off :
    Allows with_completed_fn.Post (with_prev blank_node (node 2) & tt) (with_completed blank_node) → ⊥
with_completed_takes_the_links_off = apart_by (λ n. n.prev.0) refl

-- ── view: where a call goes on ──

pub at_determined : (p : Place) → Determined (Allows at_place.Post (p & tt))
at_determined p = determined

pub at_ends_the_call : Allows at_place.Post (At.Park true & tt) (end Went) → ⊥
at_ends_the_call = apart_in (λ n. n.place) (λ e. clash (cc))

pub at_answers_done : Allows at_place.Post (At.Park true & tt) (record { place = At.Park true; answer = Done }) → ⊥
at_answers_done = apart_in (λ n. n.answer) (λ e. clash (cc))

pub end_determined : (a : Answer) → Determined (Allows end_answer.Post (a & tt))
end_determined a = determined

pub end_answers_went : Allows end_answer.Post (Done & tt) (at At.Idle) → ⊥
end_answers_went = apart_in (λ n. n.answer) (λ e. clash (cc))

pub end_of_no_says_yes : Allows end_answer.Post (No & tt) (end Yes) → ⊥
end_of_no_says_yes = apart_in (λ n. n.answer) (λ e. clash (cc))

pub granted_determined : (blocking : Bool) → Determined (Allows granted_next.Post (blocking & tt))
granted_determined blocking = determined

pub granted_read_says_yes : Allows granted_next.Post (true & tt) (end Yes) → ⊥
granted_read_says_yes = apart_in (λ n. n.answer) (λ e. clash (cc))

pub granted_try_is_done : Allows granted_next.Post (false & tt) (end Done) → ⊥
granted_try_is_done = apart_in (λ n. n.answer) (λ e. clash (cc))

pub after_queue_determined : (who : Who) → Determined (Allows after_queue.Post (who & tt))
after_queue_determined who = determined

pub after_queue_a_waiter_is_done : Allows after_queue.Post (Waiter true & tt) (end Done) → ⊥
after_queue_a_waiter_is_done = apart_in (λ n. n.place) (λ e. clash (cc))

pub after_queue_a_leaver_waits : Allows after_queue.Post (Leaver & tt) (at (At.CompletedLoad false)) → ⊥
after_queue_a_leaver_waits = apart_in (λ n. n.place) (λ e. clash (cc))

pub walk_from_determined : (walk : Walk) (seen : Word) → Determined (Allows walk_from.Post (walk & seen & tt))
walk_from_determined walk seen = determined

pub walk_from_loads_next :
    Allows walk_from.Post (For.Downgrade & word 34 & tt) (at (At.WalkNext For.Downgrade (word 34) (node 2))) → ⊥
walk_from_loads_next = apart_in (λ n. n.place) (λ e. clash (cc))

pub walk_from_the_number_unshifted :
    Allows walk_from.Post (For.Downgrade & word 34 & tt) (at (At.WalkTail For.Downgrade (word 34) (node 34))) → ⊥
unfolding access_of
walk_from_the_number_unshifted = apart_by (λ n. (touched_of (access_of (thread 0) n.place) (thread 0)).0) refl

-- ── view: what a step changes ──

pub agrees_determined : (v : View) (seen : Word) → Determined (Allows agrees.Post (v & seen & tt))
agrees_determined v seen = determined

pub agrees_though_made_to_fail : Allows agrees.Post (failing (seeing 17) & word 17 & tt) true → ⊥
agrees_though_made_to_fail e = false≢true (sym e)

pub agrees_with_another_word : Allows agrees.Post (seeing 33 & word 17 & tt) true → ⊥
agrees_with_another_word e = false≢true (sym e)

pub agrees_never : Allows agrees.Post (seeing 17 & word 17 & tt) false → ⊥
agrees_never = false≢true

pub stays_determined : (v : View) (next : Next) → Determined (Allows stays_put.Post (v & next & tt))
stays_determined v next = determined

pub stays_takes_the_token :
    Allows stays_put.Post (tokened (seeing 17) & end Done & tt) (stays (seeing 17) (end Done)) → ⊥
stays_takes_the_token = apart_in token_after false≢true

pub stays_ends_the_call : Allows stays_put.Post (seeing 17 & at (At.Park true) & tt) (stays (seeing 17) (end Went)) → ⊥
stays_ends_the_call = apart_in place_after (λ e. clash (cc))

pub stays_answers_went : Allows stays_put.Post (seeing 17 & end Done & tt) (stays (seeing 17) (end Went)) → ⊥
stays_answers_went = apart_in answer_after (λ e. clash (cc))

pub writes_determined : (v : View) (w : Word) (h : Holding) (next : Next)
    → Determined (Allows writes_word.Post (v & w & h & next & tt))
writes_determined v w h next = determined

pub writes_leaves_the_word :
    Allows writes_word.Post (seeing 0 & word 1 & Holds.Write & end Done & tt)
    (writes (seeing 0) (word 0) Holds.Write (end Done)) → ⊥
writes_leaves_the_word = apart_by word_after refl

pub writes_grants_nothing :
    Allows writes_word.Post (seeing 0 & word 1 & Holds.Write & end Done & tt)
    (writes (seeing 0) (word 1) Holds.Nothing (end Done)) → ⊥
writes_grants_nothing = apart_in holding_after (λ e. clash (cc))

pub links_determined : (v : View) (n : Node) (next : Next) → Determined (Allows links_node.Post (v & n & next & tt))
links_determined v n next = determined

pub links_stores_nothing :
    Allows links_node.Post (seeing 34 & with_tail blank_node (node 1) & end Done & tt)
    (stays (seeing 34) (end Done)) → ⊥
links_stores_nothing = apart_by tail_after refl

pub links_clears_the_word :
    Allows links_node.Post (seeing 34 & blank_node & end Done & tt) (links (seeing 0) blank_node (end Done)) → ⊥
links_clears_the_word = apart_by word_after refl

pub subtracts_determined : (v : View) (n : Node) (h : Holding) (next : Next)
    → Determined (Allows subtracts_count.Post (v & n & h & next & tt))
subtracts_determined v n h next = determined

pub subtracts_keeps_the_read :
    Allows subtracts_count.Post (holds Holds.Read (seeing 19) & blank_node & Holds.Nothing & end Done & tt)
    (subtracts (seeing 19) blank_node Holds.Read (end Done)) → ⊥
subtracts_keeps_the_read = apart_in holding_after (λ e. clash (cc))

pub subtracts_nothing :
    Allows subtracts_count.Post (seeing 19 & with_next blank_node (word 16) & Holds.Nothing & end Done & tt)
    (subtracts (seeing 19) (with_next blank_node (word 32)) Holds.Nothing (end Done)) → ⊥
subtracts_nothing = apart_by next_after refl

pub completes_determined : (v : View) (n : Node) (woken : Option ThreadNumber) (next : Next)
    → Determined (Allows completes_node.Post (v & n & woken & next & tt))
completes_determined v n woken next = determined

pub completes_wakes_nobody :
    Allows completes_node.Post (seeing 0 & with_completed blank_node & Some (thread 1) & end Done & tt)
    (completes (seeing 0) (with_completed blank_node) None (end Done)) → ⊥
completes_wakes_nobody = apart_in woken_by (λ e. clash (cc))

pub completes_wakes_itself :
    Allows completes_node.Post (seeing 0 & with_completed blank_node & Some (thread 1) & end Done & tt)
    (completes (seeing 0) (with_completed blank_node) (Some (thread 0)) (end Done)) → ⊥
completes_wakes_itself = apart_by (λ s. owner_number (woken_by s)) refl

pub parks_determined : (v : View) (token : Bool) (next : Next)
    → Determined (Allows parks_thread.Post (v & token & next & tt))
parks_determined v token next = determined

pub parks_keeps_the_token :
    Allows parks_thread.Post (tokened (seeing 18) & false & at (At.CompletedLoad true) & tt)
    (parks (seeing 18) true (at (At.CompletedLoad true))) → ⊥
parks_keeps_the_token = apart_in token_after (λ e. false≢true (sym e))

pub parks_again :
    Allows parks_thread.Post (tokened (seeing 18) & false & at (At.CompletedLoad true) & tt)
    (parks (seeing 18) false (at (At.Park true))) → ⊥
parks_again = apart_in place_after (λ e. clash (cc))
