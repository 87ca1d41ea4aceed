-- The contracts of crate word: each public function's result is determined, and two or three wrong answers that its
-- contract rules out. In the order of its files: numbers, flags, rules. Crate state's functions are in State.antt.
-- Assumes nothing.
use Rattle.std.specs.Prelude.{ℕ, ◌-◌, ◌^◌, true, false, refl, Some, None}
use Rattle.std.proofs.lemmas.Bool.{false≢true}
use Rattle.std.proofs.Common.{sym}
use Rattle.word.specs.Flags.{word}
use Rattle.word.specs.Number.{node, thread}
use Rattle.word.specs.declared.flags.Word.{Word}
use Rattle.word.specs.declared.number.NodeNumber.{NodeNumber}
use Rattle.word.specs.declared.number.ThreadNumber.{ThreadNumber}
use Rattle.word.specs.declared.rules.ReadUnlocked.TheVariants as ReadUnlocks
use Rattle.word.proofs.flags.Word.clear_downgraded.Reads as clear_downgraded
use Rattle.word.proofs.flags.Word.clear_locked.Reads as clear_locked
use Rattle.word.proofs.flags.Word.clear_queue_locked.Reads as clear_queue_locked
use Rattle.word.proofs.flags.Word.downgraded.Reads as downgraded
use Rattle.word.proofs.flags.Word.locked.Reads as locked
use Rattle.word.proofs.flags.Word.queue_locked.Reads as queue_locked
use Rattle.word.proofs.flags.Word.queued.Reads as queued
use Rattle.word.proofs.flags.Word.read_lock.Reads as read_lock
use Rattle.word.proofs.flags.Word.read_unlock.Reads as read_unlock
use Rattle.word.proofs.flags.Word.registered.Reads as registered
use Rattle.word.proofs.flags.Word.set_downgraded.Reads as set_downgraded
use Rattle.word.proofs.flags.Word.set_locked.Reads as set_locked
use Rattle.word.proofs.flags.Word.set_queue_locked.Reads as set_queue_locked
use Rattle.word.proofs.flags.Word.taken.Reads as taken
use Rattle.word.proofs.flags.Word.to_node.Reads as to_node
use Rattle.word.proofs.flags.Word.without_flags.Reads as without_flags
use Rattle.word.proofs.flags.Word.write_lock.Reads as write_lock
use Rattle.word.proofs.number.NodeNumber.is_none.Reads as is_none
use Rattle.word.proofs.number.NodeNumber.owner.Reads as owner
use Rattle.word.proofs.number.NodeNumber.slot.Reads as slot
use Rattle.word.proofs.number.ThreadNumber.node.Reads as node
use Rattle.contracts.specs.Allowed.{Determined, ◌&◌, Allows, apart_by, clash, determined}
use Rattle.contracts.specs.Looks.{node_number, owner_number, read_locked_word, read_unlocked_word, word_number}

-- ── numbers ──

pub node_determined : (t : ThreadNumber) → Determined (Allows node.Post (t & tt))
node_determined t = determined

pub node_keeps_the_number : Allows node.Post (thread 0 & tt) (node 0) → ⊥
node_keeps_the_number = apart_by node_number refl

pub node_wraps_at_the_last_thread : Allows node.Post (thread 255 & tt) (node 0) → ⊥
node_wraps_at_the_last_thread = apart_by node_number refl

pub is_none_determined : (n : NodeNumber) → Determined (Allows is_none.Post (n & tt))
is_none_determined n = determined

pub is_none_denied_of_zero : Allows is_none.Post (node 0 & tt) false → ⊥
is_none_denied_of_zero = false≢true

pub is_none_said_of_the_first : Allows is_none.Post (node 1 & tt) true → ⊥
is_none_said_of_the_first e = false≢true (sym e)

pub owner_determined : (n : NodeNumber) → Determined (Allows owner.Post (n & tt))
owner_determined n = determined

pub owner_keeps_one : Allows owner.Post (node 1 & tt) (Some (thread 1)) → ⊥
owner_keeps_one = apart_by owner_number refl

pub owner_of_none_is_a_thread : Allows owner.Post (node 0 & tt) (Some (thread 0)) → ⊥
owner_of_none_is_a_thread e = clash (cc)

pub owner_wraps_past_the_last_thread : Allows owner.Post (node 257 & tt) (Some (thread 0)) → ⊥
owner_wraps_past_the_last_thread e = clash (cc)

pub slot_determined : (n : NodeNumber) (count : ℕ) → Determined (Allows slot.Post (n & count & tt))
slot_determined n count = determined

pub slot_keeps_the_number : Allows slot.Post (node 8 & 8 & tt) (Some 8) → ⊥
slot_keeps_the_number e = clash (cc)

pub slot_past_the_count : Allows slot.Post (node 2 & 1 & tt) (Some 1) → ⊥
slot_past_the_count e = clash (cc)

-- ── flags ──

pub locked_determined : (w : Word) → Determined (Allows locked.Post (w & tt))
locked_determined w = determined

pub locked_read_off_queued : Allows locked.Post (word 2 & tt) true → ⊥
locked_read_off_queued e = false≢true (sym e)

pub locked_missed_beside_a_reader : Allows locked.Post (word 17 & tt) false → ⊥
locked_missed_beside_a_reader = false≢true

pub queued_determined : (w : Word) → Determined (Allows queued.Post (w & tt))
queued_determined w = determined

pub queued_read_off_locked : Allows queued.Post (word 17 & tt) true → ⊥
queued_read_off_locked e = false≢true (sym e)

pub queued_missed_with_the_queue_locked : Allows queued.Post (word 22 & tt) false → ⊥
queued_missed_with_the_queue_locked = false≢true

pub queue_locked_determined : (w : Word) → Determined (Allows queue_locked.Post (w & tt))
queue_locked_determined w = determined

pub queue_locked_read_off_queued : Allows queue_locked.Post (word 18 & tt) true → ⊥
queue_locked_read_off_queued e = false≢true (sym e)

pub queue_locked_missed : Allows queue_locked.Post (word 22 & tt) false → ⊥
queue_locked_missed = false≢true

pub downgraded_determined : (w : Word) → Determined (Allows downgraded.Post (w & tt))
downgraded_determined w = determined

pub downgraded_read_off_the_number : Allows downgraded.Post (word 16 & tt) true → ⊥
downgraded_read_off_the_number e = false≢true (sym e)

pub downgraded_missed : Allows downgraded.Post (word 31 & tt) false → ⊥
downgraded_missed = false≢true

pub set_locked_determined : (w : Word) → Determined (Allows set_locked.Post (w & tt))
set_locked_determined w = determined

pub set_locked_adds_again : Allows set_locked.Post (word 17 & tt) (word 18) → ⊥
set_locked_adds_again = apart_by word_number refl

pub set_locked_leaves_the_word : Allows set_locked.Post (word 18 & tt) (word 18) → ⊥
set_locked_leaves_the_word = apart_by word_number refl

pub clear_locked_determined : (w : Word) → Determined (Allows clear_locked.Post (w & tt))
clear_locked_determined w = determined

pub clear_locked_takes_off_a_clear_flag : Allows clear_locked.Post (word 16 & tt) (word 15) → ⊥
clear_locked_takes_off_a_clear_flag = apart_by word_number refl

pub clear_locked_clears_queued : Allows clear_locked.Post (word 19 & tt) (word 17) → ⊥
clear_locked_clears_queued = apart_by word_number refl

pub set_queue_locked_determined : (w : Word) → Determined (Allows set_queue_locked.Post (w & tt))
set_queue_locked_determined w = determined

pub set_queue_locked_adds_again : Allows set_queue_locked.Post (word 22 & tt) (word 26) → ⊥
set_queue_locked_adds_again = apart_by word_number refl

pub set_queue_locked_sets_downgraded : Allows set_queue_locked.Post (word 18 & tt) (word 26) → ⊥
set_queue_locked_sets_downgraded = apart_by word_number refl

pub clear_queue_locked_determined : (w : Word) → Determined (Allows clear_queue_locked.Post (w & tt))
clear_queue_locked_determined w = determined

pub clear_queue_locked_takes_off_a_clear_flag : Allows clear_queue_locked.Post (word 18 & tt) (word 14) → ⊥
clear_queue_locked_takes_off_a_clear_flag = apart_by word_number refl

pub clear_queue_locked_leaves_it : Allows clear_queue_locked.Post (word 22 & tt) (word 22) → ⊥
clear_queue_locked_leaves_it = apart_by word_number refl

pub set_downgraded_determined : (w : Word) → Determined (Allows set_downgraded.Post (w & tt))
set_downgraded_determined w = determined

pub set_downgraded_adds_again : Allows set_downgraded.Post (word 31 & tt) (word 39) → ⊥
set_downgraded_adds_again = apart_by word_number refl

pub set_downgraded_adds_to_the_number : Allows set_downgraded.Post (word 23 & tt) (word 39) → ⊥
set_downgraded_adds_to_the_number = apart_by word_number refl

pub clear_downgraded_determined : (w : Word) → Determined (Allows clear_downgraded.Post (w & tt))
clear_downgraded_determined w = determined

pub clear_downgraded_takes_off_a_clear_flag : Allows clear_downgraded.Post (word 23 & tt) (word 15) → ⊥
clear_downgraded_takes_off_a_clear_flag = apart_by word_number refl

pub clear_downgraded_leaves_it : Allows clear_downgraded.Post (word 31 & tt) (word 31) → ⊥
clear_downgraded_leaves_it = apart_by word_number refl

pub without_flags_determined : (w : Word) → Determined (Allows without_flags.Post (w & tt))
without_flags_determined w = determined

pub without_flags_keeps_the_flags_alone : Allows without_flags.Post (word 31 & tt) (word 15) → ⊥
without_flags_keeps_the_flags_alone = apart_by word_number refl

pub without_flags_rounds_up : Allows without_flags.Post (word 15 & tt) (word 16) → ⊥
without_flags_rounds_up = apart_by word_number refl

pub to_node_determined : (w : Word) → Determined (Allows to_node.Post (w & tt))
to_node_determined w = determined

pub to_node_rounds_up : Allows to_node.Post (word 31 & tt) (node 2) → ⊥
to_node_rounds_up = apart_by node_number refl

pub to_node_one_less : Allows to_node.Post (word 18 & tt) (node 0) → ⊥
to_node_one_less = apart_by node_number refl

-- ── rules ──

pub write_lock_determined : (w : Word) → Determined (Allows write_lock.Post (w & tt))
write_lock_determined w = determined

pub write_lock_over_a_lock : Allows write_lock.Post (word 17 & tt) (Some (word 17)) → ⊥
write_lock_over_a_lock e = clash (cc)

pub write_lock_refused_by_a_queue : Allows write_lock.Post (word 18 & tt) None → ⊥
write_lock_refused_by_a_queue e = clash (cc)

pub read_lock_determined : (w : Word) → Determined (Allows read_lock.Post (w & tt))
read_lock_determined w = determined

pub read_lock_beside_a_writer : Allows read_lock.Post (word 1 & tt) (Some (word 17)) → ⊥
read_lock_beside_a_writer e = clash (cc)

pub read_lock_of_a_queued_word : Allows read_lock.Post (word 18 & tt) (Some (word 35)) → ⊥
read_lock_of_a_queued_word e = clash (cc)

pub read_lock_wraps_at_the_top : Allows read_lock.Post (word (2 ^ 64 - 16) & tt) (Some (word 1)) → ⊥
read_lock_wraps_at_the_top e = clash (cc)

pub read_lock_refused_one_too_soon : Allows read_lock.Post (word (2 ^ 64 - 19) & tt) None → ⊥
read_lock_refused_one_too_soon e = clash (cc)

pub read_lock_leaves_locked_clear : Allows read_lock.Post (word 16 & tt) (Some (word 32)) → ⊥
read_lock_leaves_locked_clear = apart_by read_locked_word refl

pub read_unlock_determined : (w : Word) → Determined (Allows read_unlock.Post (w & tt))
read_unlock_determined w = determined

pub read_unlock_last_leaves_locked : Allows read_unlock.Post (word 17 & tt) (ReadUnlocks.To (word 1)) → ⊥
read_unlock_last_leaves_locked = apart_by read_unlocked_word refl

pub read_unlock_clears_locked_for_the_others : Allows read_unlock.Post (word 33 & tt) (ReadUnlocks.To (word 16)) → ⊥
read_unlock_clears_locked_for_the_others = apart_by read_unlocked_word refl

pub read_unlock_of_sixteen : Allows read_unlock.Post (word 16 & tt) (ReadUnlocks.To (word 0)) → ⊥
read_unlock_of_sixteen e = clash (cc)

pub read_unlock_contends_though_downgraded : Allows read_unlock.Post (word 31 & tt) ReadUnlocks.Contended → ⊥
read_unlock_contends_though_downgraded e = clash (cc)

pub registered_determined : (w : Word) (me : ThreadNumber) → Determined (Allows registered.Post (w & me & tt))
registered_determined w me = determined

pub registered_first_locks_the_queue : Allows registered.Post (word 17 & thread 0 & tt) (word 23) → ⊥
registered_first_locks_the_queue = apart_by word_number refl

pub registered_second_leaves_it_unlocked : Allows registered.Post (word 19 & thread 1 & tt) (word 35) → ⊥
registered_second_leaves_it_unlocked = apart_by word_number refl

pub registered_loses_downgraded : Allows registered.Post (word 31 & thread 1 & tt) (word 39) → ⊥
registered_loses_downgraded = apart_by word_number refl

pub taken_determined : (w : Word) → Determined (Allows taken.Post (w & tt))
taken_determined w = determined

pub taken_loses_the_downgraded_reader : Allows taken.Post (word 30 & tt) (word 0) → ⊥
taken_loses_the_downgraded_reader = apart_by word_number refl

pub taken_invents_a_reader : Allows taken.Post (word 22 & tt) (word 17) → ⊥
taken_invents_a_reader = apart_by word_number refl
