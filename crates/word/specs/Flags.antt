-- The word: four flags, and 16 times a number. One law for each flag's test, setting and clearing.
-- Assumes nothing.
use Rattle.std.specs.Prelude.{ℕ, ◌+◌, ◌-◌, ◌*◌, ◌/◌, ◌%◌, Bool, eqb}
use Rattle.word.specs.Base.{pick}
use Rattle.word.specs.Number.{node}
use Rattle.word.specs.declared.number.NodeNumber.{NodeNumber}
use Rattle.word.specs.declared.flags.Word.{Word}

abbrev pub word : ℕ → Word
word n = record { 0 = n }

abbrev pub LOCKED : ℕ
LOCKED = 1

abbrev pub QUEUED : ℕ
QUEUED = 2

abbrev pub QUEUE_LOCKED : ℕ
QUEUE_LOCKED = 4

abbrev pub DOWNGRADED : ℕ
DOWNGRADED = 8

abbrev pub SINGLE : ℕ
SINGLE = 16

-- is the flag, a power of two, set in the word
abbrev pub has : ℕ → Word → Bool
has flag w = eqb (w.0 / flag % 2) 1

abbrev pub set_flag : ℕ → Word → Word
set_flag flag w = pick (has flag w) w (word (w.0 + flag))

abbrev pub clear_flag : ℕ → Word → Word
clear_flag flag w = pick (has flag w) (word (w.0 - flag)) w

abbrev pub locked : Word → Bool
locked w = has LOCKED w

abbrev pub queued : Word → Bool
queued w = has QUEUED w

abbrev pub queue_locked : Word → Bool
queue_locked w = has QUEUE_LOCKED w

abbrev pub downgraded : Word → Bool
downgraded w = has DOWNGRADED w

abbrev pub set_locked : Word → Word
set_locked w = set_flag LOCKED w

abbrev pub clear_locked : Word → Word
clear_locked w = clear_flag LOCKED w

abbrev pub set_queue_locked : Word → Word
set_queue_locked w = set_flag QUEUE_LOCKED w

abbrev pub clear_queue_locked : Word → Word
clear_queue_locked w = clear_flag QUEUE_LOCKED w

abbrev pub set_downgraded : Word → Word
set_downgraded w = set_flag DOWNGRADED w

abbrev pub clear_downgraded : Word → Word
clear_downgraded w = clear_flag DOWNGRADED w

abbrev pub without_flags : Word → Word
without_flags w = word (w.0 / SINGLE * SINGLE)

-- the node that a queued word, or a next, links to: its sixteenth rounded down
abbrev pub to_node : Word → NodeNumber
to_node w = node (w.0 / SINGLE)
