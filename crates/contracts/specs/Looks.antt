-- What to look at in a result to tell it from another: a number or a part of it, by crate. Of a refusal, 0 or the like.
-- Assumes nothing.
use Rattle.std.specs.Prelude.{ℕ, Bool, false, get_or, Err, Ok, Option, Some, None}
use Rattle.word.specs.Number.{thread}
use Rattle.word.specs.declared.flags.Word.{Word}
use Rattle.word.specs.declared.number.NodeNumber.{NodeNumber}
use Rattle.word.specs.declared.rules.ReadUnlocked.{ReadUnlocked}
use Rattle.word.specs.declared.rules.ReadUnlocked.TheVariants as ReadUnlocks
use Rattle.word.specs.declared.number.ThreadNumber.{ThreadNumber}
use Rattle.state.specs.View.{Stepped}
use Rattle.state.specs.Access.{access_of, touched_of}
use Rattle.state.specs.Node.{blank_node}
use Rattle.state.specs.declared.answer.Answer.{Answer}
use Rattle.state.specs.declared.answer.Answer.TheVariants.{Went}
use Rattle.state.specs.declared.holding.Holding.{Holding}
use Rattle.state.specs.declared.holding.Holding.TheVariants as Holds
use Rattle.state.specs.declared.node.Node.{Node}
use Rattle.state.specs.declared.place.Place.{Place}
use Rattle.state.specs.declared.place.Place.TheVariants as At
use Rattle.print.specs.declared.line.Line.{Line}

-- ── crate word ──

abbrev pub word_number : Word → ℕ
word_number w = w.0

abbrev pub node_number : NodeNumber → ℕ
node_number n = n.0

abbrev pub owner_number : Option ThreadNumber → ℕ
owner_number None = 0
owner_number (Some t) = t.0

abbrev pub read_locked_word : Option Word → ℕ
read_locked_word (Some w) = w.0
read_locked_word None = 0

abbrev pub read_unlocked_word : ReadUnlocked → ℕ
read_unlocked_word (ReadUnlocks.To w) = w.0
read_unlocked_word ReadUnlocks.Contended = 0
read_unlocked_word ReadUnlocks.Refused = 0

-- ── crate state ──

abbrev pub place_after : Stepped → Place
place_after (Ok c) = c.thread.place
place_after (Err r) = At.Idle

abbrev pub answer_after : Stepped → Answer
answer_after (Ok c) = c.answer
answer_after (Err r) = Went

abbrev pub woken_by : Stepped → Option ThreadNumber
woken_by (Ok c) = c.woken
woken_by (Err r) = None

abbrev pub holding_after : Stepped → Holding
holding_after (Ok c) = c.thread.holding
holding_after (Err r) = Holds.Nothing

abbrev pub token_after : Stepped → Bool
token_after (Ok c) = c.thread.token
token_after (Err r) = false

abbrev pub word_after : Stepped → ℕ
word_after (Ok c) = c.word.0
word_after (Err r) = 0

abbrev pub node_after : Stepped → Node
node_after (Ok c) = c.node
node_after (Err r) = blank_node

abbrev pub next_after : Stepped → ℕ
next_after s = (node_after s).next.0

abbrev pub prev_after : Stepped → ℕ
prev_after s = (node_after s).prev.0

abbrev pub tail_after : Stepped → ℕ
tail_after s = (node_after s).tail.0

-- the node that thread 0's next access lies in
abbrev pub goes_to : Stepped → ℕ
goes_to s = (touched_of (access_of (thread 0) (place_after s)) (thread 0)).0

-- ── crate print ──

-- the k-th byte of a line
abbrev pub byte_at : ℕ → Line → ℕ
byte_at k l = get_or l.bytes k 0
