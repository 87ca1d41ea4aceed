-- A waiter's node: blank, filled for registering, and with one field stored.
-- Assumes nothing.
use Rattle.std.specs.Prelude.{Bool, true, false}
use Rattle.word.specs.Base.{pick}
use Rattle.word.specs.Number.{none, node_of}
use Rattle.word.specs.Flags.{word, queued, without_flags}
use Rattle.word.specs.declared.flags.Word.{Word}
use Rattle.word.specs.declared.number.NodeNumber.{NodeNumber}
use Rattle.word.specs.declared.number.ThreadNumber.{ThreadNumber}
use Rattle.state.specs.declared.node.Node.{Node}

abbrev pub blank_node : Node
blank_node = record { next = word 0; prev = none; tail = none; writer = false; completed = false }

-- writer mark by the call, completed clear, prev none, next = word without flags; if unqueued,
-- tail = itself; if queued, tail none
abbrev pub filled_of : ThreadNumber → Bool → Word → Node
filled_of me writer seen =
    record {
      next = without_flags seen;
      prev = none;
      tail = pick (queued seen) none (node_of me);
      writer = writer;
      completed = false;
    }

abbrev pub with_next : Node → Word → Node
with_next n x = record { next = x; prev = n.prev; tail = n.tail; writer = n.writer; completed = n.completed }

abbrev pub with_prev : Node → NodeNumber → Node
with_prev n x = record { next = n.next; prev = x; tail = n.tail; writer = n.writer; completed = n.completed }

abbrev pub with_tail : Node → NodeNumber → Node
with_tail n x = record { next = n.next; prev = n.prev; tail = x; writer = n.writer; completed = n.completed }

abbrev pub with_completed : Node → Node
with_completed n = record { next = n.next; prev = n.prev; tail = n.tail; writer = n.writer; completed = true }
