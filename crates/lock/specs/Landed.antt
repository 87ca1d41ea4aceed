-- A step's change stored in the machine: word, one node, the thread's record, then the token of the thread woken.
-- Assumes nothing.
use Rattle.std.specs.Prelude.{ℕ, true, ltb, set, Err, Ok, Option, Some, None}
use Rattle.word.specs.Base.{pick}
use Rattle.word.specs.declared.number.ThreadNumber.{ThreadNumber}
use Rattle.state.specs.View.{Stepped}
use Rattle.state.specs.Answer.{accepted_with}
use Rattle.state.specs.Machine.{thread_limit, thread_at, refused_of}
use Rattle.state.specs.declared.machine.Machine.{Machine}
use Rattle.state.specs.declared.machine.Thread.{Thread}
use Rattle.state.specs.declared.machine.Outcome.{Outcome}
use Rattle.lock.specs.Record.{with_thread}
use Rattle.state.specs.declared.view.Change.{Change}

abbrev pub tokened_of : Thread → Thread
tokened_of t = record { place = t.place; token = true; holding = t.holding }

-- completing sets the token of the node's owner, set before or not
abbrev pub token_set : Machine → ThreadNumber → Machine
token_set m t =
    pick (ltb t.0 thread_limit)
    (with_thread m t.0 (tokened_of (thread_at m t.0)))
    m

abbrev pub woken_of : Machine → Option ThreadNumber → Machine
woken_of m None = m
woken_of m (Some t) = token_set m t

abbrev pub stored_of : Machine → ℕ → ℕ → Change → Machine
stored_of m i k c =
    record {
      count = m.count;
      word = c.word;
      nodes = set m.nodes k c.node;
      threads = set m.threads i c.thread;
    }

abbrev pub applied_of : Machine → ℕ → ℕ → Change → Outcome
applied_of m i k c =
    record { machine = woken_of (stored_of m i k c) c.woken; reply = accepted_with c.answer c.woken }

abbrev pub landed_of : Machine → ℕ → ℕ → Stepped → Outcome
landed_of m i k (Ok c) = applied_of m i k c
landed_of m i k (Err r) = refused_of m r
