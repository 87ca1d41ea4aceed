-- The machine and its limit; a fresh one; one handed back with a refusal.
-- Assumes nothing.
use Rattle.std.specs.Prelude.{ℕ, Bool, false, ◌≡◌, ltb, leb, length, replicate, get_or, Err, Ok}
use Rattle.word.specs.Base.{pick}
use Rattle.word.specs.Flags.{word}
use Rattle.state.specs.Node.{blank_node}
use Rattle.state.specs.declared.node.Node.{Node}
use Rattle.state.specs.declared.holding.Holding.TheVariants.{Nothing}
use Rattle.state.specs.declared.place.Place.TheVariants.{Idle}
use Rattle.state.specs.declared.answer.Refusal.{Refusal}
use Rattle.state.specs.declared.answer.Refusal.TheVariants.{Damaged}
use Rattle.state.specs.declared.machine.Thread.{Thread}
use Rattle.state.specs.declared.machine.Machine.{Machine}
use Rattle.state.specs.declared.machine.Fresh.{Fresh}
use Rattle.state.specs.declared.machine.Outcome.{Outcome}

-- the thread limit
abbrev pub thread_limit : ℕ
thread_limit = 8

-- a machine has 1 to thread_limit threads
abbrev pub good_count : ℕ → Bool
good_count count = pick (ltb count 1) false (leb count thread_limit)

abbrev pub blank_thread : Thread
blank_thread = record { place = Idle; token = false; holding = Nothing }

abbrev pub thread_at : Machine → ℕ → Thread
thread_at m t = get_or m.threads t blank_thread

abbrev pub node_at : Machine → ℕ → Node
node_at m k = get_or m.nodes k blank_node

-- the arrays of a machine have their declared length, as every value that the code can hold does
pub record Sized (m : Machine) : Type 0 where
  pub nodes : length m.nodes ≡ thread_limit
  pub threads : length m.threads ≡ thread_limit

-- word 0, all threads idle, no tokens, nothing held
abbrev pub made_of : ℕ → Machine
made_of count =
    record {
      count = count;
      word = word 0;
      nodes = replicate thread_limit blank_node;
      threads = replicate thread_limit blank_thread;
    }

-- a count outside 1..thread_limit is 8, and gives a fresh one-thread machine
abbrev pub fresh_of : ℕ → Fresh
fresh_of count =
    pick (good_count count)
    (record { machine = made_of count; verdict = Ok tt })
    (record { machine = made_of 1; verdict = Err Damaged })

-- a refusal leaves the machine unchanged
abbrev pub refused_of : Machine → Refusal → Outcome
refused_of m r = record { machine = m; reply = Err r }
