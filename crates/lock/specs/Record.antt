-- A machine with one thread's record stored.
-- Assumes nothing.
use Rattle.std.specs.Prelude.{ℕ, set}
use Rattle.state.specs.declared.machine.Machine.{Machine}
use Rattle.state.specs.declared.machine.Thread.{Thread}

abbrev pub with_thread : Machine → ℕ → Thread → Machine
with_thread m i t = record { count = m.count; word = m.word; nodes = m.nodes; threads = set m.threads i t }
