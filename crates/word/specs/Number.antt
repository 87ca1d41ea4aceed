-- Thread and node numbers: thread t owns node t + 1, and node 0 is none.
-- Assumes nothing.
use Rattle.std.specs.Prelude.{ℕ, ◌+◌, ◌-◌, Bool, ltb, eqb, Option, Some, None}
use Rattle.word.specs.Base.{pick}
use Rattle.word.specs.declared.number.ThreadNumber.{ThreadNumber}
use Rattle.word.specs.declared.number.NodeNumber.{NodeNumber}

abbrev pub thread : ℕ → ThreadNumber
thread n = record { 0 = n }

abbrev pub node : ℕ → NodeNumber
node n = record { 0 = n }

abbrev pub none : NodeNumber
none = node 0

abbrev pub node_of : ThreadNumber → NodeNumber
node_of t = node (t.0 + 1)

abbrev pub is_none : NodeNumber → Bool
is_none n = eqb n.0 0

-- the thread that owns a node, as far as thread numbers reach
abbrev pub owner_of : NodeNumber → Option ThreadNumber
owner_of n = pick (ltb n.0 1) None (pick (ltb 256 n.0) None (Some (thread (n.0 - 1))))

-- a node in 1..count lies at its number less one
abbrev pub slot_of : NodeNumber → ℕ → Option ℕ
slot_of n count = pick (ltb n.0 1) None (pick (ltb count n.0) None (Some (n.0 - 1)))
