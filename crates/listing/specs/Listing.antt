-- The waiter listing of a machine, in document 01's words.
-- Assumes nothing.
use Rattle.std.specs.Prelude.{ℕ, zero, suc, ◌-◌, Bool, false, List, [], ◌∷◌, ◌++◌, ltb, leb, eqb, length, replicate}
use Rattle.std.specs.Prelude.{Option, Some, None, Result, Ok, Err}
use Rattle.word.specs.Base.{pick}
use Rattle.word.specs.Number.{none, is_none}
use Rattle.word.specs.Flags.{queued, to_node}
use Rattle.word.specs.declared.number.NodeNumber.{NodeNumber}
use Rattle.state.specs.Machine.{thread_limit, good_count, node_at}
use Rattle.state.specs.declared.answer.Refusal.{Refusal}
use Rattle.state.specs.declared.answer.Refusal.TheVariants.{Damaged}
use Rattle.state.specs.declared.machine.Machine.{Machine}
use Rattle.state.specs.declared.node.Node.{Node}
use Rattle.listing.specs.declared.listing.Waiters.{Waiters}

-- the nodes stood on, newest first; lost where a node is out of range, or there are more visits than the count
pub data Listed : Type 0 where
  lost : Listed
  listed : List NodeNumber → Listed

abbrev pub prepend : NodeNumber → Listed → Listed
prepend n lost = lost
prepend n (listed ns) = listed (n ∷ ns)

-- in range: 1..count
abbrev pub within : ℕ → NodeNumber → Bool
within count n = pick (ltb n.0 1) false (leb n.0 count)

abbrev pub node_by : Machine → NodeNumber → Node
node_by m n = node_at m (n.0 - 1)

-- none where it is out of range
abbrev pub node_in : Machine → NodeNumber → Option Node
node_in m n = pick (within m.count n) (Some (node_by m n)) None

abbrev pub link_of : Machine → NodeNumber → NodeNumber
link_of m n = to_node (node_by m n).next

-- each node stood on is listed
abbrev pub stand : Machine → NodeNumber → Listed → Listed
stand m at rest = pick (within m.count at) (prepend at rest) lost

-- goes on from a node, listed already, by next until it stands on the tail; `left` more visits are allowed
unfoldable pub to_tail : ℕ → Machine → NodeNumber → NodeNumber → Listed
to_tail zero m tail at = pick (eqb at.0 tail.0) (listed []) lost
to_tail (suc left) m tail at =
    pick (eqb at.0 tail.0) (listed []) (stand m (link_of m at) (to_tail left m tail (link_of m at)))

-- follows next until it meets a node whose tail is set, then goes on from that node
unfoldable pub to_set : ℕ → Machine → NodeNumber → Listed
to_set zero m at = lost
to_set (suc left) m at =
    stand m at
    (pick (is_none (node_by m at).tail) (to_set left m (link_of m at)) (to_tail left m (node_by m at).tail at))

-- from a node, with as many visits as the count
abbrev pub followed_of : Machine → NodeNumber → Listed
followed_of m head = to_set m.count m head

-- the same, the thread count tested first
abbrev pub from_head_of : Machine → NodeNumber → Listed
from_head_of m head = pick (good_count m.count) (followed_of m head) lost

-- the thread count is tested first; from the newest waiter; empty if unqueued
abbrev pub listed_of : Machine → Listed
listed_of m = pick (good_count m.count) (pick (queued m.word) (followed_of m (to_node m.word)) (listed [])) lost

-- an array's elements: the nodes, and none in the others
abbrev pub padded : List NodeNumber → List NodeNumber
padded ns = ns ++ replicate (thread_limit - length ns) none

-- the waiters, newest first
abbrev pub array_of : List NodeNumber → Waiters
array_of ns = record { nodes = padded ns; length = length ns }

-- 8 where the listing is lost
abbrev pub waiters_by : Listed → Result Waiters Refusal
waiters_by lost = Err Damaged
waiters_by (listed ns) = Ok (array_of ns)

abbrev pub waiters_of : Machine → Result Waiters Refusal
waiters_of m = waiters_by (listed_of m)
