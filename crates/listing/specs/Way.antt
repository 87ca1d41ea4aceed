-- A listing on its way: what is listed so far, in an array whose others are none, and what a visit of a node adds.
-- Assumes nothing.
use Rattle.std.specs.Prelude.{◌+◌, ◌≤◌, ◌<◌, false, true, List, [], ◌∷◌, ◌++◌, ◌⊎◌, ◌≡◌, take}
use Rattle.word.specs.declared.number.NodeNumber.{NodeNumber}
use Rattle.state.specs.declared.machine.Machine.{Machine}
use Rattle.state.specs.declared.node.Node.{Node}
use Rattle.listing.specs.Listing.{within, node_by, array_of}
use Rattle.listing.specs.declared.listing.Waiters.{Waiters}

-- what is listed so far
abbrev pub listed_in : Waiters → List NodeNumber
listed_in w = take w.length w.nodes

-- and nothing else is in the array
abbrev pub IsPadded : Waiters → Type 0
IsPadded w = w ≡ array_of (listed_in w)

-- the node is in range and is listed after the others, which are fewer than the count
pub record Stood (m : Machine) (at : NodeNumber) (before after : Waiters) (n : Node) : Type 0 where
  pub inside : within m.count at ≡ true
  pub its : n ≡ node_by m at
  pub room : before.length < m.count
  pub one_more : after.length ≡ before.length + 1
  pub listed : listed_in after ≡ listed_in before ++ at ∷ []
  pub padded : IsPadded after

-- no visit is left, or the node is out of range
abbrev pub CannotStand : Machine → NodeNumber → Waiters → Type 0
CannotStand m at before = (m.count ≤ before.length) ⊎ (within m.count at ≡ false)
