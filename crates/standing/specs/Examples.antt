-- Whether node none is among the waiters of written machines: it is where their array has room, and where the listing
-- is refused.
-- Assumes nothing.
use Rattle.std.specs.Prelude.{ℕ, true, false, [], ◌∷◌, ◌≡◌, refl}
use Rattle.word.specs.Number.{node, none}
use Rattle.word.specs.Flags.{word}
use Rattle.state.specs.Machine.{blank_thread}
use Rattle.state.specs.declared.machine.Machine.{Machine}
use Rattle.state.specs.declared.node.Node.{Node}
use Rattle.listing.specs.Listing.{listed, waiters_by, to_tail, to_set}
use Rattle.standing.specs.Look.{among, among_below}
use Rattle.standing.specs.Stands.{in_queue_of}

-- a node by its next and its tail
abbrev waits : ℕ → ℕ → Node
waits next tail = record { next = word next; prev = none; tail = node tail; writer = true; completed = false }

-- one thread, and a node that links to itself
abbrev alone : ℕ → ℕ → Machine
alone w tail =
    record { count = 1; word = word w; nodes = waits 16 tail ∷ []; threads = blank_thread ∷ [] }

pub nobody_waits : in_queue_of (alone 0 0) none ≡ true
unfolding to_tail to_set among_below
nobody_waits = refl

pub one_waits : in_queue_of (alone 19 1) none ≡ true
unfolding to_tail to_set among_below
one_waits = refl

-- no tail is met
pub refused : in_queue_of (alone 19 0) none ≡ true
unfolding to_tail to_set among_below
refused = refl

-- no room, and each of them is found
pub eight_wait :
    among (waiters_by (listed (node 8 ∷ node 7 ∷ node 6 ∷ node 5 ∷ node 4 ∷ node 3 ∷ node 2 ∷ node 1 ∷ []))) none
    ≡ false
unfolding among_below
eight_wait = refl

pub the_oldest_of_eight :
    among (waiters_by (listed (node 8 ∷ node 7 ∷ node 6 ∷ node 5 ∷ node 4 ∷ node 3 ∷ node 2 ∷ node 1 ∷ []))) (node 1)
    ≡ true
unfolding among_below
the_oldest_of_eight = refl
