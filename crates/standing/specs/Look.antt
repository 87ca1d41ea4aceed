-- One thread's place, one node's prev, and whether a node is among others; all total.
-- Assumes nothing.
use Rattle.std.specs.Prelude.{ℕ, zero, suc, Bool, true, false, List, ltb, eqb, get_or, Option, Some, None}
use Rattle.std.specs.Prelude.{Result, Ok, Err}
use Rattle.word.specs.Base.{pick}
use Rattle.word.specs.Number.{none, is_none, slot_of}
use Rattle.word.specs.declared.number.NodeNumber.{NodeNumber}
use Rattle.state.specs.Machine.{thread_limit, thread_at, node_at, blank_thread}
use Rattle.state.specs.declared.answer.Refusal.{Refusal}
use Rattle.state.specs.declared.machine.Machine.{Machine}
use Rattle.state.specs.declared.machine.Thread.{Thread}
use Rattle.state.specs.declared.place.Place.{Place}
use Rattle.state.specs.declared.place.Place.TheVariants.{Idle}
use Rattle.listing.specs.declared.listing.Waiters.{Waiters}

-- blank where there is no such thread
abbrev pub record_of : Machine → ℕ → Thread
record_of m k = pick (ltb k thread_limit) (thread_at m k) blank_thread

-- idle where there is no such thread
abbrev pub place_of : Machine → ℕ → Place
place_of m k = pick (ltb k thread_limit) (thread_at m k).place Idle

-- not completed where there is no such node
abbrev pub completed_of : Machine → ℕ → Bool
completed_of m k = pick (ltb k thread_limit) (node_at m k).completed false

abbrev pub prev_at : Machine → ℕ → NodeNumber
prev_at m k = pick (ltb k thread_limit) (node_at m k).prev none

abbrev pub prev_by : Machine → Option ℕ → NodeNumber
prev_by m None = none
prev_by m (Some k) = prev_at m k

-- none where there is no such node
abbrev pub prev_of : Machine → NodeNumber → NodeNumber
prev_of m at = prev_by m (slot_of at m.count)

abbrev pub same_or : Bool → NodeNumber → NodeNumber → Bool
same_or found at n = pick (eqb at.0 n.0) true found

-- among the first k of an array of nodes
unfoldable pub among_below : ℕ → List NodeNumber → NodeNumber → Bool
among_below zero ns n = false
among_below (suc k) ns n = same_or (among_below k ns n) (get_or ns k none) n

-- among the waiters; past their length their array has none, so node none is found there, unless eight wait;
-- refused, it is as where nobody waits
abbrev pub among : Result Waiters Refusal → NodeNumber → Bool
among (Ok w) n = among_below thread_limit w.nodes n
among (Err r) n = is_none n

-- met from `at` by prev in so many visits, or before
unfoldable pub met_from : ℕ → Machine → NodeNumber → NodeNumber → Bool → Bool
met_from zero m n at found = found
met_from (suc left) m n at found = met_from left m n (prev_of m at) (same_or found at n)
