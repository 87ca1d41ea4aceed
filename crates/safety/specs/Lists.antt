-- The lists of waiters, read off the machine alone, oldest first: the queue, which is the waiter listing turned round,
-- and what each thread has taken off it, by what its place has to do with the queue (`part_of`, crate standing's table:
-- what the trace prints is read off the same). A list is lost where it leaves the range or does not end within the
-- count.
-- Not here: how the lists change and who is on them (Statements.antt); that none is ever lost (Held.antt).
-- Assumes nothing.
use Rattle.std.specs.Prelude.{ℕ, zero, suc, Bool, true, false, [], ◌∷◌, reverse}
use Rattle.word.specs.Base.{pick}
use Rattle.word.specs.Number.{is_none}
use Rattle.word.specs.declared.number.NodeNumber.{NodeNumber}
use Rattle.state.specs.declared.machine.Machine.{Machine}
use Rattle.state.specs.declared.place.Place.{Place}
use Rattle.listing.specs.Listing.{Listed, lost, listed, prepend, stand, node_by, followed_of, listed_of}
use Rattle.standing.specs.Part.{part_of}
use Rattle.standing.specs.declared.part.Part.{Part}
use Rattle.standing.specs.declared.part.Part.TheVariants.{Apart, Contending, Waiting, Owning, SettingAside}
use Rattle.standing.specs.declared.part.Part.TheVariants.{Walking, Reading, Completing, Releasing}

abbrev pub turned : Listed → Listed
turned lost = lost
turned (listed ns) = listed (reverse ns)

-- the queue
abbrev pub queue_in : Machine → Listed
queue_in m = turned (listed_of m)

-- from a node by prev until none
unfoldable pub back_from : ℕ → Machine → NodeNumber → Listed
back_from zero m at = pick (is_none at) (listed []) lost
back_from (suc left) m at = pick (is_none at) (listed []) (stand m at (back_from left m (node_by m at).prev))

-- what a thread with this part has taken off, set aside or to be woken: a downgrade's walk is over the old queue, which
-- it took, so it is what the listing would read from the word that it saw; a waker goes back by prev
abbrev pub held_by : Machine → Part → Listed
held_by m Apart = listed []
held_by m Contending = listed []
held_by m Waiting = listed []
held_by m (Owning _) = listed []
held_by m (SettingAside _ tail) = listed (tail ∷ [])
held_by m (Walking head) = turned (followed_of m head)
held_by m (Reading _ current) = back_from m.count m current
held_by m (Completing _ current prev) = prepend current (back_from m.count m prev)
held_by m Releasing = listed []

-- from the store of prev in the head until the compare succeeds or the old tail is restored, that is set aside
abbrev pub aside_of : Part → Bool
aside_of Apart = false
aside_of Contending = false
aside_of Waiting = false
aside_of (Owning _) = false
aside_of (SettingAside _ _) = true
aside_of (Walking _) = false
aside_of (Reading _ _) = false
aside_of (Completing _ _ _) = false
aside_of Releasing = false

abbrev pub aside_by : Machine → Part → Listed
aside_by m part = pick (aside_of part) (held_by m part) (listed [])

abbrev pub wakes_by : Machine → Part → Listed
wakes_by m part = pick (aside_of part) (listed []) (held_by m part)

-- so it is on the thread's set-aside list, or on its waker's list
abbrev pub aside_in : Machine → Place → Listed
aside_in m p = aside_by m (part_of p)

abbrev pub wakes_in : Machine → Place → Listed
wakes_in m p = wakes_by m (part_of p)
