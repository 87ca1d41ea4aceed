-- Where a thread's node stands, in document 01's words: in the queue (the waiter listing), set aside by the owner of
-- the queue lock, or in one waker's list.
-- Assumes nothing.
use Rattle.std.specs.Prelude.{ℕ, zero, suc, Bool, false}
use Rattle.word.specs.Base.{pick}
use Rattle.word.specs.Number.{thread, node_of}
use Rattle.word.specs.declared.number.ThreadNumber.{ThreadNumber}
use Rattle.word.specs.declared.number.NodeNumber.{NodeNumber}
use Rattle.state.specs.declared.machine.Machine.{Machine}
use Rattle.listing.specs.Listing.{from_head_of, waiters_by, waiters_of}
use Rattle.standing.specs.Part.{part_of, registered_of}
use Rattle.standing.specs.Look.{place_of, completed_of, same_or, among, met_from}
use Rattle.standing.specs.declared.part.Part.{Part}
use Rattle.standing.specs.declared.part.Part.TheVariants.{Apart, Contending, Waiting, Owning, SettingAside}
use Rattle.standing.specs.declared.part.Part.TheVariants.{Walking, Reading, Completing, Releasing}
use Rattle.standing.specs.declared.stands.Standing.{Standing}
use Rattle.standing.specs.declared.stands.Standing.TheVariants.{NotWaiting, Completed, InQueue}
use Rattle.standing.specs.declared.stands.Standing.TheVariants.{SetAside, InList, Nowhere}

-- set aside: from the store of prev in the head until the compare succeeds or the old tail is restored
abbrev pub aside_in : Part → NodeNumber → Bool
aside_in (SettingAside _ tail) n = same_or false tail n
aside_in Apart n = false
aside_in Contending n = false
aside_in Waiting n = false
aside_in (Owning _) n = false
aside_in (Walking _) n = false
aside_in (Reading _ _) n = false
aside_in (Completing _ _ _) n = false
aside_in Releasing n = false

-- a waker's list: what was taken off, less those completed; by next while a downgrade walks it, then by prev
abbrev pub in_list_of : Machine → Part → NodeNumber → Bool
in_list_of m (Walking head) n = among (waiters_by (from_head_of m head)) n
in_list_of m (Reading _ current) n = met_from m.count m n current false
in_list_of m (Completing _ current prev) n = same_or (met_from m.count m n prev false) current n
in_list_of m Apart n = false
in_list_of m Contending n = false
in_list_of m Waiting n = false
in_list_of m (Owning _) n = false
in_list_of m (SettingAside _ _) n = false
in_list_of m Releasing n = false

abbrev pub part_at : Machine → ℕ → Part
part_at m k = part_of (place_of m k)

-- by thread k, which has that part; else as before
abbrev pub held_by : Machine → ℕ → Part → NodeNumber → Standing → Standing
held_by m k part n before =
    pick (aside_in part n) (SetAside (thread k)) (pick (in_list_of m part n) (InList (thread k)) before)

abbrev pub held_at : Machine → ℕ → NodeNumber → Standing → Standing
held_at m k n before = held_by m k (part_at m k) n before

-- by which of the first k threads
unfoldable pub held_below : ℕ → Machine → NodeNumber → Standing
held_below zero m n = Nowhere
held_below (suc k) m n = held_at m k n (held_below k m n)

-- in the queue: the waiter listing
abbrev pub in_queue_of : Machine → NodeNumber → Bool
in_queue_of m n = among (waiters_of m) n

abbrev pub waiting_at : Machine → Bool → NodeNumber → Standing
waiting_at m completed n = pick completed Completed (pick (in_queue_of m n) InQueue (held_below m.count m n))

abbrev pub waiting_of : Machine → ThreadNumber → Standing
waiting_of m t = waiting_at m (completed_of m t.0) (node_of t)

abbrev pub standing_by : Machine → ThreadNumber → Part → Standing
standing_by m t part = pick (registered_of part) (waiting_of m t) NotWaiting

abbrev pub standing_of : Machine → ThreadNumber → Standing
standing_of m t = standing_by m t (part_at m t.0)
