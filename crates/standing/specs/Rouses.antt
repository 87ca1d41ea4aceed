-- Whose steps have to come before a queued waiter is woken.
-- Assumes nothing.
use Rattle.std.specs.Prelude.{ℕ, Bool, true, false, not, ltb}
use Rattle.word.specs.Base.{pick}
use Rattle.word.specs.Flags.{locked, downgraded, queue_locked}
use Rattle.word.specs.declared.flags.Word.{Word}
use Rattle.word.specs.declared.number.ThreadNumber.{ThreadNumber}
use Rattle.state.specs.Holding.{reads_of, writes_of}
use Rattle.state.specs.Machine.{thread_limit, thread_at}
use Rattle.state.specs.declared.holding.Holding.{Holding}
use Rattle.state.specs.declared.holding.Holding.TheVariants.{Nothing}
use Rattle.state.specs.declared.machine.Machine.{Machine}
use Rattle.standing.specs.Look.{completed_of}
use Rattle.standing.specs.Stands.{part_at}
use Rattle.standing.specs.declared.part.Part.{Part}
use Rattle.standing.specs.declared.part.Part.TheVariants.{Apart, Contending, Waiting, Owning, SettingAside}
use Rattle.standing.specs.declared.part.Part.TheVariants.{Walking, Reading, Completing, Releasing}

-- nothing where there is no such thread
abbrev pub holding_of : Machine → ℕ → Holding
holding_of m k = pick (ltb k thread_limit) (thread_at m k).holding Nothing

abbrev pub holds_of : Holding → Bool
holds_of h = pick (ltb 0 (reads_of h)) true (ltb 0 (writes_of h))

-- it holds, or has released and not cleared LOCKED yet
abbrev pub leaves_of : Part → Bool → Bool
leaves_of Releasing holds = true
leaves_of Apart holds = holds
leaves_of Contending holds = holds
leaves_of Waiting holds = holds
leaves_of (Owning _) holds = holds
leaves_of (SettingAside _ _) holds = holds
leaves_of (Walking _) holds = holds
leaves_of (Reading _ _) holds = holds
leaves_of (Completing _ _ _) holds = holds

-- it holds the queue lock
abbrev pub owns_of : Part → Bool
owns_of (Owning _) = true
owns_of (SettingAside _ _) = true
owns_of Apart = false
owns_of Contending = false
owns_of Waiting = false
owns_of (Walking _) = false
owns_of (Reading _ _) = false
owns_of (Completing _ _ _) = false
owns_of Releasing = false

-- it will look at the lock again, or wake one that will
abbrev pub sees : Part → Bool → Bool
sees Contending completed = true
sees (Walking _) completed = true
sees (Reading _ _) completed = true
sees (Completing _ _ _) completed = true
sees Waiting completed = completed
sees (Owning _) completed = false
sees (SettingAside _ _) completed = false
sees Apart completed = false
sees Releasing completed = false

-- held, and no downgrade is asked for: an owner of the queue lock leaves the queue as it is
abbrev pub hands_off : Word → Bool
hands_off w = pick (locked w) (not (downgraded w)) false

-- with hands off those that hold or leave; else with the queue locked its owner; else those that see to it
abbrev pub rouses_by : Machine → ThreadNumber → Part → Bool
rouses_by m t part =
    pick (hands_off m.word)
    (leaves_of part (holds_of (holding_of m t.0)))
    (pick (queue_locked m.word) (owns_of part) (sees part (completed_of m t.0)))

abbrev pub rouses_of : Machine → ThreadNumber → Bool
rouses_of m t = rouses_by m t (part_at m t.0)
