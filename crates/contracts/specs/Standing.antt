-- The contracts of crate standing: each public function's result is determined, and wrong answers that its contract
-- rules out. A thread's record, the part that a place has in the queue, where a waiter stands, whom it waits for.
-- Assumes nothing.
use Rattle.std.specs.Prelude.{ℕ, true, false, [], ◌∷◌}
use Rattle.std.proofs.lemmas.Bool.{false≢true}
use Rattle.std.proofs.Common.{sym}
use Rattle.word.specs.Flags.{word}
use Rattle.word.specs.Number.{node, none, thread}
use Rattle.word.specs.declared.number.ThreadNumber.{ThreadNumber}
use Rattle.state.specs.declared.holding.Holding.TheVariants as Holds
use Rattle.state.specs.declared.machine.Machine.{Machine}
use Rattle.state.specs.declared.machine.Thread.{Thread}
use Rattle.state.specs.declared.place.Place.{Place}
use Rattle.state.specs.declared.place.Place.TheVariants as At
use Rattle.state.specs.declared.place.Walk.TheVariants as For
use Rattle.state.specs.declared.place.Who.TheVariants.{Leaver, Waiter}
use Rattle.standing.specs.Look.{among_below, met_from}
use Rattle.standing.specs.Stands.{held_below}
use Rattle.standing.specs.declared.part.Part.{Part}
use Rattle.standing.specs.declared.part.Part.TheVariants as Parts
use Rattle.standing.specs.declared.stands.Standing.TheVariants as Standings
use Rattle.standing.proofs.look.record_of.Reads as record_of
use Rattle.standing.proofs.part.part_at.Reads as part_at
use Rattle.standing.proofs.part.registered.Reads as registered_part
use Rattle.standing.proofs.rouses.rouses.Reads as rouses
use Rattle.standing.proofs.stands.stands.Reads as stands
use Rattle.contracts.specs.Allowed.{Determined, ◌&◌, Allows, apart_in, clash, determined}
use Rattle.contracts.specs.Examples.{machine_of, thread_of}

-- ── a thread's record ──

pub record_of_determined : (m : Machine) (t : ThreadNumber) → Determined (Allows record_of.Post (m & t & tt))
record_of_determined m t = determined

pub record_of_no_thread_writes :
    Allows record_of.Post (machine_of 1 0 [] [] & thread 9 & tt) (thread_of At.Idle Holds.Write) → ⊥
record_of_no_thread_writes = apart_in (λ (t : Thread). t.holding) (λ e. clash (cc))

pub record_of_anothers :
    Allows record_of.Post
    (machine_of 2 1 [] (thread_of At.Idle Holds.Write ∷ thread_of At.Idle Holds.Nothing ∷ []) & thread 1 & tt)
    (thread_of At.Idle Holds.Write) → ⊥
record_of_anothers = apart_in (λ (t : Thread). t.holding) (λ e. clash (cc))

-- ── the part that a place has in the queue ──

pub part_at_determined : (p : Place) → Determined (Allows part_at.Post (p & tt))
part_at_determined p = determined

pub part_at_the_store_sets_aside :
    Allows part_at.Post (At.SplitStore Leaver (word 38) (node 1) (node 2) & tt) (Parts.SettingAside Leaver (node 1)) → ⊥
part_at_the_store_sets_aside e = clash (cc)

pub part_at_the_restore_is_over :
    Allows part_at.Post (At.SplitRestore Leaver (word 38) (node 1) (word 54) & tt) (Parts.Owning Leaver) → ⊥
part_at_the_restore_is_over e = clash (cc)

pub part_at_a_reader's_walk_owns :
    Allows part_at.Post (At.WalkTail For.ReadUnlock (word 35) (node 2) & tt) (Parts.Owning Leaver) → ⊥
part_at_a_reader's_walk_owns e = clash (cc)

pub registered_part_determined : (p : Part) → Determined (Allows registered_part.Post (p & tt))
registered_part_determined p = determined

pub registered_while_contending : Allows registered_part.Post (Parts.Contending & tt) true → ⊥
registered_while_contending e = false≢true (sym e)

pub registered_though_leaving : Allows registered_part.Post (Parts.Owning Leaver & tt) true → ⊥
registered_though_leaving e = false≢true (sym e)

pub registered_not_while_owning : Allows registered_part.Post (Parts.Owning (Waiter true) & tt) false → ⊥
registered_not_while_owning = false≢true

-- ── where a waiter stands ──

pub stands_determined : (m : Machine) (t : ThreadNumber) → Determined (Allows stands.Post (m & t & tt))
stands_determined m t = determined

-- thread 0 is there, and thread 1 asleep
abbrev asleep : ℕ → Place → Machine
asleep w p = machine_of 2 w [] (thread_of p Holds.Nothing ∷ thread_of (At.Park true) Holds.Nothing ∷ [])

pub stands_nowhere_while_completed :
    Allows stands.Post (asleep 0 (At.WakeStore Leaver (node 2) none) & thread 1 & tt) Standings.Nowhere → ⊥
unfolding held_below among_below met_from
stands_nowhere_while_completed e = clash (cc)

pub stands_nowhere_while_set_aside :
    Allows stands.Post (asleep 0 (At.SplitCas Leaver (word 54) (node 2)) & thread 1 & tt) Standings.Nowhere → ⊥
unfolding held_below among_below met_from
stands_nowhere_while_set_aside e = clash (cc)

pub stands_though_it_does_not_wait : Allows stands.Post (asleep 0 At.Idle & thread 0 & tt) Standings.Nowhere → ⊥
unfolding held_below among_below met_from
stands_though_it_does_not_wait e = clash (cc)

-- ── whom it waits for ──

pub rouses_determined : (m : Machine) (t : ThreadNumber) → Determined (Allows rouses.Post (m & t & tt))
rouses_determined m t = determined

-- thread 0 writes, thread 1 waits
abbrev held : ℕ → Machine
held w = machine_of 2 w [] (thread_of At.Idle Holds.Write ∷ thread_of (At.Park true) Holds.Nothing ∷ [])

pub rouses_not_while_it_holds : Allows rouses.Post (held 35 & thread 0 & tt) false → ⊥
rouses_not_while_it_holds = false≢true

pub rouses_though_asleep : Allows rouses.Post (held 35 & thread 1 & tt) true → ⊥
rouses_though_asleep e = false≢true (sym e)
