-- What a thread at a place has to do with the queue: one table over the places.
-- Assumes nothing.
use Rattle.std.specs.Prelude.{Bool, true, false}
use Rattle.word.specs.Flags.{to_node}
use Rattle.word.specs.declared.flags.Word.{Word}
use Rattle.state.specs.declared.place.Who.{Who}
use Rattle.state.specs.declared.place.Who.TheVariants.{Waiter, Leaver}
use Rattle.state.specs.declared.place.Walk.{Walk}
use Rattle.state.specs.declared.place.Walk.TheVariants.{Queue, ReadUnlock, Downgrade}
use Rattle.state.specs.declared.place.Place.{Place}
use Rattle.state.specs.declared.place.Place.TheVariants as At
use Rattle.standing.specs.declared.part.Part.{Part}
use Rattle.standing.specs.declared.part.Part.TheVariants.{Apart, Contending, Waiting, Owning, SettingAside}
use Rattle.standing.specs.declared.part.Part.TheVariants.{Walking, Reading, Completing, Releasing}

-- a walk of unlock queue is the owner's; that of a downgrade goes over the queue that it took
abbrev pub walking_of : Walk → Word → Part
walking_of (Queue who) seen = Owning who
walking_of ReadUnlock seen = Apart
walking_of Downgrade seen = Walking (to_node seen)

abbrev pub part_of : Place → Part
part_of At.Idle = Apart
part_of (At.TryReadLoad _) = Apart
part_of (At.TryReadCas _ _) = Apart
part_of (At.TryWriteOr _) = Apart
part_of (At.ContendLoad _ _) = Contending
part_of (At.ContendCas _ _ _) = Contending
part_of (At.RegisterCas _ _ _) = Contending
part_of (At.CompletedLoad _) = Waiting
part_of (At.Park _) = Waiting
part_of (At.WalkTail walk seen _) = walking_of walk seen
part_of (At.WalkNext walk seen _) = walking_of walk seen
part_of (At.WalkPrev walk seen _ _) = walking_of walk seen
part_of (At.WalkHead walk seen _) = walking_of walk seen
part_of (At.QueueCas who _) = Owning who
part_of (At.SplitPrev who _ _) = Owning who
part_of (At.SplitStore who _ _ _) = Owning who
part_of (At.SplitCas who _ tail) = SettingAside who tail
part_of (At.SplitRestore who _ tail _) = SettingAside who tail
part_of (At.TakeCas who _ _) = Owning who
part_of (At.WakePrev who current) = Reading who current
part_of (At.WakeStore who current prev) = Completing who current prev
part_of At.ReadUnlockLoad = Apart
part_of (At.ReadUnlockCas _) = Apart
part_of (At.Subtract _ _) = Apart
part_of At.WriteUnlockCas = Apart
part_of (At.ReleaseCas _) = Releasing
part_of At.DowngradeCas = Apart
part_of (At.DowngradeSlowCas _) = Apart

abbrev pub waiter_of : Who → Bool
waiter_of (Waiter _) = true
waiter_of Leaver = false

-- its own node is registered, completed or not
abbrev pub registered_of : Part → Bool
registered_of Apart = false
registered_of Contending = false
registered_of Waiting = true
registered_of (Owning who) = waiter_of who
registered_of (SettingAside who _) = waiter_of who
registered_of (Walking _) = false
registered_of (Reading who _) = waiter_of who
registered_of (Completing who _ _) = waiter_of who
registered_of Releasing = false
