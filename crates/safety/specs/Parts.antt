-- The invariant's table of places and crate standing's say the same of a thread: whether its node is registered,
-- whether it owns the queue, and whether what it has taken off is set aside.
-- Assumes nothing.
use Rattle.std.specs.Prelude.{◌≡◌, refl}
use Rattle.state.specs.declared.place.Who.TheVariants.{Waiter, Leaver}
use Rattle.state.specs.declared.place.Walk.TheVariants.{Queue, ReadUnlock, Downgrade}
use Rattle.state.specs.declared.place.Place.{Place}
use Rattle.state.specs.declared.place.Place.TheVariants as At
use Rattle.standing.specs.Part.{part_of, registered_of}
use Rattle.standing.specs.Rouses.{owns_of}
use Rattle.invariant.specs.Moves.{is_aside}
use Rattle.invariant.specs.Table.{about}
use Rattle.safety.specs.Lists.{aside_of}

pub record Same (p : Place) : Type 0 where
  pub registered : (about p).registered ≡ registered_of (part_of p)
  pub owner : (about p).owner ≡ owns_of (part_of p)
  pub aside : is_aside p ≡ aside_of (part_of p)

pub same_part : (p : Place) → Same p
same_part At.Idle = record { registered = refl; owner = refl; aside = refl }
same_part (At.TryReadLoad _) = record { registered = refl; owner = refl; aside = refl }
same_part (At.TryReadCas _ _) = record { registered = refl; owner = refl; aside = refl }
same_part (At.TryWriteOr _) = record { registered = refl; owner = refl; aside = refl }
same_part (At.ContendLoad _ _) = record { registered = refl; owner = refl; aside = refl }
same_part (At.ContendCas _ _ _) = record { registered = refl; owner = refl; aside = refl }
same_part (At.RegisterCas _ _ _) = record { registered = refl; owner = refl; aside = refl }
same_part (At.CompletedLoad _) = record { registered = refl; owner = refl; aside = refl }
same_part (At.Park _) = record { registered = refl; owner = refl; aside = refl }
same_part (At.WalkTail (Queue (Waiter _)) _ _) = record { registered = refl; owner = refl; aside = refl }
same_part (At.WalkTail (Queue Leaver) _ _) = record { registered = refl; owner = refl; aside = refl }
same_part (At.WalkTail ReadUnlock _ _) = record { registered = refl; owner = refl; aside = refl }
same_part (At.WalkTail Downgrade _ _) = record { registered = refl; owner = refl; aside = refl }
same_part (At.WalkNext (Queue (Waiter _)) _ _) = record { registered = refl; owner = refl; aside = refl }
same_part (At.WalkNext (Queue Leaver) _ _) = record { registered = refl; owner = refl; aside = refl }
same_part (At.WalkNext ReadUnlock _ _) = record { registered = refl; owner = refl; aside = refl }
same_part (At.WalkNext Downgrade _ _) = record { registered = refl; owner = refl; aside = refl }
same_part (At.WalkPrev (Queue (Waiter _)) _ _ _) = record { registered = refl; owner = refl; aside = refl }
same_part (At.WalkPrev (Queue Leaver) _ _ _) = record { registered = refl; owner = refl; aside = refl }
same_part (At.WalkPrev ReadUnlock _ _ _) = record { registered = refl; owner = refl; aside = refl }
same_part (At.WalkPrev Downgrade _ _ _) = record { registered = refl; owner = refl; aside = refl }
same_part (At.WalkHead (Queue (Waiter _)) _ _) = record { registered = refl; owner = refl; aside = refl }
same_part (At.WalkHead (Queue Leaver) _ _) = record { registered = refl; owner = refl; aside = refl }
same_part (At.WalkHead ReadUnlock _ _) = record { registered = refl; owner = refl; aside = refl }
same_part (At.WalkHead Downgrade _ _) = record { registered = refl; owner = refl; aside = refl }
same_part (At.QueueCas (Waiter _) _) = record { registered = refl; owner = refl; aside = refl }
same_part (At.QueueCas Leaver _) = record { registered = refl; owner = refl; aside = refl }
same_part (At.SplitPrev (Waiter _) _ _) = record { registered = refl; owner = refl; aside = refl }
same_part (At.SplitPrev Leaver _ _) = record { registered = refl; owner = refl; aside = refl }
same_part (At.SplitStore (Waiter _) _ _ _) = record { registered = refl; owner = refl; aside = refl }
same_part (At.SplitStore Leaver _ _ _) = record { registered = refl; owner = refl; aside = refl }
same_part (At.SplitCas (Waiter _) _ _) = record { registered = refl; owner = refl; aside = refl }
same_part (At.SplitCas Leaver _ _) = record { registered = refl; owner = refl; aside = refl }
same_part (At.SplitRestore (Waiter _) _ _ _) = record { registered = refl; owner = refl; aside = refl }
same_part (At.SplitRestore Leaver _ _ _) = record { registered = refl; owner = refl; aside = refl }
same_part (At.TakeCas (Waiter _) _ _) = record { registered = refl; owner = refl; aside = refl }
same_part (At.TakeCas Leaver _ _) = record { registered = refl; owner = refl; aside = refl }
same_part (At.WakePrev (Waiter _) _) = record { registered = refl; owner = refl; aside = refl }
same_part (At.WakePrev Leaver _) = record { registered = refl; owner = refl; aside = refl }
same_part (At.WakeStore (Waiter _) _ _) = record { registered = refl; owner = refl; aside = refl }
same_part (At.WakeStore Leaver _ _) = record { registered = refl; owner = refl; aside = refl }
same_part At.ReadUnlockLoad = record { registered = refl; owner = refl; aside = refl }
same_part (At.ReadUnlockCas _) = record { registered = refl; owner = refl; aside = refl }
same_part (At.Subtract _ _) = record { registered = refl; owner = refl; aside = refl }
same_part At.WriteUnlockCas = record { registered = refl; owner = refl; aside = refl }
same_part (At.ReleaseCas _) = record { registered = refl; owner = refl; aside = refl }
same_part At.DowngradeCas = record { registered = refl; owner = refl; aside = refl }
same_part (At.DowngradeSlowCas _) = record { registered = refl; owner = refl; aside = refl }
