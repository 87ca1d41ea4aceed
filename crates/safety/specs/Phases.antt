-- Which call a thread may be inside at each place, and what that call has done to the lock by then.
-- In this order: a phase for each place; what fits a phase; what the statement asks of it (Calls.antt), by phase.
-- Not here: that steps keep it so (CallSteps.antt); runs (EachCall.antt).
-- Assumes nothing.
use Rattle.std.specs.Prelude.{Bool, true, false, List, [], ◌∷◌, ◌⊎◌, ◌≡◌, refl}
use Rattle.std.proofs.Common.{inl, inr, sym, subst}
use Rattle.state.specs.Access.{access_of}
use Rattle.state.specs.declared.holding.Holding.{Holding}
use Rattle.state.specs.declared.holding.Holding.TheVariants.{Nothing as HoldsNothing, Write as HoldsWrite}
use Rattle.state.specs.declared.place.Who.{Who}
use Rattle.state.specs.declared.place.Who.TheVariants.{Waiter, Leaver}
use Rattle.state.specs.declared.place.Walk.{Walk}
use Rattle.state.specs.declared.place.Walk.TheVariants.{Queue, ReadUnlock as ForReadUnlock, Downgrade as ForDowngrade}
use Rattle.state.specs.declared.place.Place.{Place}
use Rattle.state.specs.declared.place.Place.TheVariants as At
use Rattle.lock.specs.Begin.{is_idle, first_place}
use Rattle.lock.specs.Effect.{LockEffect, releases_read, releases_write, downgrades}
use Rattle.lock.specs.declared.code.Call.{Call}
use Rattle.lock.specs.declared.code.Call.TheVariants.{Read, Write, TryRead, TryWrite, ReadUnlock, WriteUnlock}
use Rattle.lock.specs.declared.code.Call.TheVariants.{Downgrade}
use Rattle.promises.specs.Shared.{tries, acquires}
use Rattle.safety.specs.Calls.{SoFar}

-- ── phases ──

-- asks: for write or for read, blocking or not
pub data Phase : Type 0 where
  rests : Phase
  asks : Bool → Bool → Phase
  unlocks_read : Phase
  unlocks_write : Phase
  releases : Phase
  downgrading : Phase
  downgraded : Phase
  leaves : Phase
  wakes : Phase

abbrev in_queue : Who → Phase
in_queue (Waiter w) = asks w true
in_queue Leaver = leaves

abbrev in_wake : Who → Phase
in_wake (Waiter w) = asks w true
in_wake Leaver = wakes

abbrev in_walk : Walk → Phase
in_walk (Queue who) = in_queue who
in_walk ForReadUnlock = unlocks_read
in_walk ForDowngrade = downgraded

abbrev pub phase : Place → Phase
phase At.Idle = rests
phase (At.TryReadLoad blocking) = asks false blocking
phase (At.TryReadCas blocking _) = asks false blocking
phase (At.TryWriteOr blocking) = asks true blocking
phase (At.ContendLoad w _) = asks w true
phase (At.ContendCas w _ _) = asks w true
phase (At.RegisterCas w _ _) = asks w true
phase (At.CompletedLoad w) = asks w true
phase (At.Park w) = asks w true
phase (At.WalkTail walk _ _) = in_walk walk
phase (At.WalkNext walk _ _) = in_walk walk
phase (At.WalkPrev walk _ _ _) = in_walk walk
phase (At.WalkHead walk _ _) = in_walk walk
phase (At.QueueCas who _) = in_queue who
phase (At.SplitPrev who _ _) = in_queue who
phase (At.SplitStore who _ _ _) = in_queue who
phase (At.SplitCas who _ _) = in_queue who
phase (At.SplitRestore who _ _ _) = in_queue who
phase (At.TakeCas who _ _) = in_queue who
phase (At.WakePrev who _) = in_wake who
phase (At.WakeStore who _ _) = in_wake who
phase At.ReadUnlockLoad = unlocks_read
phase (At.ReadUnlockCas _) = unlocks_read
phase (At.Subtract _ _) = unlocks_read
phase At.WriteUnlockCas = unlocks_write
phase (At.ReleaseCas _) = releases
phase At.DowngradeCas = downgrading
phase (At.DowngradeSlowCas _) = downgrading

-- ── what fits ──

-- an unlock that has released
abbrev pub Left : Call → List LockEffect → Type 0
Left c xs = ((c ≡ ReadUnlock) × (xs ≡ releases_read ∷ [])) ⊎ ((c ≡ WriteUnlock) × (xs ≡ releases_write ∷ []))

-- at the compare that releases the last reader has released at its subtraction, the writer has not
abbrev pub Fits : Phase → Holding → Call → List LockEffect → Type 0
Fits rests h c xs = ⊥
Fits (asks false true) h c xs = (c ≡ Read) × (xs ≡ [])
Fits (asks true true) h c xs = (c ≡ Write) × (xs ≡ [])
Fits (asks false false) h c xs = (c ≡ TryRead) × (xs ≡ [])
Fits (asks true false) h c xs = (c ≡ TryWrite) × (xs ≡ [])
Fits unlocks_read h c xs = (c ≡ ReadUnlock) × (xs ≡ [])
Fits unlocks_write h c xs = (c ≡ WriteUnlock) × (xs ≡ [])
Fits releases h c xs =
    ((c ≡ ReadUnlock) × (xs ≡ releases_read ∷ []) × (h ≡ HoldsNothing))
    ⊎ ((c ≡ WriteUnlock) × (xs ≡ []) × (h ≡ HoldsWrite))
Fits downgrading h c xs = (c ≡ Downgrade) × (xs ≡ [])
Fits downgraded h c xs = (c ≡ Downgrade) × (xs ≡ downgrades ∷ [])
Fits leaves h c xs = Left c xs
Fits wakes h c xs = Left c xs ⊎ ((c ≡ Downgrade) × (xs ≡ downgrades ∷ []))

-- a call that begins has done nothing
pub first_fits : (c : Call) (h : Holding) → Fits (phase (first_place c)) h c []
first_fits Read h = (refl, refl)
first_fits Write h = (refl, refl)
first_fits TryRead h = (refl, refl)
first_fits TryWrite h = (refl, refl)
first_fits ReadUnlock h = (refl, refl)
first_fits WriteUnlock h = (refl, refl)
first_fits Downgrade h = (refl, refl)

-- ── what the statement asks ──

-- a place is not idle; who asks for the lock stands at a place of its call
abbrev ItsPlace : Phase → Place → Type 0
ItsPlace rests p = Unit {0}
ItsPlace (asks w true) p = (is_idle p ≡ false) × (acquires p ≡ true)
ItsPlace (asks w false) p = (is_idle p ≡ false) × (tries p ≡ true)
ItsPlace unlocks_read p = is_idle p ≡ false
ItsPlace unlocks_write p = is_idle p ≡ false
ItsPlace releases p = is_idle p ≡ false
ItsPlace downgrading p = is_idle p ≡ false
ItsPlace downgraded p = is_idle p ≡ false
ItsPlace leaves p = is_idle p ≡ false
ItsPlace wakes p = is_idle p ≡ false

at_its_place : (p : Place) → ItsPlace (phase p) p
unfolding access_of tries acquires
at_its_place At.Idle = tt
at_its_place (At.TryReadLoad true) = (refl, refl)
at_its_place (At.TryReadLoad false) = (refl, refl)
at_its_place (At.TryReadCas true _) = (refl, refl)
at_its_place (At.TryReadCas false _) = (refl, refl)
at_its_place (At.TryWriteOr true) = (refl, refl)
at_its_place (At.TryWriteOr false) = (refl, refl)
at_its_place (At.ContendLoad _ _) = (refl, refl)
at_its_place (At.ContendCas _ _ _) = (refl, refl)
at_its_place (At.RegisterCas _ _ _) = (refl, refl)
at_its_place (At.CompletedLoad _) = (refl, refl)
at_its_place (At.Park _) = (refl, refl)
at_its_place (At.WalkTail (Queue (Waiter _)) _ _) = (refl, refl)
at_its_place (At.WalkTail (Queue Leaver) _ _) = refl
at_its_place (At.WalkTail ForReadUnlock _ _) = refl
at_its_place (At.WalkTail ForDowngrade _ _) = refl
at_its_place (At.WalkNext (Queue (Waiter _)) _ _) = (refl, refl)
at_its_place (At.WalkNext (Queue Leaver) _ _) = refl
at_its_place (At.WalkNext ForReadUnlock _ _) = refl
at_its_place (At.WalkNext ForDowngrade _ _) = refl
at_its_place (At.WalkPrev (Queue (Waiter _)) _ _ _) = (refl, refl)
at_its_place (At.WalkPrev (Queue Leaver) _ _ _) = refl
at_its_place (At.WalkPrev ForReadUnlock _ _ _) = refl
at_its_place (At.WalkPrev ForDowngrade _ _ _) = refl
at_its_place (At.WalkHead (Queue (Waiter _)) _ _) = (refl, refl)
at_its_place (At.WalkHead (Queue Leaver) _ _) = refl
at_its_place (At.WalkHead ForReadUnlock _ _) = refl
at_its_place (At.WalkHead ForDowngrade _ _) = refl
at_its_place (At.QueueCas (Waiter _) _) = (refl, refl)
at_its_place (At.QueueCas Leaver _) = refl
at_its_place (At.SplitPrev (Waiter _) _ _) = (refl, refl)
at_its_place (At.SplitPrev Leaver _ _) = refl
at_its_place (At.SplitStore (Waiter _) _ _ _) = (refl, refl)
at_its_place (At.SplitStore Leaver _ _ _) = refl
at_its_place (At.SplitCas (Waiter _) _ _) = (refl, refl)
at_its_place (At.SplitCas Leaver _ _) = refl
at_its_place (At.SplitRestore (Waiter _) _ _ _) = (refl, refl)
at_its_place (At.SplitRestore Leaver _ _ _) = refl
at_its_place (At.TakeCas (Waiter _) _ _) = (refl, refl)
at_its_place (At.TakeCas Leaver _ _) = refl
at_its_place (At.WakePrev (Waiter _) _) = (refl, refl)
at_its_place (At.WakePrev Leaver _) = refl
at_its_place (At.WakeStore (Waiter _) _ _) = (refl, refl)
at_its_place (At.WakeStore Leaver _ _) = refl
at_its_place At.ReadUnlockLoad = refl
at_its_place (At.ReadUnlockCas _) = refl
at_its_place (At.Subtract _ _) = refl
at_its_place At.WriteUnlockCas = refl
at_its_place (At.ReleaseCas _) = refl
at_its_place At.DowngradeCas = refl
at_its_place (At.DowngradeSlowCas _) = refl

module _ (h : Holding) (c : Call) (xs : List LockEffect) (p : Place) where
  abbrev So : Type 0
  So = (is_idle p ≡ false) × SoFar c xs p

  so : (c₀ : Call) → c ≡ c₀ → is_idle p ≡ false → SoFar c₀ xs p → So
  so c₀ e i f = (i, subst (λ x. SoFar x xs p) (sym e) f)

  so_left : is_idle p ≡ false → Left c xs → So
  so_left i (inl f) = so ReadUnlock f.0 i (inr f.1)
  so_left i (inr f) = so WriteUnlock f.0 i (inr f.1)

  by_phase : (s : Phase) → ItsPlace s p → Fits s h c xs → So
  by_phase rests i f = absurd f
  by_phase (asks false true) i f = so Read f.0 i.0 (f.1, i.1)
  by_phase (asks true true) i f = so Write f.0 i.0 (f.1, i.1)
  by_phase (asks false false) i f = so TryRead f.0 i.0 (f.1, i.1)
  by_phase (asks true false) i f = so TryWrite f.0 i.0 (f.1, i.1)
  by_phase unlocks_read i f = so ReadUnlock f.0 i (inl f.1)
  by_phase unlocks_write i f = so WriteUnlock f.0 i (inl f.1)
  by_phase releases i (inl f) = so ReadUnlock f.0 i (inr f.1)
  by_phase releases i (inr f) = so WriteUnlock f.0 i (inl f.1)
  by_phase downgrading i f = so Downgrade f.0 i (inl f.1)
  by_phase downgraded i f = so Downgrade f.0 i (inr f.1)
  by_phase leaves i f = so_left i f
  by_phase wakes i (inl f) = so_left i f
  by_phase wakes i (inr f) = so Downgrade f.0 i (inr f.1)

  pub so_far : Fits (phase p) h c xs → (is_idle p ≡ false) × SoFar c xs p
  so_far f = by_phase (phase p) (at_its_place p) f
