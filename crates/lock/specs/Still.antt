-- Facts of the places alone, by their cases: which one is idle, and that a thread which stands still has done nothing.
-- Assumes nothing.
use Rattle.std.specs.Prelude.{true, false, ◌≡◌, refl, T}
use Rattle.std.proofs.Common.{sym, subst}
use Rattle.word.specs.declared.number.ThreadNumber.{ThreadNumber}
use Rattle.state.specs.Access.{access_of}
use Rattle.state.specs.declared.holding.Holding.{Holding}
use Rattle.state.specs.declared.place.Place.{Place}
use Rattle.state.specs.declared.place.Place.TheVariants as At
use Rattle.lock.specs.Begin.{is_idle}
use Rattle.lock.specs.Effect.{lock_effect, queue_effect, keeps, stands, stand_of}

never : {A : Type 0} → false ≡ true → A
never e = absurd (subst T (sym e) tt)

-- only Idle is idle
pub idle_is : (p : Place) → is_idle p ≡ true → p ≡ At.Idle
unfolding access_of
idle_is At.Idle e = refl
idle_is (At.TryReadLoad _) e = never e
idle_is (At.TryReadCas _ _) e = never e
idle_is (At.TryWriteOr _) e = never e
idle_is (At.ContendLoad _ _) e = never e
idle_is (At.ContendCas _ _ _) e = never e
idle_is (At.RegisterCas _ _ _) e = never e
idle_is (At.CompletedLoad _) e = never e
idle_is (At.Park _) e = never e
idle_is (At.WalkTail _ _ _) e = never e
idle_is (At.WalkNext _ _ _) e = never e
idle_is (At.WalkPrev _ _ _ _) e = never e
idle_is (At.WalkHead _ _ _) e = never e
idle_is (At.QueueCas _ _) e = never e
idle_is (At.SplitPrev _ _ _) e = never e
idle_is (At.SplitStore _ _ _ _) e = never e
idle_is (At.SplitCas _ _ _) e = never e
idle_is (At.SplitRestore _ _ _ _) e = never e
idle_is (At.TakeCas _ _ _) e = never e
idle_is (At.WakePrev _ _) e = never e
idle_is (At.WakeStore _ _ _) e = never e
idle_is At.ReadUnlockLoad e = never e
idle_is (At.ReadUnlockCas _) e = never e
idle_is (At.Subtract _ _) e = never e
idle_is At.WriteUnlockCas e = never e
idle_is (At.ReleaseCas _) e = never e
idle_is At.DowngradeCas e = never e
idle_is (At.DowngradeSlowCas _) e = never e

-- a thread that stands where it stood, the word unchanged, did nothing
pub still_lock : (p : Place) (h : Holding) → lock_effect p h false (stand_of p) ≡ keeps
unfolding lock_effect stand_of
still_lock At.Idle h = refl
still_lock (At.TryReadLoad _) h = refl
still_lock (At.TryReadCas _ _) h = refl
still_lock (At.TryWriteOr _) h = refl
still_lock (At.ContendLoad _ _) h = refl
still_lock (At.ContendCas _ _ _) h = refl
still_lock (At.RegisterCas _ _ _) h = refl
still_lock (At.CompletedLoad _) h = refl
still_lock (At.Park _) h = refl
still_lock (At.WalkTail _ _ _) h = refl
still_lock (At.WalkNext _ _ _) h = refl
still_lock (At.WalkPrev _ _ _ _) h = refl
still_lock (At.WalkHead _ _ _) h = refl
still_lock (At.QueueCas _ _) h = refl
still_lock (At.SplitPrev _ _ _) h = refl
still_lock (At.SplitStore _ _ _ _) h = refl
still_lock (At.SplitCas _ _ _) h = refl
still_lock (At.SplitRestore _ _ _ _) h = refl
still_lock (At.TakeCas _ _ _) h = refl
still_lock (At.WakePrev _ _) h = refl
still_lock (At.WakeStore _ _ _) h = refl
still_lock At.ReadUnlockLoad h = refl
still_lock (At.ReadUnlockCas _) h = refl
still_lock (At.Subtract _ _) h = refl
still_lock At.WriteUnlockCas h = refl
still_lock (At.ReleaseCas _) h = refl
still_lock At.DowngradeCas h = refl
still_lock (At.DowngradeSlowCas _) h = refl

pub still_queue : (t : ThreadNumber) (p : Place) → queue_effect t p (stand_of p) ≡ stands
unfolding queue_effect stand_of
still_queue t At.Idle = refl
still_queue t (At.TryReadLoad _) = refl
still_queue t (At.TryReadCas _ _) = refl
still_queue t (At.TryWriteOr _) = refl
still_queue t (At.ContendLoad _ _) = refl
still_queue t (At.ContendCas _ _ _) = refl
still_queue t (At.RegisterCas _ _ _) = refl
still_queue t (At.CompletedLoad _) = refl
still_queue t (At.Park _) = refl
still_queue t (At.WalkTail _ _ _) = refl
still_queue t (At.WalkNext _ _ _) = refl
still_queue t (At.WalkPrev _ _ _ _) = refl
still_queue t (At.WalkHead _ _ _) = refl
still_queue t (At.QueueCas _ _) = refl
still_queue t (At.SplitPrev _ _ _) = refl
still_queue t (At.SplitStore _ _ _ _) = refl
still_queue t (At.SplitCas _ _ _) = refl
still_queue t (At.SplitRestore _ _ _ _) = refl
still_queue t (At.TakeCas _ _ _) = refl
still_queue t (At.WakePrev _ _) = refl
still_queue t (At.WakeStore _ _ _) = refl
still_queue t At.ReadUnlockLoad = refl
still_queue t (At.ReadUnlockCas _) = refl
still_queue t (At.Subtract _ _) = refl
still_queue t At.WriteUnlockCas = refl
still_queue t (At.ReleaseCas _) = refl
still_queue t At.DowngradeCas = refl
still_queue t (At.DowngradeSlowCas _) = refl
