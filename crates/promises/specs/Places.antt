-- Facts of the places alone, each by their cases: who fills touches its own node; which effects are possible where.
-- Assumes nothing.
use Rattle.std.specs.Prelude.{Bool, true, false, ◌⊎◌, ◌≡◌, refl, T}
use Rattle.std.proofs.Common.{inl, inr, sym, subst}
use Rattle.word.specs.Number.{node_of}
use Rattle.word.specs.declared.number.ThreadNumber.{ThreadNumber}
use Rattle.state.specs.Access.{access_of, touched_of}
use Rattle.state.specs.declared.holding.Holding.{Holding}
use Rattle.state.specs.declared.place.Place.{Place}
use Rattle.state.specs.declared.place.Place.TheVariants as At
use Rattle.lock.specs.Effect.{Stand, lock_effect, keeps}
use Rattle.promises.specs.Shared.{fills, writes_word}
use Rattle.promises.specs.Tables.{subtracting}

-- what is false is not true
pub never : {A : Type 0} → false ≡ true → A
never e = absurd (subst T (sym e) tt)

-- a place that may fill the own node accesses the word
pub fills_own : (t : ThreadNumber) (p : Place) → fills p ≡ true → touched_of (access_of t p) t ≡ node_of t
unfolding fills access_of
fills_own t At.Idle e = never e
fills_own t (At.TryReadLoad _) e = never e
fills_own t (At.TryReadCas _ _) e = never e
fills_own t (At.TryWriteOr _) e = never e
fills_own t (At.ContendLoad _ _) e = refl
fills_own t (At.ContendCas _ _ _) e = refl
fills_own t (At.RegisterCas _ _ _) e = refl
fills_own t (At.CompletedLoad _) e = never e
fills_own t (At.Park _) e = never e
fills_own t (At.WalkTail _ _ _) e = never e
fills_own t (At.WalkNext _ _ _) e = never e
fills_own t (At.WalkPrev _ _ _ _) e = never e
fills_own t (At.WalkHead _ _ _) e = never e
fills_own t (At.QueueCas _ _) e = never e
fills_own t (At.SplitPrev _ _ _) e = never e
fills_own t (At.SplitStore _ _ _ _) e = never e
fills_own t (At.SplitCas _ _ _) e = never e
fills_own t (At.SplitRestore _ _ _ _) e = never e
fills_own t (At.TakeCas _ _ _) e = never e
fills_own t (At.WakePrev _ _) e = never e
fills_own t (At.WakeStore _ _ _) e = never e
fills_own t At.ReadUnlockLoad e = never e
fills_own t (At.ReadUnlockCas _) e = never e
fills_own t (At.Subtract _ _) e = never e
fills_own t At.WriteUnlockCas e = never e
fills_own t (At.ReleaseCas _) e = never e
fills_own t At.DowngradeCas e = never e
fills_own t (At.DowngradeSlowCas _) e = never e

-- the lock is kept, or the access writes the word, or it is the subtraction
pub effect_kind : (t : ThreadNumber) (p : Place) (h : Holding) (b : Bool) (s : Stand)
    → (lock_effect p h b s ≡ keeps) ⊎ ((writes_word (access_of t p).kind ≡ true) ⊎ (subtracting p ≡ true))
unfolding lock_effect access_of subtracting
effect_kind t At.Idle h b s = inl refl
effect_kind t (At.TryReadLoad _) h b s = inl refl
effect_kind t (At.TryReadCas _ _) h b s = inr (inl refl)
effect_kind t (At.TryWriteOr _) h b s = inr (inl refl)
effect_kind t (At.ContendLoad _ _) h b s = inl refl
effect_kind t (At.ContendCas _ _ _) h b s = inr (inl refl)
effect_kind t (At.RegisterCas _ _ _) h b s = inl refl
effect_kind t (At.CompletedLoad _) h b s = inl refl
effect_kind t (At.Park _) h b s = inl refl
effect_kind t (At.WalkTail _ _ _) h b s = inl refl
effect_kind t (At.WalkNext _ _ _) h b s = inl refl
effect_kind t (At.WalkPrev _ _ _ _) h b s = inl refl
effect_kind t (At.WalkHead _ _ _) h b s = inl refl
effect_kind t (At.QueueCas _ _) h b s = inl refl
effect_kind t (At.SplitPrev _ _ _) h b s = inl refl
effect_kind t (At.SplitStore _ _ _ _) h b s = inl refl
effect_kind t (At.SplitCas _ _ _) h b s = inl refl
effect_kind t (At.SplitRestore _ _ _ _) h b s = inl refl
effect_kind t (At.TakeCas _ _ _) h b s = inl refl
effect_kind t (At.WakePrev _ _) h b s = inl refl
effect_kind t (At.WakeStore _ _ _) h b s = inl refl
effect_kind t At.ReadUnlockLoad h b s = inl refl
effect_kind t (At.ReadUnlockCas _) h b s = inr (inl refl)
effect_kind t (At.Subtract _ _) h b s = inr (inr refl)
effect_kind t At.WriteUnlockCas h b s = inr (inl refl)
effect_kind t (At.ReleaseCas _) h b s = inr (inl refl)
effect_kind t At.DowngradeCas h b s = inr (inl refl)
effect_kind t (At.DowngradeSlowCas _) h b s = inr (inl refl)
