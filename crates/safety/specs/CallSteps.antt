-- Every rule, at each of its ends, takes a call from what fits its place (Phases.antt) to what fits the place gone on
-- to, or to its work done (Calls.antt).
-- Assumes nothing.
use Rattle.std.proofs.Math.Bool.{true, false}
use Rattle.std.specs.Prelude.{not, List, [], ◌∷◌, ◌⊎◌, ◌≡◌, eqb}
use Rattle.std.proofs.Math.Logic.{inl, inr}
use Rattle.std.proofs.Math.Path.{refl, ap}
use Rattle.std.proofs.Common.{sym, subst, arith}
use Rattle.word.specs.Base.{pick}
use Rattle.state.specs.Holding.{writes_of}
use Rattle.state.specs.declared.answer.Answer.{Answer}
use Rattle.state.specs.declared.answer.Answer.TheVariants.{Begun, Went, Done, Yes, No}
use Rattle.state.specs.declared.holding.Holding.{Holding}
use Rattle.state.specs.declared.holding.Holding.TheVariants.{Nothing as HoldsNothing, Read as HoldsRead}
use Rattle.state.specs.declared.holding.Holding.TheVariants.{Write as HoldsWrite}
use Rattle.state.specs.declared.place.Who.TheVariants.{Waiter, Leaver}
use Rattle.state.specs.declared.place.Walk.TheVariants.{Queue, ReadUnlock as ForReadUnlock, Downgrade as ForDowngrade}
use Rattle.state.specs.declared.place.Place.{Place}
use Rattle.state.specs.declared.place.Place.TheVariants as At
use Rattle.state.specs.declared.view.View.{View}
use Rattle.state.specs.declared.view.Change.{Change}
use Rattle.lock.specs.Advance.{advance_of}
use Rattle.lock.specs.Effect.{LockEffect, keeps, grants_read, grants_write, releases_read, releases_write, downgrades}
use Rattle.lock.specs.Effect.{ended, release_of, lock_effect, stand_of}
use Rattle.lock.specs.declared.code.Call.{Call}
use Rattle.lock.specs.declared.code.Call.TheVariants.{Read, Write, TryRead, TryWrite, ReadUnlock, WriteUnlock}
use Rattle.lock.specs.declared.code.Call.TheVariants.{Downgrade}
use Rattle.promises.specs.Shared.{lock_done}
use Rattle.promises.proofs.Obeys.{All, same_word, read_granted, write_granted}
use Rattle.promises.proofs.RuleEnds.{try_read_ends, try_read_cas_ends, try_write_ends, contend_ends, contend_cas_ends}
use Rattle.promises.proofs.RuleEnds.{register_ends, completed_ends, park_ends, walk_tail_ends, found_ends}
use Rattle.promises.proofs.RuleEnds.{queue_cas_ends, split_prev_ends, split_cas_ends, take_cas_ends, wake_store_ends}
use Rattle.promises.proofs.RuleEnds.{read_unlock_ends, read_unlock_cas_ends, subtract_ends, write_unlock_ends}
use Rattle.promises.proofs.RuleEnds.{release_ends, downgrade_ends, downgrade_slow_ends}
use Rattle.invariant.specs.Table.{about, Allowed}
use Rattle.safety.specs.Calls.{also, Work}
use Rattle.safety.specs.Phases.{phase, releases, Left, Fits}

-- ── what a step must leave ──

-- by its answer: a call that goes on, or its work
abbrev pub Then : Answer → Place → Holding → Call → List LockEffect → Type 0
Then Begun p h c xs = ⊥
Then Went p h c xs = Fits (phase p) h c xs
Then Done p h c xs = Work c Done xs
Then Yes p h c xs = Work c Yes xs
Then No p h c xs = Work c No xs

abbrev pub Works : View → Place → Change → Type 0
Works v p x =
    (c : Call) (xs : List LockEffect) → Allowed (about p).may v.holding → Fits (phase p) v.holding c xs
    → Then x.answer x.thread.place x.thread.holding c (also xs (lock_done v p x))

-- ── ways to end ──

-- a call that had done nothing ends with its one effect, or with none
ends_as : (a : Answer) (c₀ : Call) (y : LockEffect) {x : LockEffect} (c : Call) (xs : List LockEffect) → x ≡ y
    → (c ≡ c₀) × (xs ≡ []) → Work c₀ a (also [] y) → Work c a (also xs x)
ends_as a c₀ y {x} c xs e f w =
    subst (λ z. Work c a (also xs z)) (sym e)
    (subst (λ l. Work c a (also l y)) (sym f.1) (subst (λ d. Work d a (also [] y)) (sym f.0) w))

-- one that had done its work ends with it
left_works : (c : Call) (xs : List LockEffect) → Left c xs → Work c Done xs
left_works c xs (inl f) = rw (f.0, f.1) (refl, refl)
left_works c xs (inr f) = rw (f.0, f.1) (refl, refl)

woken_works : (c : Call) (xs : List LockEffect) → Left c xs ⊎ ((c ≡ Downgrade) × (xs ≡ downgrades ∷ []))
    → Work c Done xs
woken_works c xs (inl f) = left_works c xs f
woken_works c xs (inr f) = rw (f.0, f.1) (refl, refl)

-- the compare that releases: the writer's release, or nothing more of the last reader's
released : (h : Holding) (c : Call) (xs : List LockEffect) → Fits releases h c xs → Left c (also xs (release_of h))
released h c xs (inl f) = inl (f.0, rw f.2 f.1)
released h c xs (inr f) = inr (f.0, rw (f.2, f.1) refl)

writes_is : (h : Holding) → writes_of h ≡ 1 → h ≡ HoldsWrite
writes_is HoldsNothing l = absurd (omega (arith, l))
writes_is HoldsRead l = absurd (omega (arith, l))
writes_is HoldsWrite l = refl

-- ── every rule ──

module _ (v : View) where
  -- an attempt that left the word as it was has no effect
  quiet : (x : LockEffect) → pick (not (eqb v.word.0 v.word.0)) x keeps ≡ keeps
  quiet x = ap (λ b. pick b x keeps) (same_word v.word.0)

  still : (p : Place) (x : LockEffect) (c : Call) (xs : List LockEffect) → Fits (phase p) v.holding c xs
      → Fits (phase p) v.holding c (also xs (pick (not (eqb v.word.0 v.word.0)) x keeps))
  still p x c xs f = subst (λ y. Fits (phase p) v.holding c (also xs y)) (sym (quiet x)) f

  pub rule_works : (p : Place) → All (Works v p) (advance_of v p)
  unfolding advance_of lock_effect stand_of
  rule_works At.Idle = tt
  rule_works (At.TryReadLoad true) = try_read_ends v _ true (λ c xs _ f. f) (λ c xs _ f. f)
  rule_works (At.TryReadLoad false) =
      try_read_ends v _ false (λ c xs _ f. f) (λ c xs _ f. ends_as No TryRead keeps c xs refl f (inr (refl, refl)))
  rule_works (At.TryReadCas true x) =
      try_read_cas_ends v _ true x
      (λ to e g c xs _ f. ends_as Done Read grants_read c xs (read_granted v true x to e g ended) f (refl, refl))
      (try_read_ends v _ true
      (λ c xs _ f. still (At.TryReadCas true x) grants_read c xs f)
      (λ c xs _ f. still (At.TryReadCas true x) grants_read c xs f))
  rule_works (At.TryReadCas false x) =
      try_read_cas_ends v _ false x
      (λ to e g c xs _ f.
      ends_as Yes TryRead grants_read c xs (read_granted v false x to e g ended) f (inl (refl, refl)))
      (try_read_ends v _ false
      (λ c xs _ f. still (At.TryReadCas false x) grants_read c xs f)
      (λ c xs _ f. ends_as No TryRead keeps c xs (quiet grants_read) f (inr (refl, refl))))
  rule_works (At.TryWriteOr true) =
      try_write_ends v _ true
      (λ _ c xs _ f. still (At.TryWriteOr true) grants_write c xs f)
      (λ e c xs _ f. ends_as Done Write grants_write c xs (write_granted v true e ended) f (refl, refl))
  rule_works (At.TryWriteOr false) =
      try_write_ends v _ false
      (λ _ c xs _ f. ends_as No TryWrite keeps c xs (quiet grants_write) f (inr (refl, refl)))
      (λ e c xs _ f. ends_as Yes TryWrite grants_write c xs (write_granted v false e ended) f (inl (refl, refl)))
  rule_works (At.ContendLoad w r) = contend_ends v _ w r (λ c xs _ f. f) (λ c xs _ f. f) (λ c xs _ f. f)
  rule_works (At.ContendCas true r x) =
      contend_cas_ends v _ true r x (λ to e g c xs _ f. ends_as Done Write grants_write c xs refl f (refl, refl))
      (contend_ends v _ true r (λ c xs _ f. f) (λ c xs _ f. f) (λ c xs _ f. f))
  rule_works (At.ContendCas false r x) =
      contend_cas_ends v _ false r x (λ to e g c xs _ f. ends_as Done Read grants_read c xs refl f (refl, refl))
      (contend_ends v _ false r (λ c xs _ f. f) (λ c xs _ f. f) (λ c xs _ f. f))
  rule_works (At.RegisterCas w r x) =
      register_ends v _ w r x (λ c xs _ f. f) (λ c xs _ f. f)
      (contend_ends v _ w r (λ c xs _ f. f) (λ c xs _ f. f) (λ c xs _ f. f))
  rule_works (At.CompletedLoad w) = completed_ends v _ w (λ c xs _ f. f) (λ c xs _ f. f)
  rule_works (At.Park w) = park_ends v _ w (λ _ c xs _ f. f) (λ _ c xs _ f. f)
  rule_works (At.WalkTail k x n) = walk_tail_ends v _ k x n (λ c xs _ f. f) (λ c xs _ f. f)
  rule_works (At.WalkNext k x n) = λ c xs _ f. f
  rule_works (At.WalkPrev k x n y) = λ c xs _ f. f
  rule_works (At.WalkHead (Queue who) x tail) =
      found_ends v _ who x tail (λ c xs _ f. f) (λ c xs _ f. f) (λ c xs _ f. f)
  rule_works (At.WalkHead ForReadUnlock x tail) = λ c xs _ f. f
  rule_works (At.WalkHead ForDowngrade x tail) = λ c xs _ f. inr f
  rule_works (At.QueueCas (Waiter w) x) = queue_cas_ends v _ (Waiter w) x (λ c xs _ f. f) (λ c xs _ f. f)
  rule_works (At.QueueCas Leaver x) = queue_cas_ends v _ Leaver x (λ c xs _ f. left_works c xs f) (λ c xs _ f. f)
  rule_works (At.SplitPrev who x tail) = split_prev_ends v _ who x tail (λ c xs _ f. f) (λ c xs _ f. f)
  rule_works (At.SplitStore who x tail prev) = λ c xs _ f. f
  rule_works (At.SplitCas (Waiter w) x tail) = split_cas_ends v _ (Waiter w) x tail (λ c xs _ f. f) (λ c xs _ f. f)
  rule_works (At.SplitCas Leaver x tail) = split_cas_ends v _ Leaver x tail (λ c xs _ f. inl f) (λ c xs _ f. f)
  rule_works (At.SplitRestore who x tail reported) = λ c xs _ f. f
  rule_works (At.TakeCas (Waiter w) x tail) = take_cas_ends v _ (Waiter w) x tail (λ c xs _ f. f) (λ c xs _ f. f)
  rule_works (At.TakeCas Leaver x tail) = take_cas_ends v _ Leaver x tail (λ c xs _ f. inl f) (λ c xs _ f. f)
  rule_works (At.WakePrev who n) = λ c xs _ f. f
  rule_works (At.WakeStore (Waiter w) n prev) = wake_store_ends v _ (Waiter w) n prev (λ c xs _ f. f) (λ c xs _ f. f)
  rule_works (At.WakeStore Leaver n prev) =
      wake_store_ends v _ Leaver n prev (λ c xs _ f. woken_works c xs f) (λ c xs _ f. f)
  rule_works At.ReadUnlockLoad = read_unlock_ends v _ (λ c xs _ f. f) (λ c xs _ f. f)
  rule_works (At.ReadUnlockCas x) =
      read_unlock_cas_ends v _ x
      (λ to e g c xs _ f. ends_as Done ReadUnlock releases_read c xs refl f (refl, refl))
      (read_unlock_ends v _ (λ c xs _ f. f) (λ c xs _ f. f))
  rule_works (At.Subtract x tail) =
      subtract_ends v _ x tail
      (λ c xs _ f. inl (f.0, ap (λ l. also l releases_read) f.1, refl))
      (λ c xs _ f. ends_as Done ReadUnlock releases_read c xs refl f (refl, refl))
  rule_works At.WriteUnlockCas =
      write_unlock_ends v _
      (λ e c xs _ f. ends_as Done WriteUnlock releases_write c xs refl f (refl, refl))
      (λ c xs a f. inr (f.0, f.1, writes_is v.holding a.writes))
  rule_works (At.ReleaseCas x) =
      release_ends v _ x
      (λ g c xs _ f. left_works c (also xs (release_of v.holding)) (released v.holding c xs f))
      (λ g c xs _ f. released v.holding c xs f)
      (λ c xs _ f. f)
  rule_works At.DowngradeCas =
      downgrade_ends v _ (λ e c xs _ f. ends_as Done Downgrade downgrades c xs refl f (refl, refl)) (λ c xs _ f. f)
  rule_works (At.DowngradeSlowCas x) =
      downgrade_slow_ends v _ x
      (λ g c xs _ f. ends_as Done Downgrade downgrades c xs refl f (refl, refl))
      (λ g c xs _ f. (f.0, ap (λ l. also l downgrades) f.1))
      (λ c xs _ f. f)
