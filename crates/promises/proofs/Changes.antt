-- Where a rule grants, releases or downgrades, the word changes, but for a contended reader's subtraction:
-- each such place by its own words.
-- Assumes nothing.
use Rattle.std.specs.Prelude.{ℕ, ◌+◌, ◌<◌, Bool, true, false, not, ◌⊎◌, ◌≡◌, T, eqb, ltb, Err, Ok, Option, Some, None}
use Rattle.std.proofs.Math.Logic.{inl, inr}
use Rattle.std.proofs.Math.Path.{refl}
use Rattle.std.proofs.Common.{sym, ap, subst, ◌∙◌, arith}
use borrow.Author.Tests.{ne_eqb, eqb-true}
use Rattle.word.specs.Base.{pick}
use Rattle.word.specs.Cases.{pick_both}
use Rattle.word.specs.Flags.{word, LOCKED, QUEUE_LOCKED, DOWNGRADED, SINGLE, locked, queued}
use Rattle.word.specs.Flags.{queue_locked, downgraded, clear_locked, set_queue_locked, set_downgraded}
use Rattle.word.specs.Rules.{read_unlock_of}
use Rattle.word.specs.Laws.{read_lock_more, write_lock_granted, read_unlock_less, clear_has, set_has, set_keeps}
use Rattle.word.specs.declared.flags.Word.{Word}
use Rattle.word.specs.declared.rules.ReadUnlocked.{ReadUnlocked}
use Rattle.word.specs.declared.rules.ReadUnlocked.TheVariants.{To as UnlockTo, Contended, Refused as UnlockRefused}
use Rattle.state.specs.View.{at, end, agrees_of, stays, writes, Stepped}
use Rattle.state.specs.declared.answer.Answer.TheVariants.{Done}
use Rattle.state.specs.declared.holding.Holding.{Holding}
use Rattle.state.specs.declared.holding.Holding.TheVariants.{Nothing as HoldsNothing, Read}
use Rattle.state.specs.declared.place.Place.{Place}
use Rattle.state.specs.declared.place.Place.TheVariants as At
use Rattle.state.specs.declared.view.View.{View}
use Rattle.state.specs.declared.view.Next.{Next}
use Rattle.state.specs.declared.view.Change.{Change}
use Rattle.acquire.specs.LockContended.{permitted_of, granted_of, fill_of, contend_by}
use Rattle.acquire.specs.LockContended.{contend_judged, contend_cas_by, contend_cas_of, spin_count}
use Rattle.release.specs.ReadUnlock.{read_unlock_by, read_unlock_judged, read_unlock_cas_by, read_unlock_cas_of}
use Rattle.release.specs.WriteUnlock.{write_unlock_cas_of}
use Rattle.release.specs.UnlockContended.{released_to, after_release, release_cas_of}
use Rattle.release.specs.Downgrade.{downgrade_cas_of, downgraded_word, after_downgrade, downgrade_slow_cas_of}
use Rattle.lock.specs.Advance.{advance_of}
use Rattle.lock.specs.Effect.{LockEffect, keeps, grants_read, grants_write, lock_effect, stand_of}
use Rattle.promises.specs.Refusals.{and}
use Rattle.promises.specs.Shared.{lock_done}
use Rattle.promises.proofs.Obeys.{All, agrees_word}
use Rattle.promises.specs.Tables.{subtracting, contended, asserted}

-- the lock is kept, or the word changed, or it is the subtraction
abbrev pub Moves : View → Place → Change → Type 0
Moves v p c = (lock_done v p c ≡ keeps) ⊎ ((not (eqb c.word.0 v.word.0) ≡ true) ⊎ (subtracting p ≡ true))

everywhere : (v : View) (p : Place) → ((c : Change) → Moves v p c) → (s : Stepped) → All (Moves v p) s
everywhere v p f (Ok c) = f c
everywhere v p f (Err r) = tt

true_not_false : true ≡ false → ⊥
true_not_false e = subst T e tt

changed : (a b : ℕ) → (a ≡ b → ⊥) → not (eqb a b) ≡ true
changed a b h = ap not (ne_eqb a b h)

-- an effect that asks for a changed word
by_change : (b : Bool) (x : LockEffect) → (pick b x keeps ≡ keeps) ⊎ ((b ≡ true) ⊎ (◌≡◌ {A = Bool} false true))
by_change true x = inr (inl refl)
by_change false x = inl refl

-- a word with a flag is not one without it
apart : (f : Word → Bool) (x y : Word) → f x ≡ true → f y ≡ false → x.0 ≡ y.0 → ⊥
apart f x y p q e = true_not_false (sym p ∙ (ap f (ap word e) ∙ q))

and_first : (a b : Bool) → and a b ≡ true → a ≡ true
and_first true b e = refl
and_first false b e = absurd (true_not_false (sym e))

and_second : (a b : Bool) → and a b ≡ true → b ≡ true
and_second true b e = e
and_second false b e = absurd (true_not_false (sym e))

not_flag : (b : Bool) → not b ≡ true → b ≡ false
not_flag true e = sym e
not_flag false e = refl

-- ── the words that are written ──

-- the lock rule's word is above the one seen
permit_more : (writer : Bool) (seen to : Word) → permitted_of writer seen ≡ Some to → seen.0 < to.0
permit_more true seen to e = omega (arith, ap (λ (y : Word). y.0) (write_lock_granted seen to e).1)
permit_more false seen to e = read_lock_more seen to e

-- a release takes LOCKED off
released_unlocked : (seen : Word) → locked (released_to seen) ≡ false
released_unlocked seen =
    pick_both (λ (x : Word). locked x ≡ false)
    (queue_locked seen)
    (clear_locked seen)
    (set_queue_locked (clear_locked seen))
    (λ _. clear_has LOCKED refl seen)
    (λ _. set_keeps QUEUE_LOCKED LOCKED refl (clear_locked seen) ∙ clear_has LOCKED refl seen)

release_changes : (seen : Word) → contended seen ≡ true → (released_to seen).0 ≡ seen.0 → ⊥
release_changes seen c e =
    apart locked seen (released_to seen)
    (and_first (locked seen) (not (downgraded seen))
    (and_second (queued seen) (and (locked seen) (not (downgraded seen))) c)) (released_unlocked seen) (sym e)

-- a downgrade puts DOWNGRADED on, or takes QUEUED off
downgrade_changes : (seen : Word) → contended seen ≡ true → (downgraded_word seen).0 ≡ seen.0 → ⊥
downgrade_changes seen c =
    let rest = and_second (queued seen) (and (locked seen) (not (downgraded seen))) c in
    pick_both (λ (x : Word). x.0 ≡ seen.0 → ⊥)
    (queue_locked seen)
    (set_downgraded seen)
    (word (SINGLE + LOCKED))
    (λ _ e. apart downgraded (set_downgraded seen) seen (set_has DOWNGRADED refl seen)
    (not_flag (downgraded seen) (and_second (locked seen) (not (downgraded seen)) rest)) e)
    (λ _ e. apart queued seen (word (SINGLE + LOCKED))
    (and_first (queued seen) (and (locked seen) (not (downgraded seen))) c) refl (sym e))

-- ── the places ──

module _ (v : View) where
  -- a compare that agreed on the word seen, and writes another one
  written : (p : Place) (seen w : Word) (h : Holding) (next : Next)
      → agrees_of v seen ≡ true
      → (w.0 ≡ seen.0 → ⊥)
      → All (Moves v p) (writes v w h next)
  written p seen w h next a n = inr (inl (changed w.0 v.word.0 (λ e. n (e ∙ agrees_word v seen a))))

  contend_by_lem : (writer : Bool) (reloads : ℕ) (seen : Word) (r : Option Word)
      → All (Moves v (At.ContendCas writer reloads seen)) (contend_by v writer reloads v.word r)
  unfolding lock_effect stand_of
  contend_by_lem writer reloads seen (Some to) = inl refl
  contend_by_lem writer reloads seen None =
      pick_both (All (Moves v (At.ContendCas writer reloads seen)))
      (queued v.word)
      (fill_of v writer reloads v.word)
      (pick (ltb reloads spin_count) (stays v (at (At.ContendLoad writer (reloads + 1))))
      (fill_of v writer reloads v.word))
      (λ _. inl refl)
      (λ _. pick_both (All (Moves v (At.ContendCas writer reloads seen))) (ltb reloads spin_count)
      (stays v (at (At.ContendLoad writer (reloads + 1)))) (fill_of v writer reloads v.word)
      (λ _. inl refl) (λ _. inl refl))

  contend_compared : (writer : Bool) (reloads : ℕ) (seen : Word) (r : Option Word)
      → permitted_of writer seen ≡ r
      → agrees_of v seen ≡ true
      → All (Moves v (At.ContendCas writer reloads seen)) (contend_cas_by v writer reloads r)
  contend_compared writer reloads seen (Some to) e a =
      written (At.ContendCas writer reloads seen) seen to (granted_of writer v.holding) (end Done) a
      (λ q. omega (arith, permit_more writer seen to e, q))
  contend_compared writer reloads seen None e a =
      contend_by_lem writer reloads seen (permitted_of writer v.word)

  contend_cas : (writer : Bool) (reloads : ℕ) (seen : Word)
      → All (Moves v (At.ContendCas writer reloads seen)) (contend_cas_of v writer reloads seen)
  contend_cas writer reloads seen =
      pick_both (All (Moves v (At.ContendCas writer reloads seen)))
      (agrees_of v seen)
      (contend_cas_by v writer reloads (permitted_of writer seen))
      (contend_judged v writer reloads v.word)
      (contend_compared writer reloads seen (permitted_of writer seen) refl)
      (λ _. contend_by_lem writer reloads seen (permitted_of writer v.word))

  read_unlock_by_lem : (seen : Word) (r : ReadUnlocked)
      → All (Moves v (At.ReadUnlockCas seen)) (read_unlock_by v v.word r)
  unfolding lock_effect stand_of
  read_unlock_by_lem seen (UnlockTo to) = inl refl
  read_unlock_by_lem seen Contended = inl refl
  read_unlock_by_lem seen UnlockRefused = tt

  read_unlock_compared : (seen : Word) (r : ReadUnlocked)
      → read_unlock_of seen ≡ r
      → agrees_of v seen ≡ true
      → All (Moves v (At.ReadUnlockCas seen)) (read_unlock_cas_by v r)
  read_unlock_compared seen (UnlockTo to) e a =
      written (At.ReadUnlockCas seen) seen to HoldsNothing (end Done) a
      (λ q. omega (arith, read_unlock_less seen to e, q))
  read_unlock_compared seen Contended e a = read_unlock_by_lem seen (read_unlock_of v.word)
  read_unlock_compared seen UnlockRefused e a = read_unlock_by_lem seen (read_unlock_of v.word)

  read_unlock_cas : (seen : Word) → All (Moves v (At.ReadUnlockCas seen)) (read_unlock_cas_of v seen)
  read_unlock_cas seen =
      pick_both (All (Moves v (At.ReadUnlockCas seen)))
      (agrees_of v seen)
      (read_unlock_cas_by v (read_unlock_of seen))
      (read_unlock_judged v v.word)
      (read_unlock_compared seen (read_unlock_of seen) refl)
      (λ _. read_unlock_by_lem seen (read_unlock_of v.word))

  write_unlock_cas : All (Moves v At.WriteUnlockCas) (write_unlock_cas_of v)
  unfolding lock_effect stand_of
  write_unlock_cas =
      pick_both (All (Moves v At.WriteUnlockCas))
      (eqb v.word.0 LOCKED)
      (writes v (word 0) HoldsNothing (end Done))
      (stays v (at (At.ReleaseCas v.word)))
      (λ e. inr (inl (changed 0 v.word.0 (λ q. omega (arith, q, eqb-true v.word.0 LOCKED e)))))
      (λ _. inl refl)

  release_cas : (seen : Word) → contended seen ≡ true → All (Moves v (At.ReleaseCas seen)) (release_cas_of v seen)
  unfolding lock_effect stand_of
  release_cas seen c =
      pick_both (All (Moves v (At.ReleaseCas seen)))
      (agrees_of v seen)
      (writes v (released_to seen) HoldsNothing (after_release seen (released_to seen)))
      (stays v (at (At.ReleaseCas v.word)))
      (λ a. written (At.ReleaseCas seen) seen (released_to seen) HoldsNothing (after_release seen (released_to seen)) a
      (release_changes seen c))
      (λ _. inl refl)

  downgrade_cas : All (Moves v At.DowngradeCas) (downgrade_cas_of v)
  unfolding lock_effect stand_of
  downgrade_cas =
      pick_both (All (Moves v At.DowngradeCas))
      (eqb v.word.0 LOCKED)
      (writes v (word (SINGLE + LOCKED)) Read (end Done))
      (stays v (at (At.DowngradeSlowCas v.word)))
      (λ e. inr (inl (changed (SINGLE + LOCKED) v.word.0 (λ q. omega (arith, q, eqb-true v.word.0 LOCKED e)))))
      (λ _. inl refl)

  downgrade_slow_cas : (seen : Word)
      → contended seen ≡ true
      → All (Moves v (At.DowngradeSlowCas seen)) (downgrade_slow_cas_of v seen)
  unfolding lock_effect stand_of
  downgrade_slow_cas seen c =
      pick_both (All (Moves v (At.DowngradeSlowCas seen)))
      (agrees_of v seen)
      (writes v (downgraded_word seen) Read (after_downgrade seen))
      (stays v (at (At.DowngradeSlowCas v.word)))
      (λ a. written (At.DowngradeSlowCas seen) seen (downgraded_word seen) Read (after_downgrade seen) a
      (downgrade_changes seen c))
      (λ _. inl refl)

-- every rule, at a place whose word is as queue.rs asserts
pub moves : (v : View) (p : Place) → asserted p ≡ true → All (Moves v p) (advance_of v p)
unfolding advance_of lock_effect asserted subtracting
moves v At.Idle e = everywhere v At.Idle (λ c. inl refl) (advance_of v At.Idle)
moves v (At.TryReadLoad b) e = everywhere v (At.TryReadLoad b) (λ c. inl refl) (advance_of v (At.TryReadLoad b))
moves v (At.TryReadCas b seen) e =
    everywhere v (At.TryReadCas b seen)
    (λ c. by_change (not (eqb c.word.0 v.word.0)) grants_read)
    (advance_of v (At.TryReadCas b seen))
moves v (At.TryWriteOr b) e =
    everywhere v (At.TryWriteOr b)
    (λ c. by_change (not (eqb c.word.0 v.word.0)) grants_write)
    (advance_of v (At.TryWriteOr b))
moves v (At.ContendLoad w r) e = everywhere v (At.ContendLoad w r) (λ c. inl refl) (advance_of v (At.ContendLoad w r))
moves v (At.ContendCas writer reloads seen) e = contend_cas v writer reloads seen
moves v (At.RegisterCas w r seen) e =
    everywhere v (At.RegisterCas w r seen) (λ c. inl refl) (advance_of v (At.RegisterCas w r seen))
moves v (At.CompletedLoad w) e = everywhere v (At.CompletedLoad w) (λ c. inl refl) (advance_of v (At.CompletedLoad w))
moves v (At.Park w) e = everywhere v (At.Park w) (λ c. inl refl) (advance_of v (At.Park w))
moves v (At.WalkTail k seen c) e =
    everywhere v (At.WalkTail k seen c) (λ c. inl refl) (advance_of v (At.WalkTail k seen c))
moves v (At.WalkNext k seen c) e =
    everywhere v (At.WalkNext k seen c) (λ c. inl refl) (advance_of v (At.WalkNext k seen c))
moves v (At.WalkPrev k seen c n) e =
    everywhere v (At.WalkPrev k seen c n) (λ c. inl refl) (advance_of v (At.WalkPrev k seen c n))
moves v (At.WalkHead k seen z) e =
    everywhere v (At.WalkHead k seen z) (λ c. inl refl) (advance_of v (At.WalkHead k seen z))
moves v (At.QueueCas o seen) e = everywhere v (At.QueueCas o seen) (λ c. inl refl) (advance_of v (At.QueueCas o seen))
moves v (At.SplitPrev o seen z) e =
    everywhere v (At.SplitPrev o seen z) (λ c. inl refl) (advance_of v (At.SplitPrev o seen z))
moves v (At.SplitStore o seen z q) e =
    everywhere v (At.SplitStore o seen z q) (λ c. inl refl) (advance_of v (At.SplitStore o seen z q))
moves v (At.SplitCas o seen z) e =
    everywhere v (At.SplitCas o seen z) (λ c. inl refl) (advance_of v (At.SplitCas o seen z))
moves v (At.SplitRestore o seen z s) e =
    everywhere v (At.SplitRestore o seen z s) (λ c. inl refl) (advance_of v (At.SplitRestore o seen z s))
moves v (At.TakeCas o seen z) e =
    everywhere v (At.TakeCas o seen z) (λ c. inl refl) (advance_of v (At.TakeCas o seen z))
moves v (At.WakePrev o c) e = everywhere v (At.WakePrev o c) (λ c. inl refl) (advance_of v (At.WakePrev o c))
moves v (At.WakeStore o c q) e = everywhere v (At.WakeStore o c q) (λ c. inl refl) (advance_of v (At.WakeStore o c q))
moves v At.ReadUnlockLoad e = everywhere v At.ReadUnlockLoad (λ c. inl refl) (advance_of v At.ReadUnlockLoad)
moves v (At.ReadUnlockCas seen) e = read_unlock_cas v seen
moves v (At.Subtract seen z) e =
    everywhere v (At.Subtract seen z) (λ c. inr (inr refl)) (advance_of v (At.Subtract seen z))
moves v At.WriteUnlockCas e = write_unlock_cas v
moves v (At.ReleaseCas seen) e = release_cas v seen e
moves v At.DowngradeCas e = downgrade_cas v
moves v (At.DowngradeSlowCas seen) e = downgrade_slow_cas v seen e
