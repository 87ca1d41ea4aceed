-- On a machine that has the invariant an event grants, releases or downgrades only if it changes the word, or is a
-- contended reader's subtraction: who releases or downgrades slowly compares a word that is as queue.rs asserts, or its
-- compare fails. The statement: Statements.antt.
-- Assumes nothing.
use Rattle.std.specs.Prelude.{ℕ, true, false, ◌⊎◌, ◌≡◌, Err, Ok, Option}
use Rattle.std.proofs.Math.Logic.{inl}
use Rattle.std.proofs.Common.{inr, ⊎_elim, sym, ap, ◌∙◌, subst}
use Rattle.std.proofs.Math.Path.{refl}
use Rattle.word.specs.Flags.{word, locked, queued, downgraded}
use Rattle.word.specs.declared.flags.Word.{Word}
use Rattle.word.specs.declared.number.ThreadNumber.{ThreadNumber}
use Rattle.state.specs.Answer.{Reply, accepted_with}
use Rattle.state.specs.Machine.{thread_at}
use Rattle.state.specs.View.{agrees_of}
use Rattle.state.specs.declared.answer.Answer.{Answer}
use Rattle.state.specs.declared.machine.Machine.{Machine}
use Rattle.state.specs.declared.place.Place.{Place}
use Rattle.state.specs.declared.place.Place.TheVariants as At
use Rattle.state.specs.declared.view.View.{View}
use Rattle.state.specs.declared.view.Change.{Change}
use Rattle.lock.specs.Advance.{advance_of}
use Rattle.lock.specs.Effect.{keeps, effect_of, lock_effect, stand_of}
use Rattle.lock.specs.Event.{event_of}
use Rattle.promises.specs.Program.{place_of}
use Rattle.promises.specs.Shared.{lock_done}
use Rattle.promises.proofs.Obeys.{All, agrees_word}
use Rattle.promises.proofs.RuleEnds.{release_ends, downgrade_slow_ends}
use Rattle.promises.specs.Happened.{Stepping, Happened, begun, stepped, happened}
use Rattle.promises.specs.Tables.{contended, asserted}
use Rattle.promises.proofs.Afterwards.{seen, effect_is, step_moves, begun_effect}
use Rattle.promises.proofs.Theorems.{refusal_changes_nothing, refused_has_no_effect}
use Rattle.queue.specs.Tests.{not_true, not_false}
use Rattle.invariant.specs.Table.{about}
use Rattle.invariant.specs.Invariant.{writers, leavers}
use Rattle.invariant.proofs.Exclusion.{nobody_needs}
use Rattle.invariant.specs.Bridge.{lock_of}
use Rattle.invariant.proofs.Events.{Sound}
use Rattle.safety.specs.Statements.{Event, effect_in, WithTheWord}

-- ── the rules of the two compares ──

abbrev KeptOrAgreed : View → Place → Word → Change → Type 0
KeptOrAgreed v p seen c = (lock_done v p c ≡ keeps) ⊎ (agrees_of v seen ≡ true)

release_agreed : (v : View) (seen : Word)
    → All (KeptOrAgreed v (At.ReleaseCas seen) seen) (advance_of v (At.ReleaseCas seen))
unfolding advance_of lock_effect stand_of
release_agreed v seen = release_ends v (KeptOrAgreed v (At.ReleaseCas seen) seen) seen inr inr (inl refl)

downgrade_agreed : (v : View) (seen : Word)
    → All (KeptOrAgreed v (At.DowngradeSlowCas seen) seen) (advance_of v (At.DowngradeSlowCas seen))
unfolding advance_of lock_effect stand_of
downgrade_agreed v seen =
    downgrade_slow_ends v (KeptOrAgreed v (At.DowngradeSlowCas seen) seen) seen inr inr (inl refl)

-- who needs the queue to stay finds the word as queue.rs asserts
needs_contended : (m : Machine) (ok : Sound m) (t : ℕ)
    → (about (thread_at m t).place).needs_queue ≡ true → contended m.word ≡ true
needs_contended m ok t e = rw (q, l, d)
  where
    gone : writers m.count (lock_of m) ≡ 0 → leavers m.count (lock_of m) ≡ 0 → ⊥
    gone w0 l0 = nobody_needs ok.inv w0 l0 t e

    q : queued m.word ≡ true
    q = ok.inv.needs t e

    l : locked m.word ≡ true
    l = not_false (locked m.word) (λ z. let x = ok.inv.count.unlocked q z in gone x.writes x.leaves)

    d : downgraded m.word ≡ false
    d = not_true (downgraded m.word) (λ z. let x = ok.inv.count.handed q l z in gone x.writes x.leaves)

-- ── a step ──

module _ (m : Machine) (ok : Sound m) (e : Event) (a : Answer) (w : Option ThreadNumber)
    (r : (event_of m e.code e.thread).reply ≡ accepted_with a w)
    (s : Stepping m e.code e.thread (event_of m e.code e.thread)) where
  abbrev v : View
  v = seen m e.code e.thread a w r s

  abbrev Here : Place → Type 0
  Here p = place_of m e.thread ≡ p

  abbrev AssertedOrKept : Place → Type 0
  AssertedOrKept p = (asserted p ≡ true) ⊎ ((effect_in m e).lock ≡ keeps)

  by_agreed : (p : Place) (x : Word) → Here p → (about p).needs_queue ≡ true → asserted p ≡ contended x
      → All (KeptOrAgreed v p x) (advance_of v p) → AssertedOrKept p
  by_agreed p x i needs is all = by (subst (All (KeptOrAgreed v p x)) (ap (advance_of v) (sym i) ∙ s.rule) all)
    where
      by : KeptOrAgreed v p x s.c → AssertedOrKept p
      by (inl k) =
          inr (effect_is m e.code e.thread a w r s ok.sized ∙ (ap (λ q. lock_done v q s.c) i ∙ k))
      by (inr g) =
          inl (is ∙ (ap contended (ap word (sym (agrees_word v x g)))
          ∙ needs_contended m ok e.thread.0 (ap (λ q. (about q).needs_queue) i ∙ needs)))

  asserted_or_kept : (p : Place) → Here p → AssertedOrKept p
  unfolding asserted
  asserted_or_kept At.Idle i = inl refl
  asserted_or_kept (At.TryReadLoad _) i = inl refl
  asserted_or_kept (At.TryReadCas _ _) i = inl refl
  asserted_or_kept (At.TryWriteOr _) i = inl refl
  asserted_or_kept (At.ContendLoad _ _) i = inl refl
  asserted_or_kept (At.ContendCas _ _ _) i = inl refl
  asserted_or_kept (At.RegisterCas _ _ _) i = inl refl
  asserted_or_kept (At.CompletedLoad _) i = inl refl
  asserted_or_kept (At.Park _) i = inl refl
  asserted_or_kept (At.WalkTail _ _ _) i = inl refl
  asserted_or_kept (At.WalkNext _ _ _) i = inl refl
  asserted_or_kept (At.WalkPrev _ _ _ _) i = inl refl
  asserted_or_kept (At.WalkHead _ _ _) i = inl refl
  asserted_or_kept (At.QueueCas _ _) i = inl refl
  asserted_or_kept (At.SplitPrev _ _ _) i = inl refl
  asserted_or_kept (At.SplitStore _ _ _ _) i = inl refl
  asserted_or_kept (At.SplitCas _ _ _) i = inl refl
  asserted_or_kept (At.SplitRestore _ _ _ _) i = inl refl
  asserted_or_kept (At.TakeCas _ _ _) i = inl refl
  asserted_or_kept (At.WakePrev _ _) i = inl refl
  asserted_or_kept (At.WakeStore _ _ _) i = inl refl
  asserted_or_kept At.ReadUnlockLoad i = inl refl
  asserted_or_kept (At.ReadUnlockCas _) i = inl refl
  asserted_or_kept (At.Subtract _ _) i = inl refl
  asserted_or_kept At.WriteUnlockCas i = inl refl
  asserted_or_kept (At.ReleaseCas x) i = by_agreed (At.ReleaseCas x) x i refl refl (release_agreed v x)
  asserted_or_kept At.DowngradeCas i = inl refl
  asserted_or_kept (At.DowngradeSlowCas x) i = by_agreed (At.DowngradeSlowCas x) x i refl refl (downgrade_agreed v x)

  step_changes : WithTheWord event_of m e
  step_changes =
      ⊎_elim (λ q. step_moves m e.code e.thread a w r s ok.sized q) inl
      (asserted_or_kept (place_of m e.thread) refl)

-- ── an event ──

pub event_changes : (m : Machine) → Sound m → (e : Event) → WithTheWord event_of m e
event_changes m ok e = by (event_of m e.code e.thread).reply refl
  where
    accepted : (a : Answer) (w : Option ThreadNumber) → (event_of m e.code e.thread).reply ≡ accepted_with a w
        → Happened m e.code e.thread (event_of m e.code e.thread) → WithTheWord event_of m e
    accepted a w r (begun b) = inl (begun_effect m e.code e.thread b)
    accepted a w r (stepped s) = step_changes m ok e a w r s

    by : (r : Reply) → (event_of m e.code e.thread).reply ≡ r → WithTheWord event_of m e
    by (Ok told) r = accepted told.answer told.woken r (happened m e.code e.thread told.answer told.woken r)
    by (Err x) r =
        inl (ap (λ y. (effect_of e.thread m y).lock) (refusal_changes_nothing m e.code e.thread x r)
        ∙ (refused_has_no_effect m e.thread).0)
