-- Proofs on grants, releases and downgrades: refused_has_no_effect, holding_follows_effect, answered_at_the_grant,
-- holding_changes_at_the_word and holding_changes_with_the_word. In order: a step; a begin; the theorems.
-- Not here: the statements (Statements.antt); what an effect is (lock, Effect.antt); where an effect changes the word
-- (Changes.antt).
-- Assumes nothing.
use Rattle.std.specs.Prelude.{ℕ, Bool, true, false, not, ◌⊎◌, ◌≡◌, refl, eqb, Err, Ok, Option, None}
use Rattle.std.proofs.Common.{inl, inr, ⊎_elim, sym, ap, subst, ◌∙◌, eq-eqb, eqb-true}
use Rattle.std.proofs.lemmas.Bool.{eqb-false}
use Rattle.word.specs.declared.number.ThreadNumber.{ThreadNumber}
use Rattle.state.specs.Replies.{same_answer}
use Rattle.state.specs.Answer.{Reply, accepted_with}
use Rattle.state.specs.Machine.{Sized, thread_at}
use Rattle.state.specs.declared.answer.Answer.{Answer}
use Rattle.state.specs.declared.answer.Answer.TheVariants.{Begun as BegunAnswer}
use Rattle.state.specs.declared.holding.Holding.{Holding}
use Rattle.state.specs.declared.machine.Machine.{Machine}
use Rattle.state.specs.declared.machine.Outcome.{Outcome}
use Rattle.state.specs.declared.place.Place.{Place}
use Rattle.lock.specs.Effect.{LockEffect, effect_of, lock_effect, stand_of, keeps, held_after, grants, word_changed}
use Rattle.lock.specs.Event.{event_of}
use Rattle.lock.specs.Still.{idle_is, still_lock, still_queue}
use Rattle.promises.proofs.Afterwards.{obeyed, answered, own_holding, effect_is, step_moves}
use Rattle.promises.proofs.Afterwards.{begun_is, begun_holding, begun_effect}
use Rattle.promises.specs.Happened.{Begun, Stepping, Happened, begun, stepped, happened}
use Rattle.promises.proofs.OneAccess.{unless_map, changes_little}
use Rattle.promises.specs.Places.{effect_kind}
use Rattle.promises.specs.Program.{place_of}
use Rattle.promises.proofs.RefusalProofs.{refused_unchanged}
use Rattle.promises.specs.Refusals.{and}
use Rattle.promises.specs.Shared.{Unless, tries, acquires, is_yes, is_done}
use Rattle.promises.specs.Statements.{HoldingFollowsEffect, RefusedHasNoEffect, AnsweredAtTheGrant}
use Rattle.promises.specs.Statements.{HoldingChangesAtTheWord, HoldingChangesWithTheWord}
use Rattle.promises.specs.Tables.{subtracting}

-- what the answer says of the grant
abbrev Answers : Machine → ThreadNumber → Answer → Machine → Type 0
Answers m t a m' =
    (is_yes a ≡ and (tries (place_of m t)) (grants (effect_of t m m').lock))
    × (Unless (not (acquires (place_of m t))) (is_done a ≡ grants (effect_of t m m').lock))

-- what the thread holds is what the effect makes of it
abbrev Follows : Machine → ThreadNumber → Machine → Type 0
Follows m t m' = (thread_at m' t.0).holding ≡ held_after (effect_of t m m').lock (thread_at m t.0).holding

-- what an effect makes of the thread's holding
abbrev held_by : Machine → ThreadNumber → LockEffect → Holding
held_by m t x = held_after x (thread_at m t.0).holding

-- ── a step ──

module _ (m : Machine) (code : ℕ) (t : ThreadNumber) (a : Answer) (w : Option ThreadNumber)
    (e : (event_of m code t).reply ≡ accepted_with a w) (s : Stepping m code t (event_of m code t)) (z : Sized m) where
  step_holding : Follows m t (event_of m code t).machine
  step_holding =
      own_holding m code t a w e s z ∙
      ((obeyed m code t a w e s).holding ∙ sym (ap (held_by m t) (effect_is m code t a w e s z)))

  step_answers : Answers m t a (event_of m code t).machine
  step_answers =
      let is = effect_is m code t a w e s z in
      let same = answered m code t a w e s in (
        ap is_yes (sym same) ∙
            ((obeyed m code t a w e s).yes ∙ sym (ap (λ (x : LockEffect). and (tries (place_of m t)) (grants x)) is)),
        unless_map (not (acquires (place_of m t)))
            (λ h. ap is_done (sym same) ∙ (h ∙ sym (ap grants is)))
            (obeyed m code t a w e s).done,
      )

-- ── a begin ──

begun_answers : (m : Machine) (code : ℕ) (t : ThreadNumber) (a : Answer) (w : Option ThreadNumber)
    → (event_of m code t).reply ≡ accepted_with a w
    → Begun m code t (event_of m code t)
    → Answers m t a (event_of m code t).machine
unfolding tries acquires
begun_answers m code t a w e b =
    let i = idle_is (place_of m t) b.idle in
    let granted = grants (effect_of t m (event_of m code t).machine).lock in
    let r : accepted_with BegunAnswer None ≡ accepted_with a w = sym (ap (λ (o : Outcome). o.reply) b.is) ∙ e in
    let is : BegunAnswer ≡ a = same_answer r in (
      ap is_yes (sym is) ∙ ap (λ (p : Place). and (tries p) granted) (sym i),
      subst (λ (p : Place). Unless (not (acquires p)) (is_done a ≡ granted)) (sym i) tt,
    )

-- ── the theorems ──

pub refused_has_no_effect : RefusedHasNoEffect
refused_has_no_effect m t = (
  ap (λ (b : Bool). lock_effect (place_of m t) (thread_at m t.0).holding (not b) (stand_of (place_of m t)))
      (eq-eqb m.word.0 m.word.0 refl) ∙
      still_lock (place_of m t) (thread_at m t.0).holding,
  still_queue t (place_of m t),
)

pub holding_follows_effect : HoldingFollowsEffect event_of
holding_follows_effect m code t z = by (event_of m code t).reply refl
  where
    accepted : (a : Answer) (w : Option ThreadNumber) → (event_of m code t).reply ≡ accepted_with a w
        → Happened m code t (event_of m code t)
        → Follows m t (event_of m code t).machine
    accepted a w e (begun b) =
        ap (λ (x : Machine). (thread_at x t.0).holding) (begun_is m code t b) ∙
        (begun_holding m code t b t.0 ∙ sym (ap (held_by m t) (begun_effect m code t b)))
    accepted a w e (stepped s) = step_holding m code t a w e s z

    by : (r : Reply) → (event_of m code t).reply ≡ r → Follows m t (event_of m code t).machine
    by (Ok told) e = accepted told.answer told.woken e (happened m code t told.answer told.woken e)
    by (Err r) e =
        subst (Follows m t)
        (sym (refused_unchanged m code t r e))
        (sym (ap (held_by m t) (refused_has_no_effect m t).0))

pub answered_at_the_grant : AnsweredAtTheGrant event_of
answered_at_the_grant m code t a w z e = by (happened m code t a w e)
  where
    by : Happened m code t (event_of m code t) → Answers m t a (event_of m code t).machine
    by (begun b) = begun_answers m code t a w e b
    by (stepped s) = step_answers m code t a w e s z

-- the holding of the thread that moved: kept with the lock
own_kept : (m : Machine) (code : ℕ) (t : ThreadNumber)
    → Sized m
    → (effect_of t m (event_of m code t).machine).lock ≡ keeps
    → (thread_at (event_of m code t).machine t.0).holding ≡ (thread_at m t.0).holding
own_kept m code t z e = holding_follows_effect m code t z ∙ ap (held_by m t) e

-- what holds of the thread that moved holds of every thread, the others keeping their holding
by_thread : (m : Machine) (code : ℕ) (t : ThreadNumber) (a : Answer) (w : Option ThreadNumber) {X : Type 0}
    → (event_of m code t).reply ≡ accepted_with a w
    → ((thread_at (event_of m code t).machine t.0).holding ≡ (thread_at m t.0).holding) ⊎ X
    → (u : ℕ)
    → ((thread_at (event_of m code t).machine u).holding ≡ (thread_at m u).holding) ⊎ ((u ≡ t.0) × X)
by_thread m code t a w {X} e own u = decide (eqb u t.0) refl
  where
    decide : (b : Bool) → eqb u t.0 ≡ b
        → ((thread_at (event_of m code t).machine u).holding ≡ (thread_at m u).holding) ⊎ ((u ≡ t.0) × X)
    decide true q =
        let i : u ≡ t.0 = eqb-true u t.0 q in
        ⊎_elim
        (λ h. inl
        (ap (λ (n : ℕ). (thread_at (event_of m code t).machine n).holding) i ∙
        (h ∙ ap (λ (n : ℕ). (thread_at m n).holding) (sym i))))
        (λ x. inr (i, x))
        own
    decide false q = inl ((changes_little m code t a w e).holdings u (eqb-false u t.0 q))

pub holding_changes_at_the_word : HoldingChangesAtTheWord event_of
holding_changes_at_the_word m code t a w z e =
    let m' = (event_of m code t).machine in
    by_thread m code t a w e
    (⊎_elim (λ h. inl (own_kept m code t z h)) inr
    (effect_kind t (place_of m t) (thread_at m t.0).holding (word_changed m m') (stand_of (place_of m' t))))

pub holding_changes_with_the_word : HoldingChangesWithTheWord event_of
holding_changes_with_the_word m code t a w z ok e = by_thread m code t a w e (by (happened m code t a w e))
  where
    by : Happened m code t (event_of m code t)
        → ((thread_at (event_of m code t).machine t.0).holding ≡ (thread_at m t.0).holding)
        ⊎ ((word_changed m (event_of m code t).machine ≡ true) ⊎ (subtracting (place_of m t) ≡ true))
    by (begun b) = inl (own_kept m code t z (begun_effect m code t b))
    by (stepped s) = ⊎_elim (λ h. inl (own_kept m code t z h)) inr (step_moves m code t a w e s z ok)
