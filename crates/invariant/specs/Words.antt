-- The words that the lock writes, as holders read them: 16 r + 1 for r readers, and what read_lock and read_unlock
-- make of one.
-- Assumes nothing.
use Rattle.std.specs.Prelude.{ℕ, ◌+◌, ◌-◌, ◌*◌, ◌/◌, ◌%◌, ◌≤◌, true, false, ◌≡◌, refl, eqb}
use Rattle.std.proofs.Common.{ap, ◌∙◌, arith, eqb-true, eq-eqb, ne_eqb}
use Rattle.std.proofs.lemmas.Bool.{eqb-false}
use Rattle.word.specs.Cases.{pick_both, pick_second}
use Rattle.word.specs.Flags.{word, LOCKED, QUEUED, QUEUE_LOCKED, DOWNGRADED, SINGLE, locked, queued, queue_locked}
use Rattle.word.specs.Flags.{downgraded, set_locked}
use Rattle.word.specs.Laws.{ReadGranted}
use Rattle.word.specs.Rules.{fewer}
use Rattle.word.specs.declared.flags.Word.{Word}
use Rattle.state.specs.View.{agrees_of}
use Rattle.state.specs.declared.view.View.{View}
use Rattle.queue.specs.Tests.{never}
use Rattle.invariant.specs.Invariant.{Unqueued, empty, written, read, Count}

-- words of one number are one
pub word_is : (x : Word) (k : ℕ) → x.0 ≡ k → x ≡ word k
word_is x k e = λ j. record { 0 = e j }

-- a compare that agrees has seen the word
pub agreed : (v : View) (seen : Word) → agrees_of v seen ≡ true → v.word ≡ seen
agreed v seen e =
    word_is v.word seen.0
    (eqb-true v.word.0 seen.0
    (pick_second v.fails false (eqb v.word.0 seen.0) true (λ z. never refl z) e).1)

-- a word without a queue
pub record Plain (x : Word) : Type 0 where
  pub unqueued : queued x ≡ false
  pub unowned : queue_locked x ≡ false
  pub plain : downgraded x ≡ false

pub plain_free : Plain (word 0)
plain_free = record { unqueued = refl; unowned = refl; plain = refl }

-- of k readers, or with k = 0 the writer's
pub record Readers (x : Word) : Type 0 where
  pub is : Plain x
  pub locked : locked x ≡ true

pub readers_word : (x : Word) (k : ℕ) → x.0 ≡ SINGLE * k + LOCKED → Readers x
readers_word x k e =
    record {
      is = record {
        unqueued = ne_eqb (x.0 / QUEUED % 2) 1 (λ z. omega arith);
        unowned = ne_eqb (x.0 / QUEUE_LOCKED % 2) 1 (λ z. omega arith);
        plain = ne_eqb (x.0 / DOWNGRADED % 2) 1 (λ z. omega arith);
      };
      locked = eq-eqb (x.0 / LOCKED % 2) 1 (omega arith);
    }

-- LOCKED set on 16 k, which it is not set on, and on 16 k + 1
set_locked_lem : (x : Word) (k : ℕ) → x.0 ≡ SINGLE * k → (set_locked x).0 ≡ SINGLE * k + LOCKED
set_locked_lem x k e = pick_both (λ y. y.0 ≡ SINGLE * k + LOCKED) (locked x) x (word (x.0 + LOCKED))
    (λ h. absurd (odd (eqb-true (x.0 / LOCKED % 2) 1 h))) (λ h. omega arith)
  where
    odd : x.0 / LOCKED % 2 ≡ 1 → ⊥
    odd z = omega arith

still_locked : (x : Word) (k : ℕ) → x.0 ≡ SINGLE * k + LOCKED → (set_locked x).0 ≡ SINGLE * k + LOCKED
still_locked x k e = pick_both (λ y. y.0 ≡ SINGLE * k + LOCKED) (locked x) x (word (x.0 + LOCKED)) (λ h. e)
    (λ h. never h (readers_word x k e).locked)

-- one reader more
pub granted_word : (w x : Word) (r v l : ℕ) → ReadGranted w x → Unqueued w r v l
    → (x.0 ≡ SINGLE * (r + 1) + LOCKED) × (v ≡ 0) × (l ≡ 0)
granted_word w x r v l d (empty z h) =
    let e = set_locked_lem (word (w.0 + SINGLE)) 1 (omega arith) in
    (ap (λ y. y.0) d.to ∙ omega arith, omega arith, omega arith)
granted_word w x r v l d (written z h) = absurd (d.unwritten z)
granted_word w x r v l d (read z some h) =
    (ap (λ y. y.0) d.to ∙ still_locked (word (w.0 + SINGLE)) (r + 1) (omega arith), h.writes, h.leaves)

-- one reader fewer
pub fewer_word : (w : Word) (r : ℕ) → w.0 ≡ SINGLE * (r + 1) + LOCKED
    → ((r ≡ 0) → (fewer w).0 ≡ 0) × (1 ≤ r → (fewer w).0 ≡ SINGLE * r + LOCKED)
fewer_word w r e = (
  λ z. pick_both (λ y. y.0 ≡ 0) (eqb (w.0 - (SINGLE + LOCKED)) 0) (word 0)
      (set_locked (word (w.0 - (SINGLE + LOCKED)))) (λ h. refl)
      (λ h. absurd (eqb-false (w.0 - (SINGLE + LOCKED)) 0 h (omega arith))),
  λ some. pick_both (λ y. y.0 ≡ SINGLE * r + LOCKED) (eqb (w.0 - (SINGLE + LOCKED)) 0) (word 0)
      (set_locked (word (w.0 - (SINGLE + LOCKED))))
      (λ h. absurd (zero_not (eqb-true (w.0 - (SINGLE + LOCKED)) 0 h) some))
      (λ h. set_locked_lem (word (w.0 - (SINGLE + LOCKED))) r (omega arith)),
)
  where
    zero_not : w.0 - (SINGLE + LOCKED) ≡ 0 → 1 ≤ r → ⊥
    zero_not z some = omega arith

-- holders against a word without a queue
pub counts_bare : {x : Word} {r w l : ℕ} → Plain x → Unqueued x r w l → Count x r w l
counts_bare p h =
    record {
      bare = λ _. h;
      unlocked = λ e. never p.unqueued e;
      handed = λ e. never p.unqueued e;
      held = λ e. never p.unqueued e;
    }
