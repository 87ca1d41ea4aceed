-- A fresh machine has the invariant, and so has every machine that a run leads to.
-- In this order: the invariant; the number of threads; refusal 8.
-- Assumes nothing.
use Rattle.std.specs.Prelude.{ℕ, ◌≤◌, true, false, List, [], ◌∷◌, ◌≢◌, ◌≡◌, refl, ltb, leb, Err, Ok}
use Rattle.std.proofs.Common.{sym, ap, ◌∙◌, subst, arith, le-ltb, le-leb}
use Rattle.std.proofs.lemmas.List.{length-replicate}
use Rattle.word.specs.Cases.{pick_both, pick_no}
use Rattle.word.specs.declared.number.ThreadNumber.{ThreadNumber}
use Rattle.state.specs.Answer.{refusal_number, Reply}
use Rattle.state.specs.Machine.{thread_limit, good_count, blank_thread, made_of, fresh_of}
use Rattle.state.specs.Node.{blank_node}
use Rattle.state.specs.declared.answer.Refusal.TheVariants.{UnknownCode, NoThread, InsideCall, WrongHolding}
use Rattle.state.specs.declared.answer.Refusal.TheVariants.{NotInCall, NoToken, CannotFail, Damaged}
use Rattle.state.specs.declared.machine.Fresh.{Fresh}
use Rattle.state.specs.declared.machine.Machine.{Machine}
use Rattle.lock.specs.Event.{event_of}
use Rattle.promises.specs.Refusals.{number_given}
use Rattle.promises.proofs.Theorems.{changes_little, refusal_changes_nothing}
use Rattle.queue.specs.Tests.{never}
use Rattle.queue.specs.Invariant as Q
use Rattle.invariant.specs.Invariant.{Inv}
use Rattle.invariant.specs.Fresh.{fresh_lock, inv_fresh}
use Rattle.invariant.specs.Bridge.{lock_of, lock_fresh}
use Rattle.invariant.proofs.Events.{Sound, event_safe}
use Rattle.safety.specs.Statements.{Event, after, ran_by, ran, reached}

-- a machine to start from: nobody waits and nothing is held
pub record Start (m : Machine) : Type 0 where
  pub ok : Sound m
  pub none : ok.ghost ≡ Q.ghost0
  pub lock : lock_of m ≡ fresh_lock

made : (n : ℕ) → good_count n ≡ true → Start (made_of n)
made n good = record {
  ok = record {
    good = good;
    sized = record {
      nodes = length-replicate thread_limit blank_node;
      threads = length-replicate thread_limit blank_thread;
    };
    ghost = Q.ghost0;
    inv = subst (λ s. Inv n s Q.ghost0) (sym (lock_fresh n)) (inv_fresh n);
  };
  none = refl;
  lock = lock_fresh n;
}

pub start : (n : ℕ) → Start (fresh_of n).machine
start n = pick_both (λ (f : Fresh). Start f.machine) (good_count n) _ _ (λ e. made n e) (λ _. made 1 refl)

pub ran_ok : (m : Machine) → Sound m → (es : List Event) → Sound (ran m es)
unfolding ran_by
ran_ok m ok [] = ok
ran_ok m ok (e ∷ es) = ran_ok (after m e) (event_safe m ok e.thread e.code).ok es

pub reached_ok : (n : ℕ) (es : List Event) → Sound (reached n es)
reached_ok n es = ran_ok (fresh_of n).machine (start n).ok es

-- ── the number of threads ──

pub same_count : (m : Machine) (e : Event) → (after m e).count ≡ m.count
same_count m e = by (event_of m e.code e.thread).reply refl
  where
    by : (r : Reply) → (event_of m e.code e.thread).reply ≡ r → (after m e).count ≡ m.count
    by (Ok told) f = (changes_little m e.code e.thread told.answer told.woken f).count
    by (Err r) f = ap (λ x. x.count) (refusal_changes_nothing m e.code e.thread r f)

ran_count : (m : Machine) (es : List Event) → (ran m es).count ≡ m.count
unfolding ran_by
ran_count m [] = refl
ran_count m (e ∷ es) = ran_count (after m e) es ∙ same_count m e

pub reached_count : (n : ℕ) (es : List Event) → 1 ≤ n → n ≤ thread_limit → (reached n es).count ≡ n
reached_count n es a b =
    ran_count (fresh_of n).machine es
    ∙ pick_both (λ (f : Fresh). f.machine.count ≡ n) (good_count n) _ _ (λ _. refl) (λ e. never e good)
  where
    good : good_count n ≡ true
    good = sym (pick_no (ltb n 1) true false (leb n thread_limit) (le-ltb n 1 a) (sym (le-leb n thread_limit b)))

-- ── refusal 8 ──

eight_damaged : (r : Reply) → number_given r ≡ refusal_number Damaged → r ≡ Err Damaged
eight_damaged (Ok told) e = absurd (omega (arith, e))
eight_damaged (Err UnknownCode) e = absurd (omega (arith, e))
eight_damaged (Err NoThread) e = absurd (omega (arith, e))
eight_damaged (Err InsideCall) e = absurd (omega (arith, e))
eight_damaged (Err WrongHolding) e = absurd (omega (arith, e))
eight_damaged (Err NotInCall) e = absurd (omega (arith, e))
eight_damaged (Err NoToken) e = absurd (omega (arith, e))
eight_damaged (Err CannotFail) e = absurd (omega (arith, e))
eight_damaged (Err Damaged) e = refl

pub event_not_eight : (m : Machine) → Sound m → (code : ℕ) (t : ThreadNumber)
    → number_given (event_of m code t).reply ≢ refusal_number Damaged
event_not_eight m ok code t e = (event_safe m ok t code).not_eight (eight_damaged (event_of m code t).reply e)
