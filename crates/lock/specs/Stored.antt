-- How a machine reads after a change is stored and a thread woken: word, count, each node,
-- each thread's place, holding and token.
-- Assumes nothing.
use Rattle.std.specs.Prelude.{ℕ, zero, suc, List, [], ◌∷◌, ◌⊎◌, ◌≡◌, refl, ltb, length, get_or, set, Option, Some, None}
use Rattle.std.proofs.Common.{inl, inr, ⊎_elim, sym, ap, ◌∙◌, length-set}
use Rattle.word.specs.Cases.{pick_both}
use Rattle.word.specs.Number.{thread}
use Rattle.word.specs.declared.number.ThreadNumber.{ThreadNumber}
use Rattle.state.specs.Machine.{thread_limit, blank_thread, thread_at}
use Rattle.state.specs.declared.machine.Machine.{Machine}
use Rattle.state.specs.declared.machine.Thread.{Thread}
use Rattle.lock.specs.Landed.{tokened_of, token_set, woken_of}

-- a list after a store reads at u as what was stored, or as before
pub get_set : {A : Type 0} (l : List A) (i u : ℕ) (x d : A)
    → ((u ≡ i) × (get_or (set l i x) u d ≡ x)) ⊎ (get_or (set l i x) u d ≡ get_or l u d)
get_set [] i u x d = inr refl
get_set (y ∷ l) zero zero x d = inl (refl, refl)
get_set (y ∷ l) zero (suc u) x d = inr refl
get_set (y ∷ l) (suc i) zero x d = inr refl
get_set (y ∷ l) (suc i) (suc u) x d = ⊎_elim (λ h. inl (ap suc h.0, h.1)) inr (get_set l i u x d)

-- waking changes neither count, word nor nodes
pub woken_count : (m : Machine) (w : Option ThreadNumber) → (woken_of m w).count ≡ m.count
woken_count m None = refl
woken_count m (Some t) =
    pick_both (λ (x : Machine). x.count ≡ m.count) (ltb t.0 thread_limit) _ m (λ _. refl) (λ _. refl)

pub woken_word : (m : Machine) (w : Option ThreadNumber) → (woken_of m w).word ≡ m.word
woken_word m None = refl
woken_word m (Some t) =
    pick_both (λ (x : Machine). x.word ≡ m.word) (ltb t.0 thread_limit) _ m (λ _. refl) (λ _. refl)

pub woken_nodes : (m : Machine) (w : Option ThreadNumber) → (woken_of m w).nodes ≡ m.nodes
woken_nodes m None = refl
woken_nodes m (Some t) =
    pick_both (λ (x : Machine). x.nodes ≡ m.nodes) (ltb t.0 thread_limit) _ m (λ _. refl) (λ _. refl)

-- a thread's record after a wake: with its token set if it is the one woken, else as before
pub data Woken (m : Machine) (w : Option ThreadNumber) (u : ℕ) : Type 0 where
  as_before : thread_at (woken_of m w) u ≡ thread_at m u → Woken m w u
  with_token_lem : w ≡ Some (thread u) → thread_at (woken_of m w) u ≡ tokened_of (thread_at m u) → Woken m w u

-- reading a thread of a machine x after thread t's token was set in m
abbrev Tokened : Machine → ThreadNumber → ℕ → Machine → Type 0
Tokened m t u x = ((u ≡ t.0) × (thread_at x u ≡ tokened_of (thread_at m u))) ⊎ (thread_at x u ≡ thread_at m u)

abbrev with_threads : Machine → List Thread → Machine
with_threads m ts = record { count = m.count; word = m.word; nodes = m.nodes; threads = ts }

token_set_lem : (m : Machine) (t : ThreadNumber) (u : ℕ) → Tokened m t u (token_set m t)
token_set_lem m t u =
    pick_both (Tokened m t u)
    (ltb t.0 thread_limit)
    (with_threads m (set m.threads t.0 (tokened_of (thread_at m t.0))))
    m
    (λ _. ⊎_elim (λ h. inl (h.0, h.1 ∙ ap (λ (z : ℕ). tokened_of (thread_at m z)) (sym h.0))) inr
    (get_set m.threads t.0 u (tokened_of (thread_at m t.0)) blank_thread))
    (λ _. inr refl)

pub woken_thread : (m : Machine) (w : Option ThreadNumber) (u : ℕ) → Woken m w u
woken_thread m None u = as_before refl
woken_thread m (Some t) u =
    ⊎_elim (λ h. with_token_lem (ap (λ (z : ℕ). Some (thread z)) (sym h.0)) h.1) as_before (token_set_lem m t u)

pub woken_place : (m : Machine) (w : Option ThreadNumber) (u : ℕ)
    → (thread_at (woken_of m w) u).place ≡ (thread_at m u).place
woken_place m w u = place_of (woken_thread m w u)
  where
    place_of : Woken m w u → (thread_at (woken_of m w) u).place ≡ (thread_at m u).place
    place_of (as_before e) = ap (λ (x : Thread). x.place) e
    place_of (with_token_lem s e) = ap (λ (x : Thread). x.place) e

pub woken_holding : (m : Machine) (w : Option ThreadNumber) (u : ℕ)
    → (thread_at (woken_of m w) u).holding ≡ (thread_at m u).holding
woken_holding m w u = holding_of_lem (woken_thread m w u)
  where
    holding_of_lem : Woken m w u → (thread_at (woken_of m w) u).holding ≡ (thread_at m u).holding
    holding_of_lem (as_before e) = ap (λ (x : Thread). x.holding) e
    holding_of_lem (with_token_lem s e) = ap (λ (x : Thread). x.holding) e

-- waking keeps the arrays' lengths
pub woken_long : (m : Machine) (w : Option ThreadNumber) → length (woken_of m w).threads ≡ length m.threads
woken_long m None = refl
woken_long m (Some t) =
    pick_both (λ (x : Machine). length x.threads ≡ length m.threads)
    (ltb t.0 thread_limit)
    (with_threads m (set m.threads t.0 (tokened_of (thread_at m t.0))))
    m
    (λ _. length-set m.threads t.0 (tokened_of (thread_at m t.0)))
    (λ _. refl)
