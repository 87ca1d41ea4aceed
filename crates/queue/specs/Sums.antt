-- Sums over the numbers below n, and how many different numbers below n there are.
-- Assumes nothing.
use Rattle.std.specs.Prelude.{◌≡◌, refl, ◌≢◌, ◌⊎◌, ℕ, zero, suc, ◌+◌, ◌≤◌, ◌<◌, eqb}
use Rattle.std.proofs.Common.{sym, ap, ◌∙◌, inl, inr, arith, eq-eqb, ne_eqb}
use Rattle.word.specs.Base.{pick}
use Rattle.queue.specs.Updates.{upd, upd_same, upd_other, eq?}

-- the sum of f over 0 .. n - 1
abbrev pub sum : ℕ → (ℕ → ℕ) → ℕ
sum zero f = 0
sum (suc n) f = f n + sum n f

pub sum_same : (n : ℕ) (f g : ℕ → ℕ) → ((j : ℕ) → j < n → f j ≡ g j) → sum n f ≡ sum n g
sum_same zero f g h = refl
sum_same (suc n) f g h = rw (h n (omega arith), sum_same n f g (λ j l. h j (omega arith)))

-- one term changed
pub sum_one : (n : ℕ) (f g : ℕ → ℕ) (i : ℕ) → i < n → ((j : ℕ) → j ≢ i → f j ≡ g j) → sum n f + g i ≡ sum n g + f i
sum_one zero f g i l h = omega arith
sum_one (suc n) f g i l h = go (λ k. sum_one n f g i k h) (eq? i n)
  where
    go : (i < n → sum n f + g i ≡ sum n g + f i) → (i ≡ n) ⊎ (i ≢ n) → sum (suc n) f + g i ≡ sum (suc n) g + f i
    go r (inl e) = rw (e, sum_same n f g (λ j k. h j (λ q. omega arith))) (omega arith)
    go r (inr ne) = omega (arith, r (omega arith), h n (λ q. ne (sym q)))

-- one argument's value replaced
pub sum_upd : {A : Type 0} (n : ℕ) (f : A → ℕ) (h : ℕ → A) (i : ℕ) (x : A) → i < n
    → sum n (λ j. f (upd h i x j)) + f (h i) ≡ sum n (λ j. f (h j)) + f x
sum_upd n f h i x l =
    rw (upd_same h i x)
    at (sum_one n (λ j. f (upd h i x j)) (λ j. f (h j)) i l (λ j ne. ap f (upd_other h i x j ne)))

-- a term is at most the sum, and two terms are
pub sum_le : (n : ℕ) (f : ℕ → ℕ) (i : ℕ) → i < n → f i ≤ sum n f
sum_le zero f i l = omega arith
sum_le (suc n) f i l = go (λ k. sum_le n f i k) (eq? i n)
  where
    go : (i < n → f i ≤ sum n f) → (i ≡ n) ⊎ (i ≢ n) → f i ≤ sum (suc n) f
    go r (inl e) = rw e (omega arith)
    go r (inr ne) = omega (arith, r (omega arith))

pub sum_two : (n : ℕ) (f : ℕ → ℕ) (i j : ℕ) → i < j → j < n → f i + f j ≤ sum n f
sum_two zero f i j k l = omega arith
sum_two (suc n) f i j k l = go (λ q. sum_two n f i j k q) (eq? j n)
  where
    go : (j < n → f i + f j ≤ sum n f) → (j ≡ n) ⊎ (j ≢ n) → f i + f j ≤ sum (suc n) f
    go r (inl e) = rw e (omega (arith, sum_le n f i (omega arith)))
    go r (inr ne) = omega (arith, r (omega arith))

pub sum_zero : (n : ℕ) (f : ℕ → ℕ) → ((j : ℕ) → j < n → f j ≡ 0) → sum n f ≡ 0
sum_zero zero f h = refl
sum_zero (suc n) f h = omega (arith, h n (omega arith), sum_zero n f (λ j l. h j (omega arith)))

-- a sum that is not 0 has such a term
pub sum_some : (n : ℕ) (f : ℕ → ℕ) → 0 < sum n f → (i : ℕ) × (1 ≤ f i)
sum_some zero f l = absurd (omega arith)
sum_some (suc n) f l = go (λ k. sum_some n f k) (eq? (f n) 0)
  where
    go : (0 < sum n f → (i : ℕ) × (1 ≤ f i)) → (f n ≡ 0) ⊎ (f n ≢ 0) → (i : ℕ) × (1 ≤ f i)
    go r (inl e) = r (omega arith)
    go r (inr ne) = (n, omega arith)

-- m different numbers below n are at most n
pub pigeon : (n m : ℕ) (f : ℕ → ℕ) → ((i : ℕ) → i < m → f i < n) → ((i j : ℕ) → i < m → j < m → i ≢ j → f i ≢ f j)
    → m ≤ n
pigeon n zero f r ne = omega arith
pigeon zero (suc m) f r ne = absurd (out (r 0 (omega arith)))
  where
    out : f 0 < 0 → ⊥
    out h = omega arith
pigeon (suc n) (suc m) f r ne = omega (arith, pigeon n m h small differ)
  where
    h : ℕ → ℕ
    h i = pick (eqb (f i) n) (f m) (f i)

    at : (i : ℕ) → f i ≡ n → h i ≡ f m
    at i e = rw (eq-eqb (f i) n e)

    off : (i : ℕ) → f i ≢ n → h i ≡ f i
    off i z = rw (ne_eqb (f i) n z)

    small : (i : ℕ) → i < m → h i < n
    small i l = go (eq? (f i) n)
      where
        go : (f i ≡ n) ⊎ (f i ≢ n) → h i < n
        go (inl e) =
            rw (at i e) (omega (arith, r m (omega arith), ne m i (omega arith) (omega arith) (λ z. omega arith)))
        go (inr z) = rw (off i z) (omega (arith, r i (omega arith)))

    differ : (i j : ℕ) → i < m → j < m → i ≢ j → h i ≢ h j
    differ i j a b ij e = go (eq? (f i) n) (eq? (f j) n)
      where
        go : (f i ≡ n) ⊎ (f i ≢ n) → (f j ≡ n) ⊎ (f j ≢ n) → ⊥
        go (inl x) (inl y) = ne i j (omega arith) (omega arith) ij (x ∙ sym y)
        go (inl x) (inr y) = ne m j (omega arith) (omega arith) (λ z. omega arith) (sym (at i x) ∙ e ∙ off j y)
        go (inr x) (inl y) = ne i m (omega arith) (omega arith) (λ z. omega arith) (sym (off i x) ∙ e ∙ at j y)
        go (inr x) (inr y) = ne i j (omega arith) (omega arith) ij (sym (off i x) ∙ e ∙ off j y)
