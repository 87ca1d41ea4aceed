-- Functions on numbers with one value replaced, and what a list's store is to its elements as a function.
-- Assumes nothing.
use Rattle.std.specs.Prelude.{◌≡◌, refl, ◌≢◌, ◌⊎◌, Bool, true, false, List, ℕ, ◌<◌, eqb, length, get_or, set}
use Rattle.std.proofs.Common.{sym, subst, inl, inr, get_or-set_same, get_or-set_other, eqb-true, eq-eqb, ne_eqb}
use Rattle.std.proofs.Math.Path.{fun_ext}
use Rattle.std.proofs.lemmas.Bool.{eqb-false}
use Rattle.word.specs.Base.{pick}

pub eq? : (i j : ℕ) → (i ≡ j) ⊎ (i ≢ j)
eq? i j = go (eqb i j) refl
  where
    go : (b : Bool) → eqb i j ≡ b → (i ≡ j) ⊎ (i ≢ j)
    go true e = inl (eqb-true i j e)
    go false e = inr (eqb-false i j e)

module _ {A : Type 0} where
  unfoldable pub upd : (ℕ → A) → ℕ → A → ℕ → A
  upd f i v j = pick (eqb j i) v (f j)

  pub upd_same : (f : ℕ → A) (i : ℕ) (v : A) → upd f i v i ≡ v
  unfolding upd
  upd_same f i v = rw (eq-eqb i i refl)

  pub upd_other : (f : ℕ → A) (i : ℕ) (v : A) (j : ℕ) → j ≢ i → upd f i v j ≡ f j
  unfolding upd
  upd_other f i v j h = rw (ne_eqb j i h)

  -- what holds of the new value at i, and of the old value at every other place, holds of the update
  pub upd_cases : (P : ℕ → A → Type 0) (f : ℕ → A) (i : ℕ) (v : A) → P i v → ((j : ℕ) → j ≢ i → P j (f j)) → (j : ℕ)
      → P j (upd f i v j)
  upd_cases P f i v new old j = go (eq? j i)
    where
      go : (j ≡ i) ⊎ (j ≢ i) → P j (upd f i v j)
      go (inl e) = subst (λ (k : ℕ). P k (upd f i v k)) (sym e) (rw (upd_same f i v) new)
      go (inr h) = rw (upd_other f i v j h) (old j h)

  -- the same value put back
  pub upd_self : (f : ℕ → A) (i : ℕ) → upd f i (f i) ≡ f
  upd_self f i = fun_ext λ j. upd_cases (λ k a. a ≡ f k) f i (f i) refl (λ k ne. refl) j

  pub upd_twice : (f : ℕ → A) (i : ℕ) (v w : A) → upd (upd f i v) i w ≡ upd f i w
  upd_twice f i v w = fun_ext λ j. go j (eq? j i)
    where
      go : (j : ℕ) → (j ≡ i) ⊎ (j ≢ i) → upd (upd f i v) i w j ≡ upd f i w j
      go j (inl e) = rw (e, upd_same (upd f i v) i w, upd_same f i w)
      go j (inr ne) = rw (upd_other (upd f i v) i w j ne, upd_other f i v j ne, upd_other f i w j ne)

  -- a list's elements as a function, and a store in it as an update
  pub at_set : (l : List A) (d : A) (i : ℕ) (v : A) → i < length l
      → (λ j. get_or (set l i v) j d) ≡ upd (λ j. get_or l j d) i v
  at_set l d i v h = fun_ext λ j. go j (eq? j i)
    where
      go : (j : ℕ) → (j ≡ i) ⊎ (j ≢ i) → get_or (set l i v) j d ≡ upd (λ j. get_or l j d) i v j
      go j (inl e) = rw (e, upd_same, get_or-set_same l i v d h)
      go j (inr ne) = rw (upd_other (λ j. get_or l j d) i v j ne, get_or-set_other l i j v d ne)

-- a reading of an update is an update of the reading, or nothing where it reads the same
module _ {A B : Type 0} (f : A → B) (h : ℕ → A) (i : ℕ) (v : A) where
  pub map_upd : ◌≡◌ {A = ℕ → B} (λ j. f (upd h i v j)) (upd (λ j. f (h j)) i (f v))
  map_upd = fun_ext λ j. go j (eq? j i)
    where
      go : (j : ℕ) → (j ≡ i) ⊎ (j ≢ i) → f (upd h i v j) ≡ upd (λ j. f (h j)) i (f v) j
      go j (inl e) = rw (e, upd_same h i v, upd_same (λ j. f (h j)) i (f v))
      go j (inr ne) = rw (upd_other h i v j ne, upd_other (λ j. f (h j)) i (f v) j ne)

  pub map_keep : f v ≡ f (h i) → ◌≡◌ {A = ℕ → B} (λ j. f (upd h i v j)) (λ j. f (h j))
  map_keep e = fun_ext λ j. upd_cases (λ k a. f a ≡ f (h k)) h i v e (λ k ne. refl) j
