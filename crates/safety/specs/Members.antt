-- Who is in an interval of tickets, as a list: membership, no repeats, the last of it,
-- the first so many of a longer one.
-- Assumes nothing.
use Rattle.std.specs.Prelude.{ℕ, zero, suc, ◌+◌, ◌-◌, ◌≤◌, ◌<◌, ◌≢◌, ◌⊎◌, ◌≡◌, refl, take, length}
use mathlib.Core.List.Memᴰ
use mathlib.Core.List.{List, ◌∷◌, Memᴰ}
use Rattle.std.proofs.Common.{inl, inr, sym, ap, ◌∙◌, add-suc, zero-add, arith}
use Rattle.word.specs.Number.{node}
use Rattle.word.specs.declared.number.NodeNumber.{NodeNumber}
use Rattle.queue.specs.Updates.{eq?}
use Rattle.listing.specs.ReaderCount.{oldest}
use Rattle.safety.specs.Intervals.{up, down}
use Rattle.safety.specs.Statements.{NoRepeats}

-- a member is a ticket's node
pub record Among (log : ℕ → ℕ) (a k : ℕ) (x : NodeNumber) : Type 0 where
  pub ticket : ℕ
  pub low : a ≤ ticket
  pub high : ticket < a + k
  pub node : log ticket ≡ x.0

-- a node in front of others is not the last
oldest_more : (x y : NodeNumber) (l : List NodeNumber) → oldest (x ∷ y ∷ l) ≡ oldest (y ∷ l)
oldest_more x y l =
    let a : suc (suc (length l)) - 1 ≡ suc (length l) = omega arith in
    let b : suc (length l) - 1 ≡ length l = omega arith in
    rw (a, b)

module _ (log : ℕ → ℕ) where
  pub in_down : (a k : ℕ) (x : NodeNumber) → Memᴰ x (down log a k) → Among log a k x
  in_down a zero x i = absurd (Memᴰ.not-nil i)
  in_down a (suc k) x i = by (in_down a k x) (Memᴰ.cases_cons i)
    where
      by : (Memᴰ x (down log a k) → Among log a k x)
          → (x ≡ node (log (a + k))) ⊎ Memᴰ x (down log a k)
          → Among log a (suc k) x
      by r (inl e) = record { ticket = a + k; low = omega arith; high = omega arith; node = ap (λ z. z.0) (sym e) }
      by r (inr i) =
          let y : Among log a k x = r i in
          record { ticket = y.ticket; low = y.low; high = omega (arith, y.high); node = y.node }

  pub in_up : (a k : ℕ) (x : NodeNumber) → Memᴰ x (up log a k) → Among log a k x
  in_up a zero x i = absurd (Memᴰ.not-nil i)
  in_up a (suc k) x i = by (in_up (suc a) k x) (Memᴰ.cases_cons i)
    where
      by : (Memᴰ x (up log (suc a) k) → Among log (suc a) k x)
          → (x ≡ node (log a)) ⊎ Memᴰ x (up log (suc a) k)
          → Among log a (suc k) x
      by r (inl e) = record { ticket = a; low = omega arith; high = omega arith; node = ap (λ z. z.0) (sym e) }
      by r (inr i) =
          let y : Among log (suc a) k x = r i in
          record { ticket = y.ticket; low = omega (arith, y.low); high = omega (arith, y.high); node = y.node }

  pub down_in : (a k i : ℕ) (x : NodeNumber) → a ≤ i → i < a + k → x ≡ node (log i) → Memᴰ x (down log a k)
  down_in a zero i x l h e = absurd (omega arith)
  down_in a (suc k) i x l h e = by (down_in a k i x) (eq? i (a + k))
    where
      by : (a ≤ i → i < a + k → x ≡ node (log i) → Memᴰ x (down log a k))
          → (i ≡ a + k) ⊎ (i ≢ a + k)
          → Memᴰ x (down log a (suc k))
      by r (inl z) = Memᴰ.head (e ∙ ap (λ j. node (log j)) z)
      by r (inr ne) = Memᴰ.tail (r l (omega arith) e)

  pub up_in : (a k i : ℕ) (x : NodeNumber) → a ≤ i → i < a + k → x ≡ node (log i) → Memᴰ x (up log a k)
  up_in a zero i x l h e = absurd (omega arith)
  up_in a (suc k) i x l h e = by (up_in (suc a) k i x) (eq? i a)
    where
      by : (suc a ≤ i → i < suc a + k → x ≡ node (log i) → Memᴰ x (up log (suc a) k))
          → (i ≡ a) ⊎ (i ≢ a)
          → Memᴰ x (up log a (suc k))
      by r (inl z) = Memᴰ.head (e ∙ ap (λ j. node (log j)) z)
      by r (inr ne) = Memᴰ.tail (r (omega arith) (omega arith) e)

  pub no_repeats : (a k : ℕ)
      → ((i j : ℕ) → a ≤ i → i < a + k → a ≤ j → j < a + k → i ≢ j → log i ≢ log j)
      → NoRepeats (down log a k)
  no_repeats a zero apart = tt
  no_repeats a (suc k) apart = (
    λ i. let y : Among log a k (node (log (a + k))) = in_down a k (node (log (a + k))) i in
        apart y.ticket (a + k) y.low (omega (arith, y.high)) (omega arith) (omega arith)
        (λ z. omega (arith, y.high)) y.node,
    no_repeats a k (λ i j x y z w. apart i j x (omega arith) z (omega arith)),
  )

  -- the last is the oldest
  pub oldest_down : (a k : ℕ) → oldest (down log a (suc k)) ≡ node (log a)
  oldest_down a zero = let e : a + 0 ≡ a = omega arith in ap (λ i. node (log i)) e
  oldest_down a (suc k) = oldest_more (node (log (a + suc k))) (node (log (a + k))) (down log a k) ∙ oldest_down a k

  -- the newest k of all
  pub take_down : (a k : ℕ) → take k (down log 0 (a + k)) ≡ down log a k
  take_down a zero = refl
  take_down a (suc k) =
      rw (add-suc a k)
      (ap (λ i. node (log i) ∷ take k (down log 0 (a + k))) (zero-add (a + k))
      ∙ ap (λ l. node (log (a + k)) ∷ l) (take_down a k))
