-- A contract read as what it allows: the generated module of each function (`Reads`) has it as `Post`, a claim over the
-- lifetimes, the arguments at entry, the result and the arguments at exit.
--     ◌&◌, slice, lent             arguments as a contract takes them
--     Allows, AllowsLent           what it allows of a result, where every argument stays as it was
--     Determined, DeterminedBytes  any two results that are allowed are equal; of a slice, their bytes
--     determined, determined_bytes what shows it of a contract that is an equation. A weaker contract is refused
--     clash, apart_by, apart_in    what shows that a wrong answer is not allowed
-- A function that stores to a slice is lent one: what its contract allows stands where it is used (Print.antt).
-- Assumes nothing.
use Rattle.std.specs.Prelude.{ℕ, false, ◌≡◌, List, eqb}
use Rattle.std.proofs.Common.{sym, ap, ◌∙◌, arith}
use Rattle.std.specs.Borrow.{Bor, MutBor}
use Rattle.std.proofs.lemmas.Bool.{eqb-false}

-- a function's arguments, one after the other, closed by tt
infixr 20 ◌&◌
abbrev pub ◌&◌ : {A B : Type 0} → A → B → A × B
◌&◌ a b = (a, b)

-- a slice of those bytes, wherever it lies
abbrev pub slice : List ℕ → Bor (List ℕ)
slice bytes = record { ref_ptr = (0, 0); now = bytes }

-- the same, lent to be stored to
abbrev pub lent : List ℕ → MutBor (List ℕ)
lent bytes = record { ref_ptr = (0, 0); ghost_name = 0; now = bytes }

abbrev pub Allows : {A R : Type 0} → (Unit {0} → A → R → A → Type 0) → A → R → Type 0
Allows post a r = post tt a r a

-- the same where arguments, or the result, are lent: K is what there is of lifetimes
abbrev pub AllowsLent : {K A R : Type 0} → (K → A → R → A → Type 0) → K → A → R → Type 0
AllowsLent post κs a r = post κs a r a

abbrev pub Determined : {R : Type 0} → (R → Type 0) → Type 0
Determined {R} allowed = (r s : R) → allowed r → allowed s → r ≡ s

abbrev pub DeterminedBytes : (Bor (List ℕ) → Type 0) → Type 0
DeterminedBytes allowed = (r s : Bor (List ℕ)) → allowed r → allowed s → r.now ≡ s.now

pub determined : {R : Type 0} {x : R} (r s : R) → r ≡ x → s ≡ x → r ≡ s
determined r s p q = p ∙ sym q

pub determined_bytes : {x : List ℕ} (r s : Bor (List ℕ)) → r.now ≡ x → s.now ≡ x → r.now ≡ s.now
determined_bytes r s = determined r.now s.now

pub clash : ◌≡◌ {A = ℕ} 0 1 → ⊥
clash e = omega arith

-- two results are not equal if they differ in a number
pub apart_by : {R : Type 0} {r x : R} (look : R → ℕ) → eqb (look r) (look x) ≡ false → r ≡ x → ⊥
apart_by {r = r} {x = x} look t e = eqb-false (look r) (look x) t (ap look e)

-- nor if they differ in a part
pub apart_in : {R X : Type 0} {r x : R} (look : R → X) → (look r ≡ look x → ⊥) → r ≡ x → ⊥
apart_in look differ e = differ (ap look e)
