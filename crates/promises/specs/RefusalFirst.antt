-- What "checked in this order" says of a table: a number is given exactly where a row of that number has its
-- condition and no row before it has.
-- Assumes nothing.
use Rattle.std.specs.Prelude.{ℕ, ◌<◌, Bool, true, false, List, [], ◌∷◌, ◌↔◌, ◌≡◌, refl, T, ltb}
use Rattle.std.proofs.Common.{sym, subst, arith, ltb-true}
use Rattle.word.specs.Base.{pick}
use Rattle.word.specs.Cases.{pick_first}
use Rattle.promises.specs.Refusals.{and, Row, first_of}

-- the first row whose condition holds has number n
pub data First (n : ℕ) : List Row → Type 0 where
  here : {r : Row} {rows : List Row} → r.given_when ≡ true → r.number ≡ n → First n (r ∷ rows)
  there : {r : Row} {rows : List Row} → r.given_when ≡ false → First n rows → First n (r ∷ rows)

-- no row's condition holds
pub data NoneGiven : List Row → Type 0 where
  over : NoneGiven []
  past : {r : Row} {rows : List Row} → r.given_when ≡ false → NoneGiven rows → NoneGiven (r ∷ rows)

-- every row has a number, and 0 is none
abbrev pub numbered : List Row → Bool
numbered [] = true
numbered (r ∷ rows) = and (ltb 0 r.number) (numbered rows)

first_given : (n : ℕ) (rows : List Row) → 0 < n → first_of rows ≡ n → First n rows
first_given n [] some e = absurd (omega arith)
first_given n (r ∷ rows) some e = by_test r.given_when refl e (first_given n rows some)
  where
    by_test : (b : Bool) → r.given_when ≡ b
        → pick b r.number (first_of rows) ≡ n
        → (first_of rows ≡ n → First n rows)
        → First n (r ∷ rows)
    by_test true h e later = here h e
    by_test false h e later = there h (later e)

given_first : {n : ℕ} {rows : List Row} → First n rows → first_of rows ≡ n
given_first (here h e) = rw h e
given_first (there h f) = rw h (given_first f)

none_given : (rows : List Row) → numbered rows ≡ true → first_of rows ≡ 0 → NoneGiven rows
none_given [] ok e = over
none_given (r ∷ rows) ok e =
    let each = pick_first (ltb 0 r.number) (numbered rows) false true (λ h. subst T (sym h) tt) ok in
    by_test r.given_when refl e (ltb-true 0 r.number each.0) (none_given rows each.1)
  where
    by_test : (b : Bool) → r.given_when ≡ b
        → pick b r.number (first_of rows) ≡ 0
        → 0 < r.number
        → (first_of rows ≡ 0 → NoneGiven rows)
        → NoneGiven (r ∷ rows)
    by_test true h e some later = absurd (omega arith)
    by_test false h e some later = past h (later e)

given_none : {rows : List Row} → NoneGiven rows → first_of rows ≡ 0
given_none over = refl
given_none (past h f) = rw h (given_none f)

-- a number is given exactly where a row of that number is the first whose condition holds
pub first_exactly : (n : ℕ) (rows : List Row) → 0 < n → (first_of rows ≡ n) ↔ First n rows
first_exactly n rows some = (first_given n rows some, given_first)

-- none is given exactly where no row's condition holds
pub none_exactly : (rows : List Row) → numbered rows ≡ true → (first_of rows ≡ 0) ↔ NoneGiven rows
none_exactly rows ok = (none_given rows ok, given_none)
