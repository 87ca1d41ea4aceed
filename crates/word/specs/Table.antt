-- Document 01's rows "on both sides of each edge" for the word's rules: one table, one computed test, one proof.
-- Assumes nothing.
use Rattle.std.specs.Prelude.{ℕ, zero, suc, ◌-◌, ◌^◌, Bool, true, ◌&&◌, ◌≡◌, refl, eqb, Option, Some, None}
use Rattle.std.proofs.Math.Bool.{and-eq-true_iff}
use mathlib.Core.List.Memᴰ
use mathlib.Core.List.{List, [], ◌∷◌, Memᴰ}
use Rattle.std.proofs.Common.{⊎_elim, sym, ap₂, ◌∙◌, eqb-true}
use Rattle.word.specs.Flags.{word}
use Rattle.word.specs.Rules.{read_lock_of, write_lock_of, read_unlock_of}
use Rattle.word.specs.declared.rules.ReadUnlocked.{ReadUnlocked}
use Rattle.word.specs.declared.rules.ReadUnlocked.TheVariants.{To as UnlockTo, Contended}
use Rattle.word.specs.declared.rules.ReadUnlocked.TheVariants.{Refused as UnlockRefused}
use Rattle.word.specs.declared.flags.Word.{Word}

-- an answer in the document's words: the word that comes of it, refused, a refusal's number,
-- or left to the oldest waiter
pub data Outcome : Type 0 where
  becomes : ℕ → Outcome
  refused : Outcome
  is : ℕ → Outcome
  contended : Outcome

abbrev pub read_locked : Option Word → Outcome
read_locked (Some x) = becomes x.0
read_locked None = refused

abbrev pub write_locked : Option Word → Outcome
write_locked (Some x) = becomes x.0
write_locked None = refused

abbrev pub read_unlocked : ReadUnlocked → Outcome
read_unlocked (UnlockTo x) = becomes x.0
read_unlocked Contended = contended
read_unlocked UnlockRefused = is 8

-- a row: the rule, the word that it is given, and what the document says comes of it
pub data Row : Type 0 where
  read_lock : ℕ → Outcome → Row
  write_lock : ℕ → Outcome → Row
  read_unlock : ℕ → Outcome → Row

abbrev pub ruled : Row → Outcome
ruled (read_lock w o) = read_locked (read_lock_of (word w))
ruled (write_lock w o) = write_locked (write_lock_of (word w))
ruled (read_unlock w o) = read_unlocked (read_unlock_of (word w))

abbrev pub said : Row → Outcome
said (read_lock w o) = o
said (write_lock w o) = o
said (read_unlock w o) = o

-- an outcome as two numbers, by which outcomes are compared
abbrev kind : Outcome → ℕ
kind (becomes n) = 0
kind refused = 1
kind (is n) = 2
kind contended = 3

abbrev value : Outcome → ℕ
value (becomes n) = n
value refused = 0
value (is n) = n
value contended = 0

abbrev outcome : ℕ → ℕ → Outcome
outcome zero n = becomes n
outcome (suc zero) n = refused
outcome (suc (suc zero)) n = is n
outcome (suc (suc (suc k))) n = contended

abbrev pub row_holds : Row → Bool
row_holds r = eqb (kind (ruled r)) (kind (said r)) && eqb (value (ruled r)) (value (said r))

abbrev pub all_hold : List Row → Bool
all_hold [] = true
all_hold (r ∷ rows) = row_holds r && all_hold rows

-- the document's rows, in its order. The star of a rule's first row stands before the rule's name
abbrev pub starred : List Row
starred =
    read_lock 0 (becomes 17) ∷
    read_lock 17 (becomes 33) ∷
    read_lock 16 (becomes 33) ∷
    read_lock 1 refused ∷
    read_lock 18 refused ∷
    read_lock (2 ^ 64 - 19) (becomes (2 ^ 64 - 3)) ∷
    read_lock (2 ^ 64 - 16) refused ∷
    write_lock 0 (becomes 1) ∷
    write_lock 18 (becomes 19) ∷
    write_lock 17 refused ∷
    read_unlock 33 (becomes 17) ∷
    read_unlock 31 (becomes 22) ∷
    read_unlock 16 (is 8) ∷
    []

pub starred_rows : all_hold starred ≡ true
starred_rows = refl

outcome_back : (o : Outcome) → outcome (kind o) (value o) ≡ o
outcome_back (becomes n) = refl
outcome_back refused = refl
outcome_back (is n) = refl
outcome_back contended = refl

row_rule : (r : Row) → row_holds r ≡ true → ruled r ≡ said r
row_rule r t =
    let both = (and-eq-true_iff (eqb (kind (ruled r)) (kind (said r))) (eqb (value (ruled r)) (value (said r)))).0 t in
    sym (outcome_back (ruled r))
    ∙ ap₂ outcome (eqb-true (kind (ruled r)) (kind (said r)) both.0)
    (eqb-true (value (ruled r)) (value (said r)) both.1)
    ∙ outcome_back (said r)

rows_rule : (rows : List Row) → all_hold rows ≡ true → (r : Row) → Memᴰ r rows → ruled r ≡ said r
rows_rule [] t r m = absurd (Memᴰ.not-nil m)
rows_rule (s ∷ rows) t r m =
    let both = (and-eq-true_iff (row_holds s) (all_hold rows)).0 t in
    ⊎_elim (λ (e : r ≡ s). row_rule r (rw e both.0)) (rows_rule rows both.1 r) (Memᴰ.cases_cons m)

-- what the document says of a starred row is what the rule answers
pub starred_rule : (r : Row) → Memᴰ r starred → ruled r ≡ said r
starred_rule = rows_rule starred starred_rows
