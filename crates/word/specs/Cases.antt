-- What closes a promise that goes by tests: `search cases`, for the proofs of this crate and of those above it.
--     pick_yes, pick_no         a choice whose test is known
--     told                      a test whose outcome comes through a call's answer
--     pick_both                 what holds of both sides of a choice, each under its test, holds of the choice
--     pick_first, pick_second   a choice that came out as its other side cannot
-- Assumes nothing.
use Rattle.std.specs.Prelude.{Bool, true, false, ◌≡◌, refl}
use Rattle.std.proofs.Common.{sym, subst, ◌∙◌, lt-ltb, le-ltb, le-leb, eq-eqb, ne_eqb}
use Rattle.std.proofs.lemmas.Bool.{lt-leb}
use Rattle.word.specs.Base.{pick}

pub pick_yes : {A : Type 0} (b : Bool) (r x y : A) → b ≡ true → r ≡ x → r ≡ pick b x y
pick_yes true r x y e q = q
pick_yes false r x y e q = absurd (subst (λ (t : Bool). lib.Dec.T t) (sym e) tt)

pub pick_no : {A : Type 0} (b : Bool) (r x y : A) → b ≡ false → r ≡ y → r ≡ pick b x y
pick_no true r x y e q = absurd (subst (λ (t : Bool). lib.Dec.T t) e tt)
pick_no false r x y e q = q

pub pick_both : {A : Type 0} (P : A → Type 0) (b : Bool) (x y : A)
    → (b ≡ true → P x)
    → (b ≡ false → P y)
    → P (pick b x y)
pick_both P true x y p q = p refl
pick_both P false x y p q = q refl

pub pick_first : {A : Type 0} (b : Bool) (x y r : A) → (y ≡ r → ⊥) → pick b x y ≡ r → (b ≡ true) × (x ≡ r)
pick_first true x y r never e = (refl, e)
pick_first false x y r never e = absurd (never e)

pub pick_second : {A : Type 0} (b : Bool) (x y r : A) → (x ≡ r → ⊥) → pick b x y ≡ r → (b ≡ false) × (y ≡ r)
pick_second true x y r never e = absurd (never e)
pick_second false x y r never e = (refl, e)

pub told : (r t v : Bool) → r ≡ t → r ≡ v → t ≡ v
told r t v p q = sym p ∙ q

pub ruleset cases = (refl, told, pick_yes, pick_no, lt-ltb, le-ltb, le-leb, lt-leb, eq-eqb, ne_eqb)
