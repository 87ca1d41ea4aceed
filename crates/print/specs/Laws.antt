-- Laws of a line and of a number's digits: text after text; a line's text is what was put in it, where it fits.
-- Assumes nothing.
use Rattle.std.specs.Prelude.{ℕ, zero, suc, ◌+◌, ◌-◌, ◌/◌, ◌%◌, ◌≤◌, ◌<◌, ◌≡◌, refl, List, [], ◌∷◌, ◌++◌, length, take}
use Rattle.std.specs.Prelude.{get_or}
use Rattle.std.proofs.Common.{sym, ap, ◌∙◌, suc-ne-zero, arith, lt-ltb, le-ltb, take-suc}
use Rattle.std.proofs.lemmas.List.Sums.{fold-append}
use Rattle.word.specs.Cases.{pick_yes, pick_no}
use Rattle.print.specs.Text.{decimal_by}
use Rattle.print.specs.Line.{put_of, put_all}
use Rattle.print.specs.declared.line.Line.{Line}

-- ── text after text ──

pub put_both : (l : Line) (xs ys : List ℕ) → put_all (put_all l xs) ys ≡ put_all l (xs ++ ys)
unfolding put_all
put_both l xs ys = sym (fold-append put_of l xs ys)

pub put_none : (l : Line) → put_all l [] ≡ l
unfolding put_all
put_none l = refl

pub put_one : (l : Line) (b : ℕ) → put_of l b ≡ put_all l (b ∷ [])
unfolding put_all
put_one l b = refl

-- text and then one byte
pub put_end : (l : Line) (xs : List ℕ) (b : ℕ) → put_of (put_all l xs) b ≡ put_all l (xs ++ (b ∷ []))
unfolding put_all
put_end l xs b = put_both l xs (b ∷ [])

-- one byte more of what is read in order
pub put_next : (l : Line) (s : List ℕ) (i : ℕ)
    → i < length s
    → put_of (put_all l (take i s)) (get_or s i 0) ≡ put_all l (take (i + 1) s)
put_next l s i h =
    let e : suc i ≡ i + 1 = omega arith in
    put_end l (take i s) (get_or s i 0) ∙ ap (put_all l) (sym (take-suc s i 0 h) ∙ ap (λ (k : ℕ). take k s) e)

-- what a line's text is made of: for the functions that put one text after another
pub ruleset lines = (put_both, put_none)

-- ── the digits of a number ──

pub digits_none : (places n : ℕ) → places ≡ 0 → [] ≡ decimal_by places n
unfolding decimal_by
digits_none zero n e = refl
digits_none (suc places) n e = absurd (suc-ne-zero places e)

pub digits_one : (places n : ℕ) → 0 < places → n < 10 → (48 + n) ∷ [] ≡ decimal_by places n
unfolding decimal_by
digits_one zero n h k = absurd (omega (arith, h))
digits_one (suc places) n h k = pick_yes _ _ _ _ (lt-ltb n 10 k) refl

pub digits_more : (places n : ℕ)
    → 0 < places
    → 10 ≤ n
    → decimal_by (places - 1) (n / 10) ++ ((48 + n % 10) ∷ []) ≡ decimal_by places n
unfolding decimal_by
digits_more zero n h k = absurd (omega (arith, h))
digits_more (suc places) n h k =
    let e : suc places - 1 ≡ places = omega arith in
    pick_no _ _ _ _ (le-ltb n 10 k) (ap (λ (p : ℕ). decimal_by p (n / 10) ++ ((48 + n % 10) ∷ [])) e)

-- a line to which a number's digits are put: none, one, or those before and one more
pub ruleset digits = (put_none, put_one, put_end, digits_none, digits_one, digits_more)
