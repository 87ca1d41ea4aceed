-- What the searches for a node come to. Assumes nothing.
use Rattle.std.specs.Prelude.{ℕ, zero, suc, ◌+◌, ◌-◌, ◌≤◌, ◌<◌, Bool, true, false, ◌||◌, List, ◌≡◌, refl, eqb, length}
use Rattle.std.specs.Prelude.{get_or, take}
use Rattle.std.proofs.Common.{sym, ap, ◌∙◌, add-one, arith}
use Rattle.std.specs.List.{list_any}
use Rattle.std.proofs.lemmas.List.Folds.{list_any_more}
use Rattle.std.proofs.lemmas.List.{take_all}
use Rattle.word.specs.Base.{pick}
use Rattle.word.specs.Number.{none}
use Rattle.word.specs.declared.number.NodeNumber.{NodeNumber}
use Rattle.state.specs.declared.machine.Machine.{Machine}
use Rattle.standing.specs.Look.{same_or, prev_of, among_below, met_from}
use Rattle.standing.specs.LookLaws.{met_none, met_more}

same_is : (found : Bool) (at n : NodeNumber) → found || eqb at.0 n.0 ≡ same_or found at n
same_is found at n = by found (eqb at.0 n.0)
  where
    by : (a b : Bool) → a || b ≡ pick b true a
    by true true = refl
    by true false = refl
    by false true = refl
    by false false = refl

among_is : (k : ℕ) (ns : List NodeNumber) (n : NodeNumber) → k ≤ length ns
    → list_any (λ (at : NodeNumber). eqb at.0 n.0) (take k ns) ≡ among_below k ns n
unfolding among_below
among_is zero ns n h = refl
among_is (suc k) ns n h =
    rw (← add-one k) (list_any_more (λ (at : NodeNumber). eqb at.0 n.0) ns k none h)
    ∙ ap (λ b. b || eqb (get_or ns k none).0 n.0) (among_is k ns n (omega arith))
    ∙ same_is (among_below k ns n) (get_or ns k none) n

-- a list is searched as far as it goes
pub any_is : (ns : List NodeNumber) (n : NodeNumber)
    → list_any (λ (at : NodeNumber). eqb at.0 n.0) ns ≡ among_below (length ns) ns n
any_is ns n =
    ap (list_any (λ (at : NodeNumber). eqb at.0 n.0)) (sym (take_all (length ns) ns (omega arith)))
    ∙ among_is (length ns) ns n (omega arith)

-- what is met stays met
met_stays : (left : ℕ) (m : Machine) (n at : NodeNumber) → met_from left m n at true ≡ true
unfolding met_from
met_stays zero m n at = refl
met_stays (suc left) m n at = by (eqb at.0 n.0) (met_stays left m n (prev_of m at))
  where
    by : (b : Bool)
        → met_from left m n (prev_of m at) true ≡ true
        → met_from left m n (prev_of m at) (pick b true true) ≡ true
    by true e = e
    by false e = e

-- one visit more: it meets the node, or goes on; and no visit more
pub met_there : (left : ℕ) (m : Machine) (n at : NodeNumber) → 0 < left → true ≡ eqb at.0 n.0
    → true ≡ met_from left m n at false
met_there left m n at some e =
    sym (met_stays (left - 1) m n (prev_of m at))
    ∙ ap (λ b. met_from (left - 1) m n (prev_of m at) (pick b true false)) e
    ∙ met_more left m n at false some

pub met_on : (left less : ℕ) (m : Machine) (n at next : NodeNumber) → left ≡ less + 1 → next ≡ prev_of m at
    → false ≡ eqb at.0 n.0
    → met_from less m n next false ≡ met_from left m n at false
met_on left less m n at next k is e =
    let one_less : less ≡ left - 1 = omega arith in
    rw (one_less, is)
    (ap (λ b. met_from (left - 1) m n (prev_of m at) (pick b true false)) e
    ∙ met_more left m n at false (omega arith))

pub met_end : (left : ℕ) (m : Machine) (n at : NodeNumber) → left ≤ 0 → false ≡ met_from left m n at false
met_end left m n at e = met_none left m n at false (omega arith)

pub ruleset met_search = (met_there, met_on, met_end)
