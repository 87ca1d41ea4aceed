-- Laws of the numbers that an event goes by: where a slot lies, what a good count says.
-- Assumes nothing.
use Rattle.std.specs.Prelude.{ℕ, ◌+◌, ◌-◌, ◌≤◌, ◌<◌, true, false, ◌≡◌, T, ltb, leb, Some, None}
use Rattle.std.proofs.Common.{sym, subst, arith, ltb-false, leb-true}
use Rattle.word.specs.Cases.{pick_second}
use Rattle.word.specs.Base.{pick}
use Rattle.word.specs.Number.{slot_of}
use Rattle.word.specs.declared.number.NodeNumber.{NodeNumber}
use Rattle.state.specs.Machine.{thread_limit, good_count}

-- no slot is both outside and somewhere
pub outside_not_at : (k : ℕ) → None ≡ Some k → ⊥
outside_not_at k e = cc

-- a node that has a slot lies in 1..count, at its number less one
pub slot_at : (n : NodeNumber) (count k : ℕ) → slot_of n count ≡ Some k → (n.0 ≡ k + 1) × (k < count)
slot_at n count k e =
    let low =
    pick_second (ltb n.0 1) None (pick (ltb count n.0) None (Some (n.0 - 1))) (Some k) (outside_not_at k) e in
    let high = pick_second (ltb count n.0) None (Some (n.0 - 1)) (Some k) (outside_not_at k) low.1 in
    let same : n.0 - 1 ≡ k = cc high.1 in (
      omega (arith, ltb-false n.0 1 low.0),
      omega (arith, ltb-false n.0 1 low.0, ltb-false count n.0 high.0),
    )

not_both : false ≡ true → ⊥
not_both e = subst T (sym e) tt

-- a good count is one of 1..thread_limit
pub good_count_lem : (count : ℕ) → good_count count ≡ true → (1 ≤ count) × (count ≤ thread_limit)
good_count_lem count e =
    let low = pick_second (ltb count 1) false (leb count thread_limit) true (λ h. not_both h) e in
    (ltb-false count 1 low.0, leb-true count thread_limit low.1)
