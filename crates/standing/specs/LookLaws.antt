-- Laws for the searches for a node: one visit more, and what a refused listing comes to.
-- Assumes nothing.
use Rattle.std.specs.Prelude.{ℕ, zero, suc, ◌+◌, ◌-◌, ◌<◌, Bool, false, ◌≡◌, refl, List, [], get_or, Ok, Err}
use Rattle.std.proofs.Common.{ap, suc-ne-zero, arith}
use Rattle.std.proofs.Math.Dec.{eqb-suc-zero, eqb-zero-suc}
use Rattle.word.specs.Number.{node, none}
use Rattle.word.specs.declared.number.NodeNumber.{NodeNumber}
use Rattle.state.specs.declared.answer.Refusal.{Refusal}
use Rattle.state.specs.declared.machine.Machine.{Machine}
use Rattle.listing.specs.Listing.{array_of}
use Rattle.standing.specs.Look.{prev_of, same_or, among_below, among, met_from}
use Rattle.standing.specs.Stands.{held_at, held_below}
use Rattle.standing.specs.declared.stands.Standing.TheVariants.{Nowhere}

pub among_none : (ns : List NodeNumber) (n : NodeNumber) → false ≡ among_below 0 ns n
unfolding among_below
among_none ns n = refl

pub among_more : (k : ℕ) (ns : List NodeNumber) (n : NodeNumber)
    → same_or (among_below k ns n) (get_or ns k none) n ≡ among_below (k + 1) ns n
unfolding among_below
among_more k ns n =
    let e : suc k ≡ k + 1 = omega arith in
    ap (λ (i : ℕ). among_below i ns n) e

-- a refused listing has what an empty one has
pub among_refused : (r : Refusal) (n : NodeNumber) → among (Err r) n ≡ among (Ok (array_of [])) n
unfolding among_below
among_refused r n = by n.0
  where
    by : (k : ℕ) → among (Err r) (node k) ≡ among (Ok (array_of [])) (node k)
    by zero = refl
    by (suc k) = simp (eqb-suc-zero k, eqb-zero-suc k)

pub met_none : (left : ℕ) (m : Machine) (n at : NodeNumber) (found : Bool)
    → left ≡ 0
    → found ≡ met_from left m n at found
unfolding met_from
met_none zero m n at found e = refl
met_none (suc left) m n at found e = absurd (suc-ne-zero left e)

pub met_more : (left : ℕ) (m : Machine) (n at : NodeNumber) (found : Bool) → 0 < left
    → met_from (left - 1) m n (prev_of m at) (same_or found at n) ≡ met_from left m n at found
unfolding met_from
met_more zero m n at found h = absurd (omega (arith, h))
met_more (suc left) m n at found h =
    let e : suc left - 1 ≡ left = omega arith in
    ap (λ (k : ℕ). met_from k m n (prev_of m at) (same_or found at n)) e

pub held_none : (m : Machine) (n : NodeNumber) → Nowhere ≡ held_below 0 m n
unfolding held_below
held_none m n = refl

pub held_more : (k : ℕ) (m : Machine) (n : NodeNumber) → held_at m k n (held_below k m n) ≡ held_below (k + 1) m n
unfolding held_below
held_more k m n =
    let e : suc k ≡ k + 1 = omega arith in
    ap (λ (i : ℕ). held_below i m n) e
