-- A turn of the listing's walk: what is listed so far, and what is still to come, from one node to the next.
--     listed_more, padded_more         a node that is stored after the others
--     prepend_all                      what is listed so far, and what is still to come
--     after                            what comes after a node that is listed
--     set_refused, set_on              following next: a node that cannot be listed, and one that is
--     tail_refused, tail_on, tail_met  going on to the tail: the same, and standing on it
-- Assumes nothing.
use Rattle.std.specs.Prelude.{ℕ, zero, suc, ◌+◌, ◌-◌, ◌≤◌, ◌<◌, true, false, List, [], ◌∷◌, ◌++◌, ◌≡◌, refl, eqb}
use Rattle.std.specs.Prelude.{length, replicate}
use Rattle.std.proofs.Common.{inl, inr, sym, ap, ◌∙◌, arith, length-append}
use Rattle.std.proofs.Math.ListN.{set}
use Rattle.std.proofs.Math.Seq.{append_snoc}
use Rattle.std.proofs.lemmas.List.{set_at, take_more_set, length-replicate}
use Rattle.word.specs.Base.{pick}
use Rattle.word.specs.Number.{none, is_none}
use Rattle.word.specs.Flags.{to_node}
use Rattle.word.specs.declared.number.NodeNumber.{NodeNumber}
use Rattle.state.specs.Machine.{thread_limit}
use Rattle.state.specs.declared.machine.Machine.{Machine}
use Rattle.state.specs.declared.node.Node.{Node}
use Rattle.listing.specs.Listing.{Listed, lost, listed, prepend, node_by, link_of, stand, to_tail, to_set, followed_of}
use Rattle.listing.specs.Listing.{padded}
use Rattle.listing.specs.Way.{listed_in, IsPadded, Stood, CannotStand}
use Rattle.listing.specs.declared.listing.Waiters.{Waiters}

padded_long : (ns : List NodeNumber) → length ns ≤ thread_limit → length (padded ns) ≡ thread_limit
padded_long ns h = simp (length-append, length-replicate) (omega arith)

padded_snoc : (ns : List NodeNumber) (n : NodeNumber)
    → length ns < thread_limit
    → set (padded ns) (length ns) n ≡ padded (ns ++ n ∷ [])
padded_snoc ns n h =
    let left : ℕ = thread_limit - (length ns + 1) in
    let one_more : thread_limit - length ns ≡ suc left = omega arith in
    let as_many : thread_limit - length (ns ++ n ∷ []) ≡ left = simp length-append in
    ap (λ k. set (ns ++ replicate k none) (length ns) n) one_more
    ∙ set_at ns none (replicate left none) n (length ns) refl
    ∙ sym (append_snoc ns n (replicate left none))
    ∙ ap (λ k. ns ++ n ∷ [] ++ replicate k none) (sym as_many)

-- a node that is stored after the others
module _ (w : Waiters) (n : NodeNumber) (is : IsPadded w) (room : w.length < thread_limit) where
  abbrev with_it : Waiters
  with_it = record { nodes = set w.nodes w.length n; length = w.length + 1 }

  as_many : w.length ≡ length (listed_in w)
  as_many = ap (λ (x : Waiters). x.length) is

  long : length w.nodes ≡ thread_limit
  long = ap (λ (x : Waiters). length x.nodes) is ∙ padded_long (listed_in w) (omega (arith, as_many))

  pub listed_more : listed_in with_it ≡ listed_in w ++ n ∷ []
  listed_more = take_more_set w.nodes w.length n (omega (arith, long))

  stored : set w.nodes w.length n ≡ padded (listed_in w ++ n ∷ [])
  stored =
      ap (λ (l : List NodeNumber). set l w.length n) (ap (λ (x : Waiters). x.nodes) is)
      ∙ ap (λ k. set (padded (listed_in w)) k n) as_many
      ∙ padded_snoc (listed_in w) n (omega (arith, as_many))

  counted : w.length + 1 ≡ length (listed_in w ++ n ∷ [])
  counted = simp length-append (omega (arith, as_many))

  pub padded_more : IsPadded with_it
  padded_more = rw listed_more (cc (stored, counted))

-- what is listed so far, and what is still to come
abbrev pub prepend_all : List NodeNumber → Listed → Listed
prepend_all [] l = l
prepend_all (n ∷ ns) l = prepend n (prepend_all ns l)

prepend_lost : (ns : List NodeNumber) → prepend_all ns lost ≡ lost
prepend_lost [] = refl
prepend_lost (n ∷ ns) = ap (prepend n) (prepend_lost ns)

pub prepend_none : (ns : List NodeNumber) → prepend_all ns (listed []) ≡ listed ns
prepend_none [] = refl
prepend_none (n ∷ ns) = ap (prepend n) (prepend_none ns)

prepend_snoc : (ns : List NodeNumber) (n : NodeNumber) (l : Listed)
    → prepend_all (ns ++ n ∷ []) l ≡ prepend_all ns (prepend n l)
prepend_snoc [] n l = refl
prepend_snoc (x ∷ ns) n l = ap (prepend x) (prepend_snoc ns n l)

-- where a node is listed after others there are no more than the count
pub few : {m : Machine} {at : NodeNumber} {before others : Waiters} {n : Node}
    → Stood m at before others n
    → others.length ≤ m.count
few s = omega (arith, s.room, s.one_more)

-- with no nodes yet
pub begins : (m : Machine) (head : NodeNumber) → to_set (m.count - 0) m head ≡ followed_of m head
begins m head = let none_yet : m.count - 0 ≡ m.count = omega arith in ap (λ k. to_set k m head) none_yet

-- a visit of a node, and then the rest, with a visit less
visit : (ℕ → Listed) → ℕ → Machine → NodeNumber → Listed
visit rest zero m at = lost
visit rest (suc left) m at = stand m at (rest left)

-- what comes after a node that is listed
abbrev pub after : ℕ → Machine → NodeNumber → Node → Listed
after left m at n = pick (is_none n.tail) (to_set left m (to_node n.next)) (to_tail left m n.tail at)

module _ (m : Machine) where
  set_visit : (left : ℕ) (at : NodeNumber) → to_set left m at ≡ visit (λ k. after k m at (node_by m at)) left m at
  unfolding to_set visit
  set_visit zero at = refl
  set_visit (suc left) at = refl

  tail_visit : (left : ℕ) (tail at : NodeNumber)
      → to_tail left m tail at
      ≡ pick (eqb at.0 tail.0) (listed []) (visit (λ k. to_tail k m tail (link_of m at)) left m (link_of m at))
  unfolding to_tail visit
  tail_visit zero tail at = refl
  tail_visit (suc left) tail at = refl

  -- the nodes so far, and a visit of the next
  module _ (rest : ℕ → Listed) (w : Waiters) (at : NodeNumber) where
    refused : CannotStand m at w → lost ≡ prepend_all (listed_in w) (visit rest (m.count - w.length) m at)
    unfolding visit
    refused (inl spent) =
        let none_left : m.count - w.length ≡ 0 = omega arith in rw none_left (sym (prepend_lost (listed_in w)))
    refused (inr out) = by (m.count - w.length)
      where
        by : (k : ℕ) → lost ≡ prepend_all (listed_in w) (visit rest k m at)
        by zero = sym (prepend_lost (listed_in w))
        by (suc k) = rw out (sym (prepend_lost (listed_in w)))

    visited : (others : Waiters) (n : Node)
        → Stood m at w others n
        → prepend_all (listed_in others) (rest (m.count - others.length))
        ≡ prepend_all (listed_in w) (visit rest (m.count - w.length) m at)
    unfolding visit
    visited others n s =
        let one_more : m.count - w.length ≡ suc (m.count - others.length) = omega (arith, s.room, s.one_more) in
        rw (s.listed, one_more, s.inside) (prepend_snoc (listed_in w) at _)

  module _ (w : Waiters) (at : NodeNumber) where
    pub set_refused : CannotStand m at w → lost ≡ prepend_all (listed_in w) (to_set (m.count - w.length) m at)
    set_refused s = rw (set_visit (m.count - w.length) at) (refused (λ k. after k m at (node_by m at)) w at s)

    pub set_on : (others : Waiters) (n : Node)
        → Stood m at w others n
        → prepend_all (listed_in others) (after (m.count - others.length) m at n)
        ≡ prepend_all (listed_in w) (to_set (m.count - w.length) m at)
    set_on others n s =
        rw (set_visit (m.count - w.length) at, s.its)
        (visited (λ k. after k m at (node_by m at)) w at others n s)

    module _ (tail : NodeNumber) where
      pub tail_met : true ≡ eqb at.0 tail.0
          → listed (listed_in w) ≡ prepend_all (listed_in w) (to_tail (m.count - w.length) m tail at)
      tail_met e = rw (tail_visit (m.count - w.length) tail at, ← e) (sym (prepend_none (listed_in w)))

      module _ (next : NodeNumber) (other : false ≡ eqb at.0 tail.0) (e : next ≡ link_of m at) where
        pub tail_refused : CannotStand m next w
            → lost ≡ prepend_all (listed_in w) (to_tail (m.count - w.length) m tail at)
        tail_refused s =
            rw (tail_visit (m.count - w.length) tail at, ← other, ← e)
            (refused (λ k. to_tail k m tail next) w next s)

        pub tail_on : (others : Waiters) (n : Node)
            → Stood m next w others n
            → prepend_all (listed_in others) (to_tail (m.count - others.length) m tail next)
            ≡ prepend_all (listed_in w) (to_tail (m.count - w.length) m tail at)
        tail_on others n s =
            rw (tail_visit (m.count - w.length) tail at, ← other, ← e)
            (visited (λ k. to_tail k m tail next) w next others n s)
