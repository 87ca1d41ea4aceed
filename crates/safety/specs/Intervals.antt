-- Tickets as lists: those of an interval oldest first, and newest first; and that the listing, and the way back by
-- prev, read them off the links.
-- Assumes nothing.
use Prim.Native.Nat.{ℕ, zero, suc, ◌+◌, ◌-◌, ◌≤◌, ◌<◌}
use Rattle.std.specs.Prelude.{true, false, ◌≢◌, ◌⊎◌, ◌≡◌, refl, ltb, leb, eqb, length}
use mathlib.Core.List.{List, [], ◌∷◌, ◌++◌, reverse, reverse-cons}
use Rattle.std.proofs.Common.{inl, inr, ◌∙◌, add-suc, add-zero, arith}
use Rattle.std.proofs.Math.Path.{sym, ap}
use borrow.Author.Tests.{eq-eqb, ne_eqb, le-ltb, le-leb}
use Rattle.word.specs.Base.{pick}
use Rattle.word.specs.Cases.{pick_no, pick_yes}
use Rattle.word.specs.Flags.{to_node}
use Rattle.word.specs.Number.{node, is_none}
use Rattle.word.specs.declared.number.NodeNumber.{NodeNumber}
use Rattle.state.specs.declared.machine.Machine.{Machine}
use Rattle.listing.specs.Listing.{Listed, listed, prepend, within, node_by, link_of, stand, to_tail, to_set}
use Rattle.queue.specs.Sums.{pigeon}
use Rattle.queue.specs.Queue.{Interval, Live, Queue, Mine, Set}
use Rattle.invariant.specs.Table.{links_of}
use Rattle.invariant.specs.Bridge.{node_in}
use Rattle.safety.specs.Lists.{back_from}

-- k tickets from a on
abbrev pub up : (ℕ → ℕ) → ℕ → ℕ → List NodeNumber
up log a zero = []
up log a (suc k) = node (log a) ∷ up log (suc a) k

-- and from the newest of them down to a
abbrev pub down : (ℕ → ℕ) → ℕ → ℕ → List NodeNumber
down log a zero = []
down log a (suc k) = node (log (a + k)) ∷ down log a k

pub length_up : (log : ℕ → ℕ) (a k : ℕ) → length (up log a k) ≡ k
length_up log a zero = refl
length_up log a (suc k) = ap suc (length_up log (suc a) k)

pub up_more : (log : ℕ → ℕ) (a k : ℕ) → up log a (suc k) ≡ up log a k ++ (node (log (a + k)) ∷ [])
up_more log a zero = rw add-zero
up_more log a (suc k) =
    ap (λ l. node (log a) ∷ l) (up_more log (suc a) k ∙ ap (λ j. up log (suc a) k ++ (node (log j) ∷ [])) same)
  where
    same : suc a + k ≡ a + suc k
    same = omega arith

pub reverse_down : (log : ℕ → ℕ) (a k : ℕ) → reverse (down log a k) ≡ up log a k
reverse_down log a zero = refl
reverse_down log a (suc k) =
    reverse-cons (node (log (a + k))) (down log a k)
    ∙ ap (λ l. l ++ (node (log (a + k)) ∷ [])) (reverse_down log a k)
    ∙ sym (up_more log a k)

-- only the log at the tickets matters
pub up_same : (log log' : ℕ → ℕ) (a k : ℕ) → ((j : ℕ) → a ≤ j → j < a + k → log' j ≡ log j) → up log' a k ≡ up log a k
up_same log log' a zero h = refl
up_same log log' a (suc k) h =
    rw (h a (omega arith) (omega arith), up_same log log' (suc a) k (λ j x y. h j (omega arith) (omega arith)))

pub down_same : (log log' : ℕ → ℕ) (a k : ℕ)
    → ((j : ℕ) → a ≤ j → j < a + k → log' j ≡ log j)
    → down log' a k ≡ down log a k
down_same log log' a zero h = refl
down_same log log' a (suc k) h =
    rw (h (a + k) (omega arith) (omega arith), down_same log log' a k (λ j x y. h j x (omega arith)))

-- nodes of one number are one
pub node_is : (x : NodeNumber) (k : ℕ) → x.0 ≡ k → x ≡ node k
node_is x k e = λ j. record { 0 = e j }

module _ (m : Machine) where
  -- what the listing does on a node after it has listed it
  abbrev onward : ℕ → NodeNumber → Listed
  onward left at =
      pick (is_none (node_by m at).tail) (to_set left m (link_of m at)) (to_tail left m (node_by m at).tail at)

  -- a node in range is that of its number
  pub node_by_lem : (k : ℕ) → k ≢ 0 → node_by m (node k) ≡ node_in m.nodes k
  node_by_lem zero ne = absurd (ne refl)
  node_by_lem (suc j) ne = let e : suc j - 1 ≡ j = omega arith in rw e

  in_range : (k : ℕ) → k ≢ 0 → k ≤ m.count → within m.count (node k) ≡ true
  in_range k ne l =
      sym (pick_no (ltb k 1) true false (leb k m.count) (le-ltb k 1 (omega arith)) (sym (le-leb k m.count l)))

  module _ (q : Interval) (d : Live q) (range : (i : ℕ) → q.lo ≤ i → i < q.hi → q.log i ≤ m.count) where
    stood_on : (i : ℕ)
        → q.lo ≤ i
        → i < q.hi
        → (rest : Listed)
        → stand m (node (q.log i)) rest ≡ prepend (node (q.log i)) rest
    stood_on i a b rest = rw (in_range (q.log i) (d.some i a b) (range i a b))

    -- no more of them than nodes
    pub few_tickets : q.lo ≤ q.hi → q.hi - q.lo ≤ m.count
    few_tickets order =
        pigeon m.count (q.hi - q.lo)
        (λ i. q.log (q.lo + i) - 1)
        (λ i l. omega (
          arith,
          d.some (q.lo + i) (omega arith) (omega arith),
          range (q.lo + i) (omega arith) (omega arith),
        ))
        (λ i j a b ne e. d.apart (q.lo + i) (q.lo + j) (omega arith) (omega arith) (omega arith) (omega arith)
        (λ z. ne (omega arith))
        (omega (
          arith,
          d.some (q.lo + i) (omega arith) (omega arith),
          d.some (q.lo + j) (omega arith) (omega arith),
        )))

    module _ (v : Queue q (links_of (node_in m.nodes))) where
      next_down : (k : ℕ) → q.lo + suc k < q.hi → link_of m (node (q.log (q.lo + suc k))) ≡ node (q.log (q.lo + k))
      next_down k b =
          let e : q.lo + suc k ≡ suc (q.lo + k) = add-suc q.lo k in
          node_is _ _
          (ap (λ y. (to_node y.next).0) (node_by_lem (q.log (q.lo + suc k)) (d.some (q.lo + suc k) (omega arith) b))
          ∙ ap (λ i. (to_node (node_in m.nodes (q.log i)).next).0) e
          ∙ v.next (q.lo + k) (omega arith) (omega arith))

      tail_of : (i : ℕ)
          → q.lo ≤ i
          → i < q.hi
          → (node_by m (node (q.log i))).tail.0 ≡ (node_in m.nodes (q.log i)).tail.0
      tail_of i a b = ap (λ y. y.tail.0) (node_by_lem (q.log i) (d.some i a b))

      to_tail_lem : (k left : ℕ)
          → k ≤ left
          → q.lo + k < q.hi
          → to_tail left m (node (q.log q.lo)) (node (q.log (q.lo + k))) ≡ listed (down q.log q.lo k)
      unfolding to_tail
      to_tail_lem zero zero a b = rw (add-zero, eq-eqb (q.log q.lo) (q.log q.lo) refl)
      to_tail_lem zero (suc left) a b = rw (add-zero, eq-eqb (q.log q.lo) (q.log q.lo) refl)
      to_tail_lem (suc k) zero a b = absurd (omega arith)
      to_tail_lem (suc k) (suc left) a b =
          sym (pick_no (eqb (q.log (q.lo + suc k)) (q.log q.lo)) _ (listed []) _
          (ne_eqb (q.log (q.lo + suc k)) (q.log q.lo)
          (d.apart (q.lo + suc k) q.lo (omega arith) b (omega arith) (omega arith) (λ e. omega arith))) refl)
          ∙ ap (λ x. stand m x (to_tail left m (node (q.log q.lo)) x)) (next_down k b)
          ∙ stood_on (q.lo + k) (omega arith) (omega arith)
          (to_tail left m (node (q.log q.lo)) (node (q.log (q.lo + k))))
          ∙ ap (prepend (node (q.log (q.lo + k)))) (to_tail_lem k left (omega arith) (omega arith))

      -- a node without a tail is not the floor
      above_floor : (i : ℕ) → i < q.hi → (node_in m.nodes (q.log i)).tail.0 ≡ 0 → q.fl ≢ i
      above_floor i b e z =
          let some : q.lo < q.hi = omega (arith, v.base) in
          d.some q.lo (omega arith) some
          (sym (v.floor some).0 ∙ ap (λ j. (node_in m.nodes (q.log j)).tail.0) z ∙ e)

      -- a node at or above the floor lists all that is below it
      to_set_lem : (k left : ℕ)
          → k < left
          → q.lo + k < q.hi
          → q.fl ≤ q.lo + k
          → to_set left m (node (q.log (q.lo + k))) ≡ listed (down q.log q.lo (suc k))
      unfolding to_set
      to_set_lem k zero a b f = absurd (omega arith)
      to_set_lem k (suc left) a b f =
          stood_on (q.lo + k) (omega arith) b (onward left (node (q.log (q.lo + k))))
          ∙ ap (prepend (node (q.log (q.lo + k)))) (by (λ j. to_set_lem j left) k a b f (v.valid (q.lo + k) f b))
        where
          found : (k : ℕ)
              → k ≤ left
              → q.lo + k < q.hi
              → (node_in m.nodes (q.log (q.lo + k))).tail.0 ≡ q.log q.lo
              → onward left (node (q.log (q.lo + k))) ≡ listed (down q.log q.lo k)
          found k a b e =
              let t : (node_by m (node (q.log (q.lo + k)))).tail ≡ node (q.log q.lo) =
              node_is _ _ (tail_of (q.lo + k) (omega arith) b ∙ e) in
              sym (pick_no (is_none (node_by m (node (q.log (q.lo + k)))).tail) _ _ _
              (ap is_none t ∙ ne_eqb (q.log q.lo) 0 (d.some q.lo (omega arith) (omega arith))) refl)
              ∙ ap (λ z. to_tail left m z (node (q.log (q.lo + k)))) t
              ∙ to_tail_lem k left a b

          by : ((j : ℕ)
              → j < left
              → q.lo + j < q.hi
              → q.fl ≤ q.lo + j
              → to_set left m (node (q.log (q.lo + j))) ≡ listed (down q.log q.lo (suc j)))
              → (k : ℕ) → k < suc left → q.lo + k < q.hi → q.fl ≤ q.lo + k
              → ((node_in m.nodes (q.log (q.lo + k))).tail.0 ≡ 0) ⊎ Set q (links_of (node_in m.nodes)) (q.lo + k)
              → onward left (node (q.log (q.lo + k))) ≡ listed (down q.log q.lo k)
          by r k a b f (inr e) = found k (omega arith) b e.0
          by r zero a b f (inl e) = absurd (above_floor (q.lo + 0) b e (omega (arith, v.base)))
          by r (suc k) a b f (inl e) =
              sym (pick_yes (is_none (node_by m (node (q.log (q.lo + suc k)))).tail) _ _ _
              (eq-eqb (node_by m (node (q.log (q.lo + suc k)))).tail.0 0
              (tail_of (q.lo + suc k) (omega arith) b ∙ e)) refl)
              ∙ ap (to_set left m) (next_down k b)
              ∙ r k (omega arith) (omega arith) (omega (arith, above_floor (q.lo + suc k) b e))

      -- so the newest lists them all
      pub lists_all : (p : ℕ)
          → suc p ≡ q.hi
          → q.lo ≤ p
          → (at : NodeNumber)
          → at.0 ≡ q.log p
          → to_set m.count m at ≡ listed (down q.log q.lo (q.hi - q.lo))
      lists_all p last some at e =
          let k : p ≡ q.lo + (p - q.lo) = omega arith in
          let size : q.hi - q.lo ≡ suc (p - q.lo) = omega arith in
          ap (to_set m.count m) (node_is at (q.log p) e ∙ ap (λ i. node (q.log i)) k)
          ∙ to_set_lem (p - q.lo) m.count (omega (arith, few_tickets (omega arith))) (omega arith)
          (omega (arith, v.span (omega arith)))
          ∙ ap (λ z. listed (down q.log q.lo z)) (sym size)

    -- ── back by prev ──

    -- the way begins at ticket a, or is empty
    abbrev pub Begins : ℕ → ℕ → NodeNumber → Type 0
    Begins zero a at = at.0 ≡ 0
    Begins (suc k) a at = at.0 ≡ q.log a

    module _ (b : ℕ) (low : q.lo ≤ b) (mine : Mine q (links_of (node_in m.nodes)) b) where
      pub goes_back : (k left a : ℕ) (at : NodeNumber)
          → k ≤ left
          → b ≤ a
          → a + k ≡ q.hi
          → Begins k a at
          → back_from left m at ≡ listed (up q.log a k)
      unfolding back_from
      goes_back zero zero a at l x y e = sym (pick_yes (is_none at) _ _ _ (eq-eqb at.0 0 e) refl)
      goes_back zero (suc left) a at l x y e = sym (pick_yes (is_none at) _ _ _ (eq-eqb at.0 0 e) refl)
      goes_back (suc k) zero a at l x y e = absurd (omega arith)
      goes_back (suc k) (suc left) a at l x y e =
          sym
          (pick_no (is_none at) _ _ _ (ap is_none is ∙ ne_eqb (q.log a) 0 (d.some a (omega arith) (omega arith))) refl)
          ∙ ap (λ z. stand m z (back_from left m (node_by m z).prev)) is
          ∙ stood_on a (omega arith) (omega arith) (back_from left m (node_by m (node (q.log a))).prev)
          ∙ ap (prepend (node (q.log a)))
          (goes_back k left (suc a) (node_by m (node (q.log a))).prev (omega arith) (omega arith) (omega arith)
          (begins k y))
        where
          is : at ≡ node (q.log a)
          is = node_is at (q.log a) e

          prev_is : (node_by m (node (q.log a))).prev.0 ≡ (node_in m.nodes (q.log a)).prev.0
          prev_is = ap (λ z. z.prev.0) (node_by_lem (q.log a) (d.some a (omega arith) (omega arith)))

          begins : (k : ℕ) → a + suc k ≡ q.hi → Begins k (suc a) (node_by m (node (q.log a))).prev
          begins zero y = prev_is ∙ mine.newest a (omega arith) x
          begins (suc k) y = prev_is ∙ mine.back a x (omega arith)
