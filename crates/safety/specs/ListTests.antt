-- What the trace tests of a node (crate standing) is whether it is on a list of Lists.antt.
-- In this order: a test and what it tests; what a list tells of how it was made; a node in front of others, in a
-- list, in a list turned round; the way back by prev; what a thread has taken off.
-- Assumes nothing.
use Prim.Native.Nat.{ℕ, zero, suc, ◌-◌, ◌≤◌, ◌<◌}
use Rattle.std.specs.Prelude.{Bool, ◌≢◌, ◌⊎◌, ◌≡◌, ltb, leb, length, get_or, replicate, Some, None}
use Rattle.std.proofs.Math.Bool.{true, false}
use mathlib.Core.List.{List, [], ◌∷◌, ◌++◌, reverse, reverse_aux, reverse-cons, reverse-reverse}
use mathlib.Core.List.Memᴰ
use mathlib.Core.List.{Memᴰ}
use Rattle.std.proofs.Common.{inl, inr, sym, ◌∙◌, arith}
use Rattle.std.proofs.Math.Path.{refl, ap, subst}
use Rattle.std.proofs.Math.Decide.{dec_lt}
use Rattle.std.proofs.Math.Dec.{eqb}
use borrow.Author.Tests.{eqb-true, eqb-false, ne_eqb, lt-ltb, le-ltb, leb-true, ltb-false}
use Rattle.word.specs.Base.{pick}
use Rattle.word.specs.Cases.{pick_yes, pick_no}
use Rattle.word.specs.Number.{none, is_none, node, slot_of}
use Rattle.word.specs.declared.number.NodeNumber.{NodeNumber}
use Rattle.state.specs.Machine.{thread_limit, node_at, good_count}
use Rattle.state.specs.declared.machine.Machine.{Machine}
use Rattle.state.specs.declared.place.Who.{Who}
use Rattle.listing.specs.Listing.{Listed, lost, listed, prepend, within, node_by, stand, followed_of, padded}
use Rattle.listing.specs.Listing.{waiters_by}
use Rattle.listing.specs.Laws.{followed_most}
use Rattle.standing.specs.Look.{prev_by, prev_of, same_or, among_below, among, met_from}
use Rattle.standing.specs.Stands.{aside_in as is_aside, in_list_of}
use Rattle.standing.specs.declared.part.Part.{Part}
use Rattle.standing.specs.declared.part.Part.TheVariants.{Apart, Contending, Waiting, Owning, SettingAside, Walking}
use Rattle.standing.specs.declared.part.Part.TheVariants.{Reading, Completing, Releasing}
use Rattle.queue.specs.Tests.{never}
use Rattle.safety.specs.Lists.{turned, back_from, held_by, aside_by, wakes_by}
use Rattle.safety.specs.Statements.{In}

abbrev pub Tests : Bool → Type 0 → Type 0
Tests b X = (b ≡ true → X) × (X → b ≡ true)

-- ── what a list tells of how it was made ──

listed_same : (a b : List NodeNumber) → listed a ≡ listed b → a ≡ b
listed_same a b e = cc

lost_not : {A : Type 0} (ns : List NodeNumber) → lost ≡ listed ns → A
lost_not ns e = absurd (cc)

-- a node that was stood on, and the rest
record Stood (m : Machine) (at : NodeNumber) (rest : Listed) (ns : List NodeNumber) : Type 0 where
  there : within m.count at ≡ true
  others : List NodeNumber
  rest_is : rest ≡ listed others
  all_is : ns ≡ at ∷ others

stood : (m : Machine) (at : NodeNumber) (rest : Listed) (ns : List NodeNumber) → stand m at rest ≡ listed ns
    → Stood m at rest ns
stood m at rest ns e = by (within m.count at) refl rest e
  where
    by : (b : Bool) → within m.count at ≡ b → (r : Listed) → pick b (prepend at r) lost ≡ listed ns → Stood m at r ns
    by true f lost g = lost_not ns g
    by true f (listed others) g = record { there = f; others = others; rest_is = refl; all_is = cc }
    by false f r g = lost_not ns g

-- the trace reads the prev of a node in range as it is
prev_is : (m : Machine) → m.count ≤ thread_limit → (at : NodeNumber) → within m.count at ≡ true
    → prev_of m at ≡ (node_by m at).prev
prev_is m few at w = by (ltb at.0 1) refl w
  where
    by : (b : Bool) → ltb at.0 1 ≡ b → pick b false (leb at.0 m.count) ≡ true → prev_of m at ≡ (node_by m at).prev
    by true e f = never refl f
    by false e f =
        let low : 1 ≤ at.0 = ltb-false at.0 1 e in
        let high : at.0 ≤ m.count = leb-true at.0 m.count f in
        let slot : slot_of at m.count ≡ Some (at.0 - 1) =
        sym (pick_no (ltb at.0 1) (Some (at.0 - 1)) None _ e
        (pick_no (ltb m.count at.0) (Some (at.0 - 1)) None _ (le-ltb m.count at.0 high) refl)) in
        ap (prev_by m) slot
        ∙ sym (pick_yes (ltb (at.0 - 1) thread_limit) (node_at m (at.0 - 1)).prev (node_at m (at.0 - 1)).prev none
        (lt-ltb (at.0 - 1) thread_limit (omega arith)) refl)

module _ (n : NodeNumber) (some : n.0 ≢ 0) where
  -- ── in front of others ──

  no_list : Tests false (Memᴰ n [])
  no_list = (never refl, λ i. absurd (Memᴰ.not-nil i))

  front : (x : NodeNumber) (b : Bool) (ns : List NodeNumber) → Tests b (Memᴰ n ns)
      → Tests (same_or b x n) (Memᴰ n (x ∷ ns))
  front x b ns t = by (eqb x.0 n.0) refl
    where
      by : (y : Bool) → eqb x.0 n.0 ≡ y → Tests (pick y true b) (Memᴰ n (x ∷ ns))
      by true e = (λ _. Memᴰ.head (ap node (sym (eqb-true x.0 n.0 e))), λ _. refl)
      by false e = (λ f. Memᴰ.tail (t.0 f), λ i. back (Memᴰ.cases_cons i))
        where
          back : (n ≡ x) ⊎ Memᴰ n ns → b ≡ true
          back (inl f) = absurd (eqb-false x.0 n.0 e (ap (λ (y : NodeNumber). y.0) (sym f)))
          back (inr i) = t.1 i

  -- ── in a list, by places ──

  abbrev IsAt : List NodeNumber → ℕ → Type 0
  IsAt l i = (get_or l i none).0 ≡ n.0

  at_in : (ns : List NodeNumber) (k i : ℕ) → IsAt (ns ++ replicate k none) i → Memᴰ n ns
  at_in [] k i e = absurd (some (sym e ∙ blank k i))
    where
      blank : (k i : ℕ) → (get_or (replicate k none) i none).0 ≡ 0
      blank zero i = refl
      blank (suc k) zero = refl
      blank (suc k) (suc i) = blank k i
  at_in (x ∷ ns) k zero e = Memᴰ.head (ap node (sym e))
  at_in (x ∷ ns) k (suc i) e = Memᴰ.tail (at_in ns k i e)

  in_at : (ns : List NodeNumber) (k : ℕ) → Memᴰ n ns → (i : ℕ) × (i < length ns) × IsAt (ns ++ replicate k none) i
  in_at [] k i = absurd (Memᴰ.not-nil i)
  in_at (x ∷ ns) k i = by (in_at ns k) (Memᴰ.cases_cons i)
    where
      by : (Memᴰ n ns → (j : ℕ) × (j < length ns) × IsAt (ns ++ replicate k none) j) → (n ≡ x) ⊎ Memᴰ n ns
          → (j : ℕ) × (j < suc (length ns)) × IsAt (x ∷ (ns ++ replicate k none)) j
      by r (inl e) = (0, omega arith, ap (λ (y : NodeNumber). y.0) (sym e))
      by r (inr j) = let y = r j in (suc y.0, omega (arith, y.1), y.2)

  among_at : (k : ℕ) (l : List NodeNumber) → among_below k l n ≡ true → (i : ℕ) × IsAt l i
  unfolding among_below
  among_at zero l e = never refl e
  among_at (suc k) l e = by (among_at k l) (eqb (get_or l k none).0 n.0) refl e
    where
      by : (among_below k l n ≡ true → (i : ℕ) × IsAt l i) → (b : Bool) → eqb (get_or l k none).0 n.0 ≡ b
          → pick b true (among_below k l n) ≡ true → (i : ℕ) × IsAt l i
      by r true f _ = (k, eqb-true (get_or l k none).0 n.0 f)
      by r false f g = r g

  at_among : (k : ℕ) (l : List NodeNumber) (i : ℕ) → i < k → IsAt l i → among_below k l n ≡ true
  unfolding among_below
  at_among zero l i b e = absurd (omega arith)
  at_among (suc k) l i b e = by (λ x. at_among k l i x e) (eqb (get_or l k none).0 n.0) refl
    where
      by : (i < k → among_below k l n ≡ true) → (x : Bool) → eqb (get_or l k none).0 n.0 ≡ x
          → pick x true (among_below k l n) ≡ true
      by r true f = refl
      by r false f = r (less (dec_lt i k))
        where
          less : Dec (i < k) → i < k
          less (yes x) = x
          less (no x) =
              let last : i ≡ k = omega (arith, b) in
              absurd (eqb-false (get_or l k none).0 n.0 f (subst (IsAt l) last e))

  pub among_listed : (ns : List NodeNumber) → length ns ≤ thread_limit
      → Tests (among (waiters_by (listed ns)) n) (Memᴰ n ns)
  among_listed ns l = (
    λ e. let x = among_at thread_limit (padded ns) e in at_in ns (thread_limit - length ns) x.0 x.1,
    λ i. let x = in_at ns (thread_limit - length ns) i in
        at_among thread_limit (padded ns) x.0 (omega (arith, x.1)) x.2,
  )

  -- ── turned round ──

  in_turned : (ns : List NodeNumber) → Memᴰ n ns → Memᴰ n (reverse ns)
  in_turned [] i = i
  in_turned (x ∷ ns) i = subst (Memᴰ n) (sym (reverse-cons x ns)) (by (in_turned ns) (Memᴰ.cases_cons i))
    where
      by : (Memᴰ n ns → Memᴰ n (reverse ns)) → (n ≡ x) ⊎ Memᴰ n ns → Memᴰ n (reverse ns ++ (x ∷ []))
      by r (inl e) = Memᴰ.append_right (reverse ns) (Memᴰ.head e)
      by r (inr j) = Memᴰ.append_left (x ∷ []) (r j)

  turned_in : (ns : List NodeNumber) → Memᴰ n (reverse ns) → Memᴰ n ns
  turned_in ns i = subst (Memᴰ n) (reverse-reverse ns) (in_turned (reverse ns) i)

  -- ── back by prev ──

  module _ (m : Machine) (few : m.count ≤ thread_limit) where
    -- past none nothing is met
    past_none : (left : ℕ) (found : Bool) → met_from left m n none found ≡ found
    unfolding met_from
    past_none zero found = refl
    past_none (suc left) found =
        ap (λ b. met_from left m n none (pick b true found)) (ne_eqb 0 n.0 (λ e. some (sym e))) ∙ past_none left found

    -- what is met was met before, or is on the list
    meets : (left : ℕ) (at : NodeNumber) (found : Bool) (ns before : List NodeNumber) → back_from left m at ≡ listed ns
        → Tests found (Memᴰ n before) → Tests (met_from left m n at found) (Memᴰ n (reverse_aux ns before))
    unfolding met_from back_from
    meets zero at found ns before e t = by (is_none at) e
      where
        by : (b : Bool) → pick b (listed []) lost ≡ listed ns → Tests found (Memᴰ n (reverse_aux ns before))
        by true g = subst (λ l. Tests found (Memᴰ n (reverse_aux l before))) (listed_same [] ns g) t
        by false g = lost_not ns g
    meets (suc left) at found ns before e t =
        by (λ f l. meets left (node_by m at).prev f l (at ∷ before)) (is_none at) refl e
      where
        by : ((f : Bool) (l : List NodeNumber) → back_from left m (node_by m at).prev ≡ listed l
            → Tests f (Memᴰ n (at ∷ before))
            → Tests (met_from left m n (node_by m at).prev f) (Memᴰ n (reverse_aux l (at ∷ before))))
            → (b : Bool) → is_none at ≡ b
            → pick b (listed []) (stand m at (back_from left m (node_by m at).prev)) ≡ listed ns
            → Tests (met_from left m n (prev_of m at) (same_or found at n)) (Memᴰ n (reverse_aux ns before))
        by r true z g = rw (over, ← listed_same [] ns g) t
          where
            over : met_from left m n (prev_of m at) (same_or found at n) ≡ found
            over =
                subst (λ x. met_from left m n (prev_of m x) (same_or found x n) ≡ found)
                (ap node (sym (eqb-true at.0 0 z))) (past_none (suc left) found)
        by r false z g =
            let x = stood m at (back_from left m (node_by m at).prev) ns g in
            rw (x.all_is, prev_is m few at x.there)
            (r (same_or found at n) x.others x.rest_is (front at found before t))

    back_list : (at : NodeNumber) (ns : List NodeNumber) → back_from m.count m at ≡ listed ns
        → Tests (met_from m.count m n at false) (Memᴰ n ns)
    back_list at ns e =
        let x = meets m.count at false ns [] e no_list in
        (λ h. turned_in ns (x.0 h), λ i. x.1 (in_turned ns i))

    -- ── what a thread has taken off ──

    abbrev Wakes : Part → Type 0
    Wakes part = Tests (in_list_of m part n) (In n (wakes_by m part))

    reading : (who : Who) (current : NodeNumber) (ns : List NodeNumber) → back_from m.count m current ≡ listed ns
        → Wakes (Reading who current)
    reading who current ns e =
        subst (λ l. Tests (met_from m.count m n current false) (In n l)) (sym e) (back_list current ns e)

    completing : (who : Who) (current prev : NodeNumber) (ns : List NodeNumber)
        → prepend current (back_from m.count m prev) ≡ listed ns → Wakes (Completing who current prev)
    completing who current prev ns e = by (back_from m.count m prev) refl e
      where
        by : (l : Listed) → back_from m.count m prev ≡ l → prepend current l ≡ listed ns
            → Tests (same_or (met_from m.count m n prev false) current n) (In n (prepend current l))
        by lost f g = lost_not ns g
        by (listed xs) f g = front current (met_from m.count m n prev false) xs (back_list prev xs f)

    walking : good_count m.count ≡ true → (head : NodeNumber) (ns : List NodeNumber)
        → turned (followed_of m head) ≡ listed ns → Wakes (Walking head)
    walking good head ns e =
        subst (λ l. Tests (among (waiters_by l) n) (In n (turned (followed_of m head))))
        (pick_yes (good_count m.count) (followed_of m head) (followed_of m head) lost good refl)
        (by (followed_of m head) refl e)
      where
        by : (l : Listed) → followed_of m head ≡ l → turned l ≡ listed ns
            → Tests (among (waiters_by l) n) (In n (turned l))
        by lost f g = lost_not ns g
        by (listed xs) f g =
            let x = among_listed xs (omega (arith, followed_most m head xs f, few)) in
            (λ h. in_turned xs (x.0 h), λ i. x.1 (turned_in xs i))

    -- by its part: the node is set aside by it, and is on its waker's list, exactly if the trace says so
    pub told : good_count m.count ≡ true → (part : Part) (ns : List NodeNumber)
        → held_by m part ≡ listed ns → Tests (is_aside part n) (In n (aside_by m part)) × Wakes part
    told good Apart ns e = (no_list, no_list)
    told good Contending ns e = (no_list, no_list)
    told good Waiting ns e = (no_list, no_list)
    told good (Owning _) ns e = (no_list, no_list)
    told good (SettingAside _ tail) ns e = (front tail false [] no_list, no_list)
    told good (Walking head) ns e = (no_list, walking good head ns e)
    told good (Reading who current) ns e = (no_list, reading who current ns e)
    told good (Completing who current prev) ns e = (no_list, completing who current prev ns e)
    told good Releasing ns e = (no_list, no_list)
