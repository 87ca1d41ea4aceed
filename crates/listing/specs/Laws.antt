-- What a listing is on any machine, and how many reads threads can have.
--     waiters_bad_count                8 on a bad thread count
--     waiters_unqueued                 empty if unqueued
--     waiters_most, waiters_within     it has at most as many nodes as the count, each in 1..count
--     waiters_first, waiters_linked    the first is the word's node, each other the one that the next of the node
--                                      before links to
--     waiters_others                   past its length its array has no node
--     followed_most                    from any node there are at most as many as the count
--     waiters_some, waiters_met        of a queued word: it has a node, and ends on the first tail that it met
--     waiters_refused                  refused, it is 8
--     reads_most                       n threads have at most n reads
-- Assumes nothing.
use Rattle.std.specs.Prelude.{ℕ, zero, suc, ◌+◌, ◌-◌, ◌≤◌, ◌<◌, true, false, List, [], ◌∷◌, ◌≡◌, refl, ltb, leb, eqb}
use Rattle.std.specs.Prelude.{length, get_or, take, replicate, Ok, Err}
use Rattle.std.proofs.Common.{sym, ap, ◌∙◌, subst, le_of_suc-le-suc, add-one, arith, ltb-false, leb-true, eqb-true}
use Rattle.std.proofs.Common.{get_or-append-add}
use Rattle.std.proofs.Math.ListN.{get_or-append}
use Rattle.std.proofs.lemmas.List.{get_or-take}
use Rattle.word.specs.Base.{pick}
use Rattle.word.specs.Cases.{pick_both, pick_second}
use Rattle.word.specs.Number.{node, none, is_none}
use Rattle.word.specs.Flags.{queued, to_node}
use Rattle.word.specs.declared.number.NodeNumber.{NodeNumber}
use Rattle.state.specs.Holding.{reads_of}
use Rattle.state.specs.Machine.{thread_limit, good_count, thread_at, blank_thread}
use Rattle.state.specs.declared.answer.Refusal.{Refusal}
use Rattle.state.specs.declared.answer.Refusal.TheVariants.{Damaged}
use Rattle.state.specs.declared.holding.Holding.{Holding}
use Rattle.state.specs.declared.holding.Holding.TheVariants.{Nothing, Read, Write}
use Rattle.state.specs.declared.machine.Machine.{Machine}
use Rattle.listing.specs.Listing.{Listed, lost, listed, prepend, within, node_by, link_of, stand, to_tail, to_set}
use Rattle.listing.specs.Listing.{followed_of, listed_of, padded, array_of, waiters_by, waiters_of}
use Rattle.listing.specs.ReaderCount.{reads_below}
use Rattle.listing.specs.declared.listing.Waiters.{Waiters}

-- a number that passes for one in 1..most is one
pub in_range : (n most : ℕ) → pick (ltb n 1) false (leb n most) ≡ true → (1 ≤ n) × (n ≤ most)
in_range n most e =
    let never : false ≡ true → ⊥ = λ h. cc in
    let both = pick_second (ltb n 1) false (leb n most) true never e in
    (ltb-false n 1 both.0, leb-true n most both.1)

-- a machine has no more threads than the limit
pub few_threads : (count : ℕ) → good_count count ≡ true → count ≤ thread_limit
few_threads count good = (in_range count thread_limit good).1

-- at most `left` nodes of the machine: `at`, and then each the one that the next of the node before links to
data Trail (m : Machine) : ℕ → NodeNumber → List NodeNumber → Type 0 where
  end : {left : ℕ} {at : NodeNumber} → Trail m left at []
  step : {left : ℕ} {at : NodeNumber} {ns : List NodeNumber}
      → within m.count at ≡ true
      → Trail m left (link_of m at) ns
      → Trail m (suc left) at (at ∷ ns)

trail_most : {m : Machine} {left : ℕ} {at : NodeNumber} {ns : List NodeNumber} → Trail m left at ns → length ns ≤ left
trail_most end = omega arith
trail_most (step h t) = omega (arith, trail_most t)

trail_within : {m : Machine} {left : ℕ} {at : NodeNumber} {ns : List NodeNumber}
    → Trail m left at ns
    → (k : ℕ)
    → k < length ns
    → within m.count (get_or ns k none) ≡ true
trail_within end k b = absurd (omega arith)
trail_within (step h t) zero b = h
trail_within (step h t) (suc k) b = trail_within t k (le_of_suc-le-suc b)

trail_first : {m : Machine} {left : ℕ} {at : NodeNumber} {ns : List NodeNumber}
    → Trail m left at ns
    → 1 ≤ length ns
    → get_or ns 0 none ≡ at
trail_first end b = absurd (omega arith)
trail_first (step h t) b = refl

trail_linked : {m : Machine} {left : ℕ} {at : NodeNumber} {ns : List NodeNumber}
    → Trail m left at ns
    → (k : ℕ)
    → suc k < length ns
    → get_or ns (suc k) none ≡ link_of m (get_or ns k none)
trail_linked end k b = absurd (omega arith)
trail_linked (step h t) zero b = trail_first t (le_of_suc-le-suc b)
trail_linked (step h t) (suc k) b = trail_linked t k (le_of_suc-le-suc b)

-- of the first `most` nodes, `at` is the first whose tail is set, and the last is that tail
pub record Met (m : Machine) (nodes : List NodeNumber) (most : ℕ) : Type 0 where
  pub at : ℕ
  pub below : at < most
  pub before : (k : ℕ) → k < at → is_none (node_by m (get_or nodes k none)).tail ≡ true
  pub set : is_none (node_by m (get_or nodes at none)).tail ≡ false
  pub last : (node_by m (get_or nodes at none)).tail ≡ get_or nodes (most - 1) none

-- it holds of a listing's nodes, unless the listing is lost
abbrev Holds : (List NodeNumber → Type 0) → Listed → Type 0
Holds P lost = Unit
Holds P (listed ns) = P ns

module _ (P Q : List NodeNumber → Type 0) (m : Machine) (at : NodeNumber)
    (more : within m.count at ≡ true → (ns : List NodeNumber) → P ns → Q (at ∷ ns)) where
  prepended : (l : Listed) → within m.count at ≡ true → Holds P l → Holds Q (prepend at l)
  prepended lost inside p = tt
  prepended (listed ns) inside p = more inside ns p

  stood : (l : Listed) → Holds P l → Holds Q (stand m at l)
  stood l p = pick_both (Holds Q) (within m.count at) (prepend at l) lost (λ inside. prepended l inside p) (λ _. tt)

mapped : (P Q : List NodeNumber → Type 0)
    → ((ns : List NodeNumber) → P ns → Q ns)
    → (l : Listed)
    → Holds P l
    → Holds Q l
mapped P Q f lost p = tt
mapped P Q f (listed ns) p = f ns p

-- the walk to the tail: a trail from the next of the node that it starts from, whose last is the tail
tail_trail : (left : ℕ) (m : Machine) (tail at : NodeNumber)
    → Holds (Trail m left (link_of m at)) (to_tail left m tail at)
unfolding to_tail
tail_trail zero m tail at =
    pick_both (Holds (Trail m zero (link_of m at))) (eqb at.0 tail.0) (listed []) lost (λ _. end) (λ _. tt)
tail_trail (suc left) m tail at =
    let next : NodeNumber = link_of m at in
    let rest : Listed = to_tail left m tail next in
    pick_both (Holds (Trail m (suc left) next)) (eqb at.0 tail.0) (listed []) (stand m next rest)
    (λ _. end)
    (λ _. stood (Trail m left (link_of m next)) (Trail m (suc left) next) m next (λ inside ns. step inside) rest
    (tail_trail left m tail next))

-- the nodes after `at` end on the tail
abbrev Onto : NodeNumber → NodeNumber → List NodeNumber → Type 0
Onto tail at ns = get_or (at ∷ ns) (length ns) none ≡ tail

tail_onto : (left : ℕ) (m : Machine) (tail at : NodeNumber) → Holds (Onto tail at) (to_tail left m tail at)
unfolding to_tail
tail_onto zero m tail at =
    pick_both (Holds (Onto tail at)) (eqb at.0 tail.0) (listed []) lost
    (λ e. ap node (eqb-true at.0 tail.0 e))
    (λ _. tt)
tail_onto (suc left) m tail at =
    let next : NodeNumber = link_of m at in
    let rest : Listed = to_tail left m tail next in
    pick_both (Holds (Onto tail at)) (eqb at.0 tail.0) (listed []) (stand m next rest)
    (λ e. ap node (eqb-true at.0 tail.0 e))
    (λ _. stood (Onto tail next) (Onto tail at) m next (λ _ ns h. h) rest (tail_onto left m tail next))

-- following next: a trail from the node that it starts from, that ends on the first tail met
abbrev onward : ℕ → Machine → NodeNumber → Listed
onward left m at =
    pick (is_none (node_by m at).tail) (to_set left m (link_of m at)) (to_tail left m (node_by m at).tail at)

set_trail : (left : ℕ) (m : Machine) (at : NodeNumber) → Holds (Trail m left at) (to_set left m at)
unfolding to_set
set_trail zero m at = tt
set_trail (suc left) m at =
    let next : NodeNumber = link_of m at in
    let tail : NodeNumber = (node_by m at).tail in
    stood (Trail m left next) (Trail m (suc left) at) m at (λ inside ns. step inside) (onward left m at)
    (pick_both (Holds (Trail m left next)) (is_none tail) (to_set left m next) (to_tail left m tail at)
    (λ _. set_trail left m next)
    (λ _. tail_trail left m tail at))

-- following next lists at most as many nodes as the count
pub followed_most : (m : Machine) (head : NodeNumber) (ns : List NodeNumber)
    → followed_of m head ≡ listed ns
    → length ns ≤ m.count
followed_most m head ns e = trail_most (subst (Holds (Trail m m.count head)) e (set_trail m.count m head))

abbrev MetIn : Machine → List NodeNumber → Type 0
MetIn m ns = Met m ns (length ns)

met_later : (m : Machine) (at : NodeNumber) (ns : List NodeNumber)
    → is_none (node_by m at).tail ≡ true
    → MetIn m ns
    → MetIn m (at ∷ ns)
met_later m at ns none_set later =
    let shifted : suc (length ns - 1) ≡ suc (length ns) - 1 = omega arith in
    record {
      at = suc later.at;
      below = omega arith;
      before = before;
      set = later.set;
      last = later.last ∙ ap (λ k. get_or (at ∷ ns) k none) shifted;
    }
  where
    before : (k : ℕ) → k < suc later.at → is_none (node_by m (get_or (at ∷ ns) k none)).tail ≡ true
    before zero b = none_set
    before (suc k) b = later.before k (le_of_suc-le-suc b)

met_here : (m : Machine) (at : NodeNumber) (ns : List NodeNumber)
    → is_none (node_by m at).tail ≡ false
    → Onto (node_by m at).tail at ns
    → MetIn m (at ∷ ns)
met_here m at ns set onto =
    let last : length ns ≡ suc (length ns) - 1 = omega arith in
    record {
      at = zero;
      below = omega arith;
      before = λ k b. absurd (omega arith);
      set = set;
      last = sym onto ∙ ap (λ k. get_or (at ∷ ns) k none) last;
    }

set_met : (left : ℕ) (m : Machine) (at : NodeNumber) → Holds (MetIn m) (to_set left m at)
unfolding to_set
set_met zero m at = tt
set_met (suc left) m at =
    let next : NodeNumber = link_of m at in
    let tail : NodeNumber = (node_by m at).tail in
    let after : List NodeNumber → Type 0 = λ ns. MetIn m (at ∷ ns) in
    stood after (MetIn m) m at (λ _ ns met. met) (onward left m at)
    (pick_both (Holds after) (is_none tail) (to_set left m next) (to_tail left m tail at)
    (λ none_set. mapped (MetIn m) after (λ ns. met_later m at ns none_set) (to_set left m next) (set_met left m next))
    (λ set. mapped (Onto tail at) after (λ ns. met_here m at ns set) (to_tail left m tail at)
    (tail_onto left m tail at)))

-- below the length an array's elements are the listing's nodes, and past it none
pub kept_at : (ns : List NodeNumber) (k : ℕ) → k < length ns → get_or (padded ns) k none ≡ get_or ns k none
kept_at ns k b = get_or-append ns (replicate (thread_limit - length ns) none) none k b

blank_at : (n k : ℕ) → get_or (replicate n none) k none ≡ none
blank_at zero k = refl
blank_at (suc n) zero = refl
blank_at (suc n) (suc k) = blank_at n k

none_at : (ns : List NodeNumber) (k : ℕ) → length ns ≤ k → get_or (padded ns) k none ≡ none
none_at ns k b =
    let past : length ns + (k - length ns) ≡ k = omega arith in
    ap (λ i. get_or (padded ns) i none) (sym past)
    ∙ get_or-append-add ns (replicate (thread_limit - length ns) none) (k - length ns) none
    ∙ blank_at (thread_limit - length ns) (k - length ns)

met_padded : (m : Machine) (ns : List NodeNumber) → MetIn m ns → Met m (padded ns) (length ns)
met_padded m ns met =
    record {
      at = met.at;
      below = met.below;
      before = λ k b. rw (kept_at ns k (omega arith)) (met.before k b);
      set = rw (kept_at ns met.at met.below) met.set;
      last = rw (kept_at ns met.at met.below, kept_at ns (length ns - 1) (omega arith)) met.last;
    }

module _ (m : Machine) where
  abbrev FromWord : List NodeNumber → Type 0
  FromWord = Trail m m.count (to_node m.word)

  listed_trail : Holds FromWord (listed_of m)
  listed_trail =
      pick_both (Holds FromWord) (good_count m.count)
      (pick (queued m.word) (followed_of m (to_node m.word)) (listed [])) lost
      (λ _. pick_both (Holds FromWord) (queued m.word) (followed_of m (to_node m.word)) (listed [])
      (λ _. set_trail m.count m (to_node m.word))
      (λ _. end))
      (λ _. tt)

  listed_met : queued m.word ≡ true → Holds (MetIn m) (listed_of m)
  listed_met queue =
      pick_both (Holds (MetIn m)) (good_count m.count)
      (pick (queued m.word) (followed_of m (to_node m.word)) (listed [])) lost
      (λ _. rw queue (set_met m.count m (to_node m.word)))
      (λ _. tt)

  -- a listing is lost, or its nodes are a trail from the word's
  listed_cases : (P : Waiters → Type 0)
      → ((ns : List NodeNumber) → FromWord ns → P (array_of ns))
      → (w : Waiters)
      → waiters_of m ≡ Ok w
      → P w
  listed_cases P kept w = cases (listed_of m) listed_trail
    where
      cases : (l : Listed) → Holds FromWord l → waiters_by l ≡ Ok w → P w
      cases lost t e = absurd (cc)
      cases (listed ns) t e = let same : array_of ns ≡ w = cc in subst P same (kept ns t)

  -- 8 on a bad thread count, whatever the word
  pub waiters_bad_count : good_count m.count ≡ false → waiters_of m ≡ Err Damaged
  waiters_bad_count bad = simp bad

  -- empty if unqueued
  pub waiters_unqueued : good_count m.count ≡ true → queued m.word ≡ false → waiters_of m ≡ Ok (array_of [])
  waiters_unqueued good unqueued = simp (good, unqueued)

  -- refused, it is 8
  pub waiters_refused : (r : Refusal) → waiters_of m ≡ Err r → waiters_of m ≡ Err Damaged
  waiters_refused r = cases (listed_of m)
    where
      cases : (l : Listed) → waiters_by l ≡ Err r → waiters_by l ≡ Err Damaged
      cases lost e = refl
      cases (listed ns) e = absurd (cc)

  module _ (w : Waiters) (is : waiters_of m ≡ Ok w) where
    -- a listing has at most as many nodes as the count
    pub waiters_most : w.length ≤ m.count
    waiters_most = listed_cases (λ x. x.length ≤ m.count) (λ ns t. trail_most t) w is

    -- each in 1..count
    pub waiters_within : (k : ℕ) → k < w.length → within m.count (get_or w.nodes k none) ≡ true
    waiters_within k =
        listed_cases (λ x. k < x.length → within m.count (get_or x.nodes k none) ≡ true)
        (λ ns t b. rw (kept_at ns k b) (trail_within t k b)) w is

    -- the first is the newest waiter, which the word names
    pub waiters_first : 1 ≤ w.length → get_or w.nodes 0 none ≡ to_node m.word
    waiters_first =
        listed_cases (λ x. 1 ≤ x.length → get_or x.nodes 0 none ≡ to_node m.word)
        (λ ns t b. kept_at ns 0 b ∙ trail_first t b) w is

    -- each other is the node that the next of the one before links to
    pub waiters_linked : (k : ℕ)
        → suc k < w.length
        → get_or w.nodes (suc k) none ≡ link_of m (get_or w.nodes k none)
    waiters_linked k =
        listed_cases (λ x. suc k < x.length → get_or x.nodes (suc k) none ≡ link_of m (get_or x.nodes k none))
        (λ ns t b. kept_at ns (suc k) b ∙ trail_linked t k b ∙ ap (link_of m) (sym (kept_at ns k (omega arith)))) w is

    -- past its length its array has no node
    pub waiters_others : (k : ℕ) → w.length ≤ k → get_or w.nodes k none ≡ none
    waiters_others k =
        listed_cases (λ x. x.length ≤ k → get_or x.nodes k none ≡ none) (λ ns t. none_at ns k) w is

    -- of a queued word it ends on the first tail that it met
    pub waiters_met : queued m.word ≡ true → Met m w.nodes w.length
    waiters_met queue = cases (listed_of m) (listed_met queue) is
      where
        cases : (l : Listed) → Holds (MetIn m) l → waiters_by l ≡ Ok w → Met m w.nodes w.length
        cases lost met e = absurd (cc)
        cases (listed ns) met e =
            let same : array_of ns ≡ w = cc in subst (λ x. Met m x.nodes x.length) same (met_padded m ns met)

    -- and so has a node
    pub waiters_some : queued m.word ≡ true → 1 ≤ w.length
    waiters_some queue = omega (arith, (waiters_met queue).below)

pub reads_one : (h : Holding) → reads_of h ≤ 1
reads_one Nothing = omega arith
reads_one Read = omega arith
reads_one Write = omega arith

pub reads_more : (n : ℕ) (m : Machine) → reads_below (n + 1) m ≡ reads_below n m + reads_of (thread_at m n).holding
unfolding reads_below
reads_more n m = rw add-one

pub reads_none : (m : Machine) → 0 ≡ reads_below 0 m
unfolding reads_below
reads_none m = refl

-- n threads have at most n reads
pub reads_most : (n : ℕ) (m : Machine) → reads_below n m ≤ n
unfolding reads_below
reads_most zero m = omega arith
reads_most (suc n) m = omega (arith, reads_most n m, reads_one (thread_at m n).holding)

-- for the loop that counts those of the first n threads
pub reads_on : (n k : ℕ) (m : Machine) → k < n
    → reads_below k m + reads_of (get_or (take n m.threads) k blank_thread).holding ≡ reads_below (k + 1) m
reads_on n k m h = rw (get_or-take n m.threads k blank_thread h) (sym (reads_more k m))

pub ruleset reads_counted = (reads_none, reads_one, reads_on, reads_most)
