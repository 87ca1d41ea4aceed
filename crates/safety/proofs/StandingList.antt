-- What the trace prints of a thread, on a machine that has the invariant, is the list that its node is on: the tests of
-- ListTests.antt, thread by thread. The statement: Statements.antt.
-- Assumes nothing.
use Prim.Native.Nat.{ℕ, zero, suc, ◌≤◌, ◌<◌}
use Rattle.std.specs.Prelude.{Bool, [], ◌≢◌, ◌⊎◌, ◌≡◌, ltb}
use Rattle.std.proofs.Math.Bool.{true, false}
use mathlib.Core.List.Memᴰ
use Rattle.std.proofs.Common.{inl, inr, sym, ap, ◌∙◌, arith, lt-ltb}
use Rattle.std.proofs.Math.Path.{refl, subst}
use Rattle.std.proofs.Math.Decide.{dec_lt}
use Rattle.word.specs.Base.{pick}
use Rattle.word.specs.Cases.{pick_yes}
use Rattle.word.specs.Number.{thread, node_of}
use Rattle.word.specs.declared.number.NodeNumber.{NodeNumber}
use Rattle.word.specs.declared.number.ThreadNumber.{ThreadNumber}
use Rattle.state.specs.Machine.{thread_limit, thread_at, node_at}
use Rattle.state.specs.declared.machine.Machine.{Machine}
use Rattle.state.specs.declared.place.Place.{Place}
use Rattle.state.specs.declared.place.Place.TheVariants.{Idle}
use Rattle.lock.specs.Laws.{good_count_lem}
use Rattle.listing.specs.Listing.{Listed, listed, waiters_by}
use Rattle.listing.specs.Laws.{waiters_most}
use Rattle.standing.specs.Part.{part_of, registered_of}
use Rattle.standing.specs.Look.{place_of as place_below, completed_of, among}
use Rattle.standing.specs.Stands.{aside_in as is_aside, in_list_of, held_by, held_below, in_queue_of, waiting_at}
use Rattle.standing.specs.Stands.{standing_of}
use Rattle.standing.specs.declared.part.Part.{Part}
use Rattle.standing.specs.declared.stands.Standing.{Standing}
use Rattle.standing.specs.declared.stands.Standing.TheVariants.{NotWaiting, Completed, InQueue, SetAside, InList}
use Rattle.standing.specs.declared.stands.Standing.TheVariants.{Nowhere}
use Rattle.queue.specs.Tests.{never}
use Rattle.queue.specs.Updates.{eq?}
use Rattle.invariant.proofs.Events.{Sound}
use Rattle.safety.specs.Lists.{aside_in, wakes_in}
use Rattle.safety.specs.ListTests.{Tests, among_listed, told}
use Rattle.safety.specs.Held.{listing_is, held_is}
use Rattle.safety.proofs.ListMoves.{held_list}
use Rattle.safety.proofs.Spots.{one_spot}
use Rattle.safety.specs.Statements.{Waiter, Spot, queue, aside, waker, In, At, OneSpot, Says, StandsSo}

module _ (m : Machine) (ok : Sound m) where
  abbrev part : ℕ → Part
  part u = part_of (thread_at m u).place

  few : m.count ≤ thread_limit
  few = (good_count_lem m.count ok.good).1

  -- below the limit the trace sees the thread's place
  place_is : (k : ℕ) → k < thread_limit → place_below m k ≡ (thread_at m k).place
  place_is k l =
      sym (pick_yes (ltb k thread_limit) (thread_at m k).place (thread_at m k).place Idle
      (lt-ltb k thread_limit l) refl)

  -- ── a node on the threads' lists ──

  module _ (n : NodeNumber) (some : n.0 ≢ 0) where
    lists_of : (u : ℕ)
        → Tests (is_aside (part u) n) (At m n (aside u)) × Tests (in_list_of m (part u) n) (At m n (waker u))
    lists_of u =
        told n some m few ok.good (part u) (held_list ok.ghost u) (held_is m ok u)

    abbrev NotOn : ℕ → Type 0
    NotOn u = (At m n (aside u) → ⊥) × (At m n (waker u) → ⊥)

    -- what a search of the first k threads says
    data Finds (k : ℕ) : Standing → Type 0 where
      set_aside : (u : ℕ) → At m n (aside u) → Finds k (SetAside (thread u))
      in_list : (u : ℕ) → At m n (waker u) → Finds k (InList (thread u))
      nowhere : ((u : ℕ) → u < k → NotOn u) → Finds k Nowhere

    one_more : (k : ℕ) (s : Standing) → NotOn k → Finds k s → Finds (suc k) s
    one_more k s no_k (set_aside u i) = set_aside u i
    one_more k s no_k (in_list u i) = in_list u i
    one_more k s no_k (nowhere f) = nowhere (λ u x. less u x (eq? u k))
      where
        less : (u : ℕ) → u < suc k → (u ≡ k) ⊎ (u ≢ k) → NotOn u
        less u x (inl e) = subst NotOn (sym e) no_k
        less u x (inr ne) = f u (omega (arith, x, ne))

    finds : (k : ℕ) → k ≤ thread_limit → Finds k (held_below k m n)
    unfolding held_below
    finds zero l = nowhere (λ u x. absurd (omega (arith, x)))
    finds (suc k) l =
        subst (λ p. Finds (suc k) (held_by m k (part_of p) n (held_below k m n))) (sym (place_is k (omega (arith, l))))
        (by (finds k (omega (arith, l))) (is_aside (part k) n) refl (in_list_of m (part k) n) refl)
      where
        by : Finds k (held_below k m n) → (a : Bool) → is_aside (part k) n ≡ a → (w : Bool)
            → in_list_of m (part k) n ≡ w
            → Finds (suc k) (pick a (SetAside (thread k)) (pick w (InList (thread k)) (held_below k m n)))
        by r true ea w ew = set_aside k ((lists_of k).0.0 ea)
        by r false ea true ew = in_list k ((lists_of k).1.0 ew)
        by r false ea false ew =
            one_more k (held_below k m n) (λ i. never ea ((lists_of k).0.1 i), λ i. never ew ((lists_of k).1.1 i)) r

  -- who has anything is a thread of the machine
  in_count : (n : NodeNumber) (u : ℕ) (f : Place → Listed) → f Idle ≡ listed []
      → In n (f (thread_at m u).place) → u < m.count
  in_count n u f none i = by (dec_lt u m.count)
    where
      by : Dec (u < m.count) → u < m.count
      by (yes k) = k
      by (no k) =
          absurd (Memᴰ.not-nil (subst (In n) (ap f (ok.inv.outside u (omega (arith, k))) ∙ none) i))

  -- ── a thread ──

  module _ (t : ThreadNumber) (below : t.0 < m.count) where
    abbrev n : NodeNumber
    n = node_of t

    some : n.0 ≢ 0
    some e = omega (arith, e)

    low : t.0 < thread_limit
    low = omega (arith, below, few)

    queue_tests : Tests (in_queue_of m n) (At m n queue)
    queue_tests =
        subst (λ l. Tests (among (waiters_by l) n) (In n l)) (sym (listing_is m ok))
        (among_listed n some _ (omega (arith, waiters_most m _ (ap waiters_by (listing_is m ok)), few)))

    waits : Waiter m t.0 → Says (pick (in_queue_of m n) InQueue (held_below m.count m n)) m t
    waits w = by (in_queue_of m n) refl
      where
        by : (b : Bool) → in_queue_of m n ≡ b → Says (pick b InQueue (held_below m.count m n)) m t
        by true e = (w, queue_tests.0 e)
        by false e = held (held_below m.count m n) (finds n some m.count few)
          where
            spot : OneSpot m n
            spot = one_spot m ok t.0 w

            held : (s : Standing) → Finds n some m.count s → Says s m t
            held s (set_aside u i) = (w, i)
            held s (in_list u i) = (w, i)
            held s (nowhere f) = lost_spot spot.spot spot.there
              where
                lost_spot : (x : Spot) → At m n x → ⊥
                lost_spot queue i = never e (queue_tests.1 i)
                lost_spot (aside u) i = (f u (in_count n u (aside_in m) refl i)).0 i
                lost_spot (waker u) i = (f u (in_count n u (wakes_in m) refl i)).1 i

    says : Says (standing_of m t) m t
    says =
        subst (λ p. Says (pick (registered_of (part_of p)) (waiting_at m (completed_of m t.0) n) NotWaiting) m t)
        (sym (place_is t.0 low)) (by (registered_of (part t.0)) refl)
      where
        completed_is : completed_of m t.0 ≡ (node_at m t.0).completed
        completed_is =
            sym (pick_yes (ltb t.0 thread_limit) (node_at m t.0).completed (node_at m t.0).completed false
            (lt-ltb t.0 thread_limit low) refl)

        registered : registered_of (part t.0) ≡ true → (c : Bool) → (node_at m t.0).completed ≡ c
            → Says (pick c Completed (pick (in_queue_of m n) InQueue (held_below m.count m n))) m t
        registered r true e = (r, e)
        registered r false e = waits (record { below = below; registered = r; uncompleted = e })

        by : (b : Bool) → registered_of (part t.0) ≡ b
            → Says (pick b (waiting_at m (completed_of m t.0) n) NotWaiting) m t
        by true e =
            subst (λ c. Says (waiting_at m c n) m t) (sym completed_is) (registered e (node_at m t.0).completed refl)
        by false e = e

  pub stands_so : StandsSo m
  stands_so t l = says t l
