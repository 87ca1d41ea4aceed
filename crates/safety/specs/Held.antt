-- The machine's lists are the tickets' intervals: the queue's, and each thread's. So none is ever lost.
-- Assumes nothing.
use Rattle.std.specs.Prelude.{ℕ, zero, suc, ◌-◌, ◌≤◌, ◌<◌, Bool, true, false, [], ◌∷◌, ◌⊎◌, ◌≡◌, refl, length}
use Rattle.std.proofs.Common.{inl, inr, sym, ap, ◌∙◌, arith}
use Rattle.std.proofs.Math.Decide.{dec_lt}
use Rattle.word.specs.Base.{pick}
use Rattle.word.specs.Cases.{pick_yes}
use Rattle.word.specs.Flags.{queued, to_node}
use Rattle.word.specs.declared.flags.Word.{Word}
use Rattle.word.specs.declared.number.NodeNumber.{NodeNumber}
use Rattle.state.specs.Machine.{good_count, thread_at}
use Rattle.state.specs.declared.machine.Machine.{Machine}
use Rattle.state.specs.declared.place.Walk.TheVariants.{Queue as ForQueue, ReadUnlock, Downgrade}
use Rattle.state.specs.declared.place.Place.{Place}
use Rattle.state.specs.declared.place.Place.TheVariants as At
use Rattle.listing.specs.Listing.{Listed, listed, prepend, followed_of, listed_of}
use Rattle.standing.specs.Part.{part_of}
use Rattle.queue.specs.Queue.{Interval, Live, Links, Queue, Walker as Walks, Full}
use Rattle.queue.specs.Tickets.{Ghost, Held, tickets_of as tickets_of, taken_by, live_queue, live_taken}
use Rattle.queue.specs.Roles.{Know, Ground, AsideAt, WakeAt, StoreAt}
use Rattle.invariant.specs.Table.{hands_off, look_kind, about, links_of, wait_of}
use Rattle.invariant.specs.Invariant.{Newest}
use Rattle.invariant.proofs.Exclusion.{inside}
use Rattle.invariant.proofs.Wake.{WaiterOf, waiter_of_lem}
use Rattle.invariant.specs.Bridge.{node_in, lock_of}
use Rattle.invariant.proofs.Events.{Sound}
use Rattle.safety.specs.Lists.{turned, queue_in, back_from, held_by}
use Rattle.safety.specs.Intervals.{up, down, length_up, reverse_down, node_is, lists_all, few_tickets}
use Rattle.safety.specs.Intervals.{Begins, goes_back}

module _ (m : Machine) (ok : Sound m) where
  abbrev g : Ghost
  g = ok.ghost

  abbrev links : Links
  links = links_of (node_in m.nodes)

  -- a ticket that somebody holds is of a node in range
  in_range : (o i : ℕ) → Held g (wait_of (thread_at m) (node_in m.nodes)) o i → g.log i ≤ m.count
  in_range o i h =
      let x : WaiterOf (lock_of m) (g.log i) = waiter_of_lem (lock_of m) (g.log i) h.waits in
      omega (arith, x.node, inside ok.inv x.thread (λ a. a.registered) refl x.registered)

  -- ── the queue ──

  live : Live (tickets_of g)
  live = live_queue ok.inv.queue.parts

  range : (i : ℕ) → g.lo ≤ i → i < g.hi → g.log i ≤ m.count
  range i a b = in_range 0 i (ok.inv.queue.parts.queued i a b)

  pub listing_is : listed_of m ≡ listed (down g.log g.lo (g.hi - g.lo))
  listing_is = sym (pick_yes (good_count m.count) _ _ _ ok.good refl) ∙ by (queued m.word) refl
    where
      by : (q : Bool)
          → queued m.word ≡ q
          → pick q (followed_of m (to_node m.word)) (listed []) ≡ listed (down g.log g.lo (g.hi - g.lo))
      by true e =
          let v : Newest g m.word = ok.inv.newest e in
          lists_all m (tickets_of g) live range ok.inv.queue.queue v.ticket v.last v.some
          (to_node m.word) (sym v.node)
      by false e = let z : g.hi - g.lo ≡ 0 = omega (arith, ok.inv.nobody e) in rw z

  pub queue_is : queue_in m ≡ listed (up g.log g.lo (g.hi - g.lo))
  queue_is = ap turned listing_is ∙ ap listed (reverse_down g.log g.lo (g.hi - g.lo))

  -- ── what thread t has taken off ──

  module _ (t : ℕ) where
    abbrev part : Interval
    part = taken_by g t

    mine_live : Live part
    mine_live = live_taken ok.inv.queue.parts t

    mine_range : (i : ℕ) → part.lo ≤ i → i < part.hi → g.log i ≤ m.count
    mine_range i a b = in_range (suc t) i (ok.inv.queue.parts.held t i a b).1

    abbrev Is : Listed → Type 0
    Is l = l ≡ listed (up g.log part.lo (part.hi - part.lo))

    is_none_lem : part.hi ≤ part.lo → Is (listed [])
    is_none_lem e = let z : part.hi - part.lo ≡ 0 = omega arith in rw z

    -- a walk on the queue has taken nothing
    is_looking : (b : Bool) → Ground (look_kind b) part links → Is (listed [])
    is_looking true e = is_none_lem e
    is_looking false e = is_none_lem e

    -- a downgrade's is over all that it took
    is_alone : (seen : Word) (h : ℕ) → part.lo ≤ h → suc h ≡ part.hi → g.log h ≡ (to_node seen).0
        → Queue part links → Is (turned (followed_of m (to_node seen)))
    is_alone seen h low last head q =
        ap turned (lists_all m part mine_live mine_range q h last low (to_node seen) (sym head))
        ∙ ap listed (reverse_down g.log part.lo (part.hi - part.lo))

    is_one : (tail : NodeNumber) (hd : ℕ) → AsideAt (tickets_of g) part links hd tail.0 → Is (listed (tail ∷ []))
    is_one tail hd w =
        let z : part.hi - part.lo ≡ 1 = omega (arith, w.one, w.end) in
        rw z (ap (λ x. listed (x ∷ [])) (node_is tail (g.log part.lo) (sym w.ist)))

    is_waking : (current : NodeNumber) → WakeAt part links current.0 → Is (back_from m.count m current)
    is_waking current w =
        goes_back m part mine_live mine_range part.lo (omega arith) w.mine (part.hi - part.lo) m.count
        part.lo current
        (few_tickets m part mine_live mine_range (omega (arith, w.some))) (omega arith) (omega (arith, w.some))
        (begins (part.hi - part.lo) (omega (arith, w.some)))
      where
        begins : (k : ℕ) → 0 < k → Begins m part mine_live mine_range k part.lo current
        begins zero l = absurd (omega arith)
        begins (suc k) l = sym w.isc

    is_storing : (current prev : NodeNumber)
        → StoreAt part links current.0 prev.0
        → Is (prepend current (back_from m.count m prev))
    is_storing current prev w =
        let size : part.hi - part.lo ≡ suc (part.hi - suc part.lo) = omega (arith, w.some) in
        ap (prepend current)
        (goes_back m part mine_live mine_range (suc part.lo) (omega arith) w.mine (part.hi - suc part.lo)
        m.count (suc part.lo) prev
        (omega (arith, few_tickets m part mine_live mine_range (omega (arith, w.some)))) (omega arith)
        (omega (arith, w.some)) (begins (part.hi - suc part.lo) refl w.rest))
        ∙ rw size
        (ap (λ x. listed (x ∷ up g.log (suc part.lo) (part.hi - suc part.lo)))
        (node_is current (g.log part.lo) (sym w.isc)))
      where
        begins : (k : ℕ) → part.hi - suc part.lo ≡ k
            → ((suc part.lo ≡ part.hi) × (prev.0 ≡ 0))
            ⊎ ((suc part.lo < part.hi) × (g.log (suc part.lo) ≡ prev.0))
            → Begins m part mine_live mine_range k (suc part.lo) prev
        begins zero e (inl z) = z.1
        begins zero e (inr z) = absurd (omega arith)
        begins (suc k) e (inl z) = absurd (omega arith)
        begins (suc k) e (inr z) = sym z.1

    held_at_lem : (p : Place) → Know (tickets_of g) part links t (about p).role → Is (held_by m (part_of p))
    held_at_lem At.Idle w = is_none_lem w
    held_at_lem (At.TryReadLoad _) w = is_none_lem w
    held_at_lem (At.TryReadCas _ _) w = is_none_lem w
    held_at_lem (At.TryWriteOr _) w = is_none_lem w
    held_at_lem (At.ContendLoad _ _) w = is_none_lem w
    held_at_lem (At.ContendCas _ _ _) w = is_none_lem w
    held_at_lem (At.RegisterCas _ _ _) w = is_none_lem w.empty
    held_at_lem (At.CompletedLoad _) w = is_none_lem w
    held_at_lem (At.Park _) w = is_none_lem w
    held_at_lem (At.WalkTail (ForQueue _) seen _) w = is_looking (hands_off seen) w.footing
    held_at_lem (At.WalkTail ReadUnlock seen _) w = is_none_lem w.footing
    held_at_lem (At.WalkTail Downgrade seen _) w =
        let y : Walks part links w.h w.c = w.way in
        is_alone seen w.h (omega arith) w.over w.ish w.footing
    held_at_lem (At.WalkNext (ForQueue _) seen _) w = is_looking (hands_off seen) w.footing
    held_at_lem (At.WalkNext ReadUnlock seen _) w = is_none_lem w.footing
    held_at_lem (At.WalkNext Downgrade seen _) w =
        let y : Walks part links w.h (suc w.d) = w.way in
        is_alone seen w.h (omega arith) w.over w.ish w.footing
    held_at_lem (At.WalkPrev (ForQueue _) seen _ _) w = is_looking (hands_off seen) w.past.footing
    held_at_lem (At.WalkPrev ReadUnlock seen _ _) w = is_none_lem w.past.footing
    held_at_lem (At.WalkPrev Downgrade seen _ _) w =
        let y : Walks part links w.past.h (suc w.past.d) = w.past.way in
        is_alone seen w.past.h (omega arith) w.past.over w.past.ish w.past.footing
    held_at_lem (At.WalkHead (ForQueue _) seen _) w = is_looking (hands_off seen) w.footing
    held_at_lem (At.WalkHead ReadUnlock seen _) w = is_none_lem w.footing
    held_at_lem (At.WalkHead Downgrade seen _) w =
        let y : Full part links w.h = w.way in is_alone seen w.h (omega arith) w.over w.ish w.footing
    held_at_lem (At.QueueCas _ _) w = is_none_lem w
    held_at_lem (At.SplitPrev _ _ _) w = is_none_lem w.footing
    held_at_lem (At.SplitStore _ _ _ _) w = is_none_lem w.it.footing
    held_at_lem (At.SplitCas _ _ tail) w = is_one tail _ w
    held_at_lem (At.SplitRestore _ _ tail _) w = is_one tail _ w.it
    held_at_lem (At.TakeCas _ _ _) w = is_none_lem w.footing
    held_at_lem (At.WakePrev _ current) w = is_waking current w
    held_at_lem (At.WakeStore _ current prev) w = is_storing current prev w
    held_at_lem At.ReadUnlockLoad w = is_none_lem w
    held_at_lem (At.ReadUnlockCas _) w = is_none_lem w
    held_at_lem (At.Subtract _ _) w = is_none_lem w.footing
    held_at_lem At.WriteUnlockCas w = is_none_lem w
    held_at_lem (At.ReleaseCas _) w = is_none_lem w
    held_at_lem At.DowngradeCas w = is_none_lem w
    held_at_lem (At.DowngradeSlowCas _) w = is_none_lem w

    pub held_is : held_by m (part_of (thread_at m t).place)
        ≡ listed (up g.log (g.taken t).beg ((g.taken t).end - (g.taken t).beg))
    held_is = held_at_lem (thread_at m t).place (ok.inv.queue.know t)

    -- no more of them than threads
    pub held_few : length (up g.log (g.taken t).beg ((g.taken t).end - (g.taken t).beg)) ≤ m.count
    held_few = rw (length_up g.log part.lo (part.hi - part.lo)) (by (dec_lt part.lo part.hi))
      where
        by : Dec (part.lo < part.hi) → part.hi - part.lo ≤ m.count
        by (yes l) = few_tickets m part mine_live mine_range (omega arith)
        by (no l) = omega arith
