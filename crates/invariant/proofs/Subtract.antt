-- A contended reader subtracts: the count in the oldest waiter's next goes down by one and never below 0; the last
-- one goes on to release. The rule keeps the invariant.
-- Assumes nothing.
use Rattle.std.specs.Prelude.{ℕ, suc, ◌+◌, ◌-◌, ◌*◌, ◌≤◌, ◌<◌, true, ◌⊎◌, ◌≡◌, refl, ltb, eqb}
use Rattle.std.proofs.Common.{inl, inr, sym, ap, ◌∙◌, arith, ltb-true, eqb-true}
use Rattle.std.proofs.lemmas.Bool.{eqb-false}
use Rattle.word.specs.Cases.{pick_both}
use Rattle.word.specs.Flags.{word, SINGLE, locked, to_node}
use Rattle.word.specs.declared.flags.Word.{Word}
use Rattle.word.specs.declared.number.NodeNumber.{NodeNumber}
use Rattle.state.specs.Holding.{reads_of, released_read}
use Rattle.state.specs.Node.{with_next}
use Rattle.state.specs.View.{subtracts}
use Rattle.state.specs.declared.machine.Thread.{Thread}
use Rattle.state.specs.declared.node.Node.{Node}
use Rattle.state.specs.declared.place.Place.{Place}
use Rattle.state.specs.declared.place.Place.TheVariants.{Idle, Subtract, ReleaseCas}
use Rattle.state.specs.declared.place.Walk.TheVariants.{ReadUnlock}
use Rattle.release.specs.ReadUnlock.{subtract_of}
use Rattle.queue.specs.Tests.{never, not_false}
use Rattle.queue.specs.Updates.{upd, upd_same, upd_cases, map_upd, map_keep}
use Rattle.queue.specs.Tickets.{tickets_of, taken_by}
use Rattle.queue.specs.Queue.{set_nx}
use Rattle.queue.specs.Roles.{head, filled, looks, HeadAt}
use Rattle.queue.proofs.Walking
use Rattle.invariant.specs.Table.{walking, about, about_at, links_of, wait_of, Reads, Allowed, leaver}
use Rattle.invariant.specs.Invariant.{readers, writers, leavers, Locked, by_writer, by_readers, by_leaver, Real}
use Rattle.invariant.specs.Invariant.{Inv, CountedAs}
use Rattle.invariant.proofs.Exclusion.{real, quiet_reader}
use Rattle.invariant.specs.Frames.{moved, waits_as, summed, land, viewed}
use Rattle.invariant.specs.Moves.{stood}
use Rattle.invariant.specs.Kept.{look_at, Kept, Goes, Setting, mine, became}
use Rattle.invariant.proofs.OffQueue.{OffQueue, off_queue_lem}

links_next : (nd : ℕ → Node) (k : ℕ) (m : Word) → links_of (upd nd k (with_next (nd k) m)) ≡ set_nx (links_of nd) k m.0
links_next nd k m = λ i. record {
  nx = map_upd (λ y. y.next.0) nd k (with_next (nd k) m) i;
  pv = map_keep (λ y. y.prev.0) nd k (with_next (nd k) m) refl i;
  tl = map_keep (λ y. y.tail.0) nd k (with_next (nd k) m) refl i;
}

module _ (st : Setting) (seen : Word) (tail : NodeNumber) (here : (mine st).place ≡ Subtract seen tail) where
  open st use {n, s, g, i, me, tin}

  is : about_at s me.0 ≡ walking ReadUnlock seen (head looks (to_node seen).0 tail.0)
  is = ap about here

  knows : HeadAt looks (tickets_of g) (taken_by g me.0) (links_of s.nd) (to_node seen).0 tail.0
  knows = rw is at (i.queue.know me.0)

  some : g.lo < g.hi
  some = omega (arith, knows.way.base, knows.way.low, knows.way.top)

  is_reader : (about_at s me.0).reader ≡ true
  is_reader = rw is

  reading : Real n s
  reading = real i me.0 is_reader some

  holds : Reads (mine st).holding
  holds = rw is at (i.holding me.0)

  -- the oldest's next is the count
  enough : (s.nd tail.0).next.0 ≡ SINGLE * readers n s
  enough = ap (λ k. (s.nd k).next.0) (sym knows.ist) ∙ i.counted reading

  is_locked : locked s.word ≡ true
  is_locked =
      not_false (locked s.word) (λ e. omega (arith, reading.some, (i.count.unlocked reading.queue e).reads))

  -- only readers hold
  only : (writers n s ≡ 0) × (leavers n s ≡ 0)
  only = by (i.count.held reading.queue is_locked reading.plain)
    where
      by : CountedAs Locked n s → (writers n s ≡ 0) × (leavers n s ≡ 0)
      by (by_writer h) = absurd (omega (arith, reading.some, h.reads))
      by (by_readers r h) = (h.writes, h.leaves)
      by (by_leaver h) = absurd (omega (arith, reading.some, h.reads))

  abbrev less : Word
  less = word ((s.nd tail.0).next.0 - SINGLE)

  abbrev nodes : ℕ → Node
  nodes = upd s.nd tail.0 (with_next (s.nd tail.0) less)

  same : (k : ℕ) → (nodes k).completed ≡ (s.nd k).completed
  same =
      upd_cases (λ k y. y.completed ≡ (s.nd k).completed) s.nd tail.0 (with_next (s.nd tail.0) less) refl
      (λ k ne. refl)

  abbrev next : Place → Thread
  next p = became (mine st) p (released_read (mine st).holding)

  -- the last one leaves LOCKED to be cleared
  subtract : (p : Place) → OffQueue (about p) → Allowed (about p).may (released_read (mine st).holding)
      → ((1 ≤ readers n s - 1) × (leaver (next p) ≡ 0)) ⊎ ((readers n s ≡ 1) × (leaver (next p) ≡ 1))
      → Inv n (moved s me.0 s.word (next p) nodes) g
  subtract p o a last = land i g me.0 s.word (next p) nodes (record {
    queue =
        viewed s me.0 (next p) nodes s.word (set_nx (links_of s.nd) tail.0 less.0)
        (wait_of s.th s.nd) (links_next s.nd tail.0 less) waits
        (rw o.role
        (Walking.subtract i.queue me.0 less.0 (ap (λ z. z.role) is)
        (quiet_reader i me.0 is_reader some)));
    newest = i.newest;
    nobody = i.nobody;
    handed = i.handed;
    bare = i.bare;
    inside = tin;
    owner = rw (is, o.owner);
    may = a;
    count = λ r v l er ev el. record {
      bare = λ e. never e reading.queue;
      unlocked = λ _ e. never e is_locked;
      handed = λ _ _ d. never reading.plain d;
      held = λ _ _ _. counts r v l (omega (arith, holds)) (omega (arith, holds, only)) (omega (arith, only, left)) last;
    };
    needs = λ e. reading.queue;
    needs_all = λ u ne e. reading.queue;
    plain = λ e. reading.plain;
    plain_all = λ u ne e. reading.plain;
    counted =
        λ r. rw (knows.ist, upd_same s.nd tail.0 (with_next (s.nd tail.0) less))
        (omega (arith, enough, fewer_readers));
    calm = λ r. never o.owner;
    calm_all = λ r u ne. i.calm reading u;
    fits = o.ok;
    clear = never (ap filled o.role);
    clears = λ u ne e. same (suc u) ∙ i.clear u e;
    token = never o.asleep;
    tokens = λ u ne e d. i.token u e (sym (same (suc u)) ∙ d);
    seen_to = λ _ e _. never e is_locked;
  })
    where
      left : leaver (mine st) ≡ 0
      left = rw is

      waits : wait_of (upd s.th me.0 (next p)) nodes ≡ wait_of s.th s.nd
      waits =
          waits_as s me.0 (next p) nodes (wait_of s.th s.nd) refl (rw (o.registered, is))
          (λ u ne. rw (same (suc u)))

      fewer_readers : readers n (moved s me.0 s.word (next p) nodes) + 1 ≡ readers n s
      fewer_readers = omega (arith, summed s me.0 (next p) nodes n tin (λ y. reads_of y.holding), holds.reads)

      counts : (r v l : ℕ) → r + 1 ≡ readers n s → v ≡ 0 → l ≡ leaver (next p)
          → ((1 ≤ readers n s - 1) × (leaver (next p) ≡ 0)) ⊎ ((readers n s ≡ 1) × (leaver (next p) ≡ 1)) → Locked r v l
      counts r v l er ev el (inl z) =
          by_readers (omega arith) (record { reads = refl; writes = ev; leaves = omega arith })
      counts r v l er ev el (inr z) = by_leaver (record { reads = omega arith; writes = ev; leaves = omega arith })

  pub kept_subtract : Goes st tail.0 (λ v. subtract_of v seen tail)
  kept_subtract = pick_both (Kept st tail.0) (ltb (s.nd tail.0).next.0 SINGLE) _ _
      (λ e. omega (arith, reading.some, enough, ltb-true (s.nd tail.0).next.0 SINGLE e))
      (λ _. pick_both
      (λ x. Kept st tail.0
      (subtracts (look_at st tail.0) (with_next (s.nd tail.0) less) (released_read (mine st).holding) x))
      (eqb ((s.nd tail.0).next.0 - SINGLE) 0) _ _
      (λ e. (
        g,
        subtract (ReleaseCas seen) (off_queue_lem _ _ _ _) refl
            (inr (omega (arith, reading.some, enough, eqb-true ((s.nd tail.0).next.0 - SINGLE) 0 e), refl)),
        stood me g here refl _ refl,
      ))
      (λ e. (
        g,
        subtract Idle (off_queue_lem _ _ _ _) tt
            (inl (omega (arith, reading.some, enough, eqb-false ((s.nd tail.0).next.0 - SINGLE) 0 e), refl)),
        stood me g here refl _ refl,
      )))
