-- A queue is taken off whole: by its owner's compare to 17 or 0, or by a downgrade's to 17 on a queue that nobody
-- owns.
-- Assumes nothing.
use Rattle.std.specs.Prelude.{ℕ, suc, ◌+◌, ◌*◌, ◌≤◌, Bool, true, false, not, ◌≢◌, ◌⊎◌, ◌≡◌, refl}
use Rattle.std.proofs.Common.{inl, inr, ap, ◌∙◌, subst, arith}
use Rattle.word.specs.Base.{pick}
use Rattle.word.specs.Cases.{pick_both}
use Rattle.word.specs.Flags.{word, LOCKED, SINGLE, locked, queued, queue_locked, downgraded, to_node}
use Rattle.word.specs.Rules.{taken_of}
use Rattle.word.specs.declared.flags.Word.{Word}
use Rattle.word.specs.declared.number.NodeNumber.{NodeNumber}
use Rattle.state.specs.Holding.{reads_of, writes_of}
use Rattle.state.specs.declared.machine.Thread.{Thread}
use Rattle.state.specs.declared.place.Place.TheVariants.{TakeCas, WakePrev}
use Rattle.state.specs.declared.place.Who.{Who}
use Rattle.unlock.specs.UnlockQueue.{take_cas_of}
use Rattle.queue.specs.Tests.{never}
use Rattle.queue.specs.Tickets.{took, tickets_of, taken_by as taken}
use Rattle.queue.specs.Queue.{Full}
use Rattle.queue.specs.Roles.{head, filled, changes, HeadAt}
use Rattle.queue.specs.Invariant as Q
use Rattle.queue.proofs.Walking
use Rattle.queue.proofs.Taking
use Rattle.invariant.specs.Table.{hands_off, owning, about, about_at, links_of, Allowed, weight, same_role}
use Rattle.invariant.specs.Invariant.{readers, writers, leavers, Unqueued, empty, read, Newest, queue_of, Inv}
use Rattle.invariant.specs.Invariant.{HoldersAre}
use Rattle.invariant.proofs.Exclusion.{owned, is_queued, lonely, nobody_needs}
use Rattle.invariant.specs.Frames.{land, viewed_still, Recount}
use Rattle.invariant.specs.Moves.{takes_all_lem, take_fails}
use Rattle.invariant.specs.Kept.{kept_still, placed, Goes, Setting, mine, moved_to, kept_compare}
use Rattle.invariant.proofs.Owner.{again}
use Rattle.invariant.proofs.Split.{may_wake_lem}
use Rattle.invariant.specs.Words.{Plain, readers_word, counts_bare, plain_free}

-- ── the word is unqueued again, and the queue is thread t's ──

module _ (st : Setting) (w : Word) (x : Thread) (p : Plain w) where
  open st use {n, s, g, i, me, tin}

  pub record Takes : Type 0 where
    pub queue : Q.Inv (took g me.0) (Q.turned (queue_of s) me.0 (about x.place).role)
    pub registered : (about x.place).registered ≡ (about_at s me.0).registered
    pub owner : (about x.place).owner ≡ false
    pub owned : weight (queue_locked s.word) ≡ weight (about_at s me.0).owner
    pub may : Allowed (about x.place).may x.holding
    pub needs : (about x.place).needs_queue ≡ false
    pub needed : (u : ℕ) → u ≢ me.0 → (about_at s u).needs_queue ≡ true → ⊥
    pub count : Recount n s (mine st) x (Unqueued w)
    pub fits : (about x.place).ok ≡ true
    pub unfilled : filled (about x.place).role ≡ false
    pub asleep : (about x.place).asleep ≡ false

  pub takes_whole : Takes → Inv n (moved_to st w x) (took g me.0)
  takes_whole c = land i (took g me.0) me.0 w x s.nd (record {
    queue = viewed_still s me.0 x w c.registered c.queue;
    newest = λ e. never p.unqueued e;
    nobody = λ e. refl;
    handed = λ e. never p.unqueued e;
    bare = λ e. (p.unowned, p.plain);
    inside = tin;
    owner = rw (c.owner, p.unowned) (omega (arith, c.owned));
    may = c.may;
    count = λ r v l er ev el. counts_bare p (c.count r v l er ev el);
    needs = never c.needs;
    needs_all = λ u ne e. absurd (c.needed u ne e);
    plain = λ e. p.plain;
    plain_all = λ u ne e. p.plain;
    counted = λ r. never p.unqueued r.queue;
    calm = λ r. never p.unqueued r.queue;
    calm_all = λ r. never p.unqueued r.queue;
    fits = c.fits;
    clear = never c.unfilled;
    clears = λ u ne. i.clear u;
    token = never c.asleep;
    tokens = λ u ne. i.token u;
    seen_to = λ e. never p.unqueued e;
  })

-- ── the owner's ──

module _ (st : Setting) (who : Who) (seen : Word) (tail : NodeNumber)
    (here : (mine st).place ≡ TakeCas who seen tail) where
  open st use {n, s, g, i, me, tin}

  is : about_at s me.0 ≡ owning who seen (head changes (to_node seen).0 tail.0) (not (hands_off seen))
  is = ap about here

  hands_on : hands_off seen ≡ false
  hands_on = by (hands_off seen) (rw is at (i.fits me.0))
    where
      by : (b : Bool) → not b ≡ true → b ≡ false
      by true e = never refl e
      by false e = refl

  knows : HeadAt changes (tickets_of g) (taken g me.0) (links_of s.nd) (to_node seen).0 tail.0
  knows = rw is at (i.queue.know me.0)

  has_queue : queued s.word ≡ true
  has_queue = let f : Full (tickets_of g) (links_of s.nd) knows.h = knows.way in is_queued i (omega arith)

  -- thread t's holding and the leavers stay: what the word becomes is what holds already
  take_to : s.word ≡ seen → (w : Word) → Plain w → writers n s ≡ 0 → leavers n s ≡ 0
      → ((w.0 ≡ 0) × (readers n s ≡ 0)) ⊎ ((w.0 ≡ SINGLE * readers n s + LOCKED) × (1 ≤ readers n s))
      → Inv n (moved_to st w (placed (mine st) (WakePrev who tail))) (took g me.0)
  take_to same w p w0 l0 rs = takes_whole st w (placed (mine st) (WakePrev who tail)) p (record {
    queue =
        Taking.take i.queue me.0 v.ticket (same_role here)
        (lonely i me.0 (rw is refl) (rw is hands_on)) v.last (v.node ∙ ap (λ y. (to_node y).0) same);
    registered = rw is;
    owner = refl;
    owned = rw (owned i me.0 (rw is refl), is);
    may = may_wake_lem who (mine st).holding (rw is at (i.holding me.0));
    needs = refl;
    needed = λ u ne. nobody_needs i w0 l0 u;
    count = λ r v l er ev el. counts r v l er ev (rw is at el) rs;
    fits = refl;
    unfilled = refl;
    asleep = refl;
  })
    where
      v : Newest g s.word
      v = i.newest has_queue

      counts : (r v l : ℕ) → r + reads_of (mine st).holding ≡ readers n s + reads_of (mine st).holding
          → v + writes_of (mine st).holding ≡ writers n s + writes_of (mine st).holding → l + 0 ≡ leavers n s + 0
          → ((w.0 ≡ 0) × (readers n s ≡ 0)) ⊎ ((w.0 ≡ SINGLE * readers n s + LOCKED) × (1 ≤ readers n s))
          → Unqueued w r v l
      counts r v l er ev el (inl z) =
          empty z.0 (record { reads = omega arith; writes = omega arith; leaves = omega arith })
      counts r v l er ev el (inr z) =
          let e : r ≡ readers n s = omega arith in
          read (rw e z.0) (omega arith) (record { reads = refl; writes = omega arith; leaves = omega arith })

  takes : s.word ≡ seen
      → Inv n (moved_to st (taken_of s.word) (placed (mine st) (WakePrev who tail))) (took g me.0)
  takes same = pick_both (λ w. Inv n (moved_to st w (placed (mine st) (WakePrev who tail))) (took g me.0))
      (downgraded s.word) (word (SINGLE + LOCKED)) (word 0) handed free
    where
      -- DOWNGRADED: one reader holds
      handed : downgraded s.word ≡ true
          → Inv n (moved_to st (word (SINGLE + LOCKED)) (placed (mine st) (WakePrev who tail)))
          (took g me.0)
      handed d =
          let c : HoldersAre n s 1 0 0 = i.count.handed has_queue
          (i.handed has_queue d).1 d in
          take_to same (word (SINGLE + LOCKED)) (readers_word (word (SINGLE + LOCKED)) 1 refl).is c.writes
          c.leaves (inr (omega arith, omega arith))

      -- else, as it did not see hands off, nobody holds
      free : downgraded s.word ≡ false
          → Inv n (moved_to st (word 0) (placed (mine st) (WakePrev who tail))) (took g me.0)
      free d =
          let c : HoldersAre n s 0 0 0 = i.count.unlocked has_queue
          (unlocked (locked s.word) (downgraded s.word) (ap hands_off same ∙ hands_on) d) in
          take_to same (word 0) plain_free c.writes c.leaves
          (inl (refl, c.reads))
        where
          unlocked : (a d : Bool) → pick a (not d) false ≡ false → d ≡ false → a ≡ false
          unlocked false d e z = refl
          unlocked true true e z = never z refl
          unlocked true false e z = never e refl

  pub kept_take_cas : Goes st (suc me.0) (λ v. take_cas_of v who seen tail)
  kept_take_cas = kept_compare st (suc me.0) seen _ _
      (λ same. kept_still st (suc me.0) _ _ _ (takes_all_lem me g here _ (record { none = knows.footing; is = refl }))
      (subst (λ y. Inv n (moved_to st (taken_of y) (placed (mine st) (WakePrev who tail)))
      (took g me.0)) same (takes same)))
      (kept_still st (suc me.0) _ _ g (take_fails me g here _ _ _)
      (again st who seen _ _ is
      (Walking.leave i.queue me.0 refl (same_role here))))
