-- The compare that registers a node: the word gets it for its newest, the queue a ticket; whoever turned QUEUE_LOCKED
-- on begins to walk.
-- Assumes nothing.
use Rattle.std.specs.Prelude.{ℕ, suc, ◌+◌, ◌*◌, ◌≤◌, Bool, true, false, not, ◌≡◌, refl}
use Rattle.std.proofs.Common.{sym, ap, ◌∙◌, subst, arith}
use Rattle.word.specs.Base.{pick}
use Rattle.word.specs.Flags.{SINGLE, locked, queued, queue_locked, downgraded, to_node, without_flags}
use Rattle.word.specs.Laws.{registered_node, registered_queued, registered_locked, registered_downgraded}
use Rattle.word.specs.Laws.{registered_queue_locked}
use Rattle.word.specs.Rules.{registered_of}
use Rattle.word.specs.declared.flags.Word.{Word}
use Rattle.state.specs.Holding.{reads_of, writes_of}
use Rattle.state.specs.View.{at, walk_from, writes}
use Rattle.state.specs.declared.place.Who.TheVariants.{Waiter}
use Rattle.state.specs.declared.place.Walk.TheVariants.{Queue}
use Rattle.state.specs.declared.place.Place.{Place}
use Rattle.state.specs.declared.place.Place.TheVariants.{RegisterCas, CompletedLoad, WalkTail}
use Rattle.acquire.specs.LockContended.{after_register, register_cas_of}
use Rattle.queue.specs.Tests.{never, not_false}
use Rattle.queue.specs.Updates.{upd, upd_same, upd_other}
use Rattle.queue.specs.Tickets.{registered, taken_by}
use Rattle.queue.specs.Roles.{none, ready, walk, filled, ReadyAt}
use Rattle.queue.specs.Invariant as Q
use Rattle.queue.proofs.Registering
use Rattle.invariant.specs.Table.{hands_off, look_kind, About, filling, about, about_at, links_of, wait_of, role_of}
use Rattle.invariant.specs.Table.{Free, Allowed, weight, leaver}
use Rattle.invariant.specs.Invariant.{readers, writers, leavers, Unqueued, empty, written, read, Locked}
use Rattle.invariant.specs.Invariant.{by_writer, by_readers, Count, Real, Newest, queue_of, Inv, CountedAs}
use Rattle.invariant.specs.Invariant.{HoldersAre}
use Rattle.invariant.proofs.Exclusion.{unowned}
use Rattle.invariant.specs.Frames.{waits_as, view, summed, land}
use Rattle.invariant.specs.Moves.{registers_waits, registers_walks, unregistered}
use Rattle.invariant.specs.Kept.{look_at, Kept, kept_still, placed, Goes, Setting, mine, moved_to, kept_compare}
use Rattle.invariant.proofs.Contend.{Contends, kept_contend}
use Rattle.invariant.specs.Words.{word_is}
use Rattle.invariant.proofs.OnQueue.{public_look, begun_at}

-- where a registered thread goes on
pub record Joins (a : About) : Type 0 where
  pub registered : a.registered ≡ true
  pub reader : a.reader ≡ false
  pub asleep : a.asleep ≡ false
  pub unfilled : filled a.role ≡ false
  pub ok : a.ok ≡ true
  pub leaves : a.leaves ≡ false
  pub needs_queue : a.needs_queue ≡ false

module _ (st : Setting) (writer : Bool) (reloads : ℕ)
    (here : (mine st).place ≡ RegisterCas writer reloads st.s.word) where
  open st use {n, s, g, i, me, tin}

  abbrev w : Word
  w = registered_of s.word me

  told : about_at s me.0 ≡ filling s.word
  told = ap about here

  -- nobody queues on a free lock
  is_locked : queued s.word ≡ false → locked s.word ≡ true
  is_locked q = by (queued s.word) (locked s.word) q (rw told at (i.fits me.0))
    where
      by : (q l : Bool) → q ≡ false → pick q true l ≡ true → l ≡ true
      by true l e f = never e refl
      by false l e f = f

  role_is : (q : Bool) → queued s.word ≡ q → role_of s.th me.0 ≡ ready (not q) (without_flags s.word).0
  role_is q e = ap (λ a. a.role) told ∙ ap (λ b. ready (not b) (without_flags s.word).0) e

  open_node : (s.nd (suc me.0)).completed ≡ false
  open_node = i.clear me.0 (rw told refl)

  nothing : Free (mine st).holding
  nothing = rw told at (i.holding me.0)

  -- ── the queue's part ──

  joined : Q.Inv (registered g (suc me.0))
      (Q.moved (queue_of s) me.0 (links_of s.nd) (upd (wait_of s.th s.nd) (suc me.0) true) none)
  joined = by (queued s.word) refl
    where
      by : (q : Bool) → queued s.word ≡ q
          → Q.Inv (registered g (suc me.0))
          (Q.moved (queue_of s) me.0 (links_of s.nd) (upd (wait_of s.th s.nd) (suc me.0) true) none)
      by false e = Registering.register_first i.queue me.0 (role_is false e) (i.nobody e)
      by true e =
          let v : Newest g s.word = i.newest e in
          Registering.register_next i.queue me.0 v.ticket (role_is true e)
          v.last v.some (v.node ∙ omega arith)

  -- the node's ticket is the newest
  newest : Newest (registered g (suc me.0)) w
  newest = record {
    ticket = g.hi;
    last = refl;
    some = i.queue.parts.order;
    node = upd_same g.log g.hi (suc me.0)
        ∙ sym (ap (λ z. z.0) (registered_node s.word me) ∙ omega arith);
  }

  -- ── the lock's part ──

  -- the readers' count moves into the queue: the first node's next is it
  first_counts : queued s.word ≡ false → 1 ≤ readers n s → (s.nd (suc me.0)).next.0 ≡ SINGLE * readers n s
  first_counts q some = by (i.count.bare q)
    where
      own : ReadyAt (taken_by g me.0) (links_of s.nd) (suc me.0) true (without_flags s.word).0
      own = rw (role_is false q) at (i.queue.know me.0)

      by : CountedAs (Unqueued s.word) n s
          → (s.nd (suc me.0)).next.0 ≡ SINGLE * readers n s
      by (empty z h) = absurd (omega (arith, h.reads))
      by (written z h) = absurd (omega (arith, h.reads))
      by (read z r h) = own.nx ∙ omega arith

  counts : CountedAs (Count w) n s
  counts = record {
    bare = λ e. never e (registered_queued s.word me);
    unlocked = λ _ e. by_unlocked (queued s.word) refl (sym (registered_locked s.word me) ∙ e);
    handed =
        λ _ e d. by_handed (queued s.word) refl (sym (registered_locked s.word me) ∙ e)
        (sym (registered_downgraded s.word me) ∙ d);
    held =
        λ _ e d. by_held (queued s.word) refl (sym (registered_locked s.word me) ∙ e)
        (sym (registered_downgraded s.word me) ∙ d);
  }
    where
      by_unlocked : (q : Bool) → queued s.word ≡ q → locked s.word ≡ false
          → HoldersAre n s 0 0 0
      by_unlocked true q e = i.count.unlocked q e
      by_unlocked false q e = never e (is_locked q)

      by_handed : (q : Bool) → queued s.word ≡ q → locked s.word ≡ true → downgraded s.word ≡ true
          → HoldersAre n s 1 0 0
      by_handed true q e d = i.count.handed q e d
      by_handed false q e d = never (i.bare q).1 d

      of : CountedAs (Unqueued s.word) n s → locked s.word ≡ true
          → CountedAs Locked n s
      of (empty z h) l = never (ap locked (word_is s.word 0 z)) l
      of (written z h) l = by_writer h
      of (read z r h) l = by_readers r h

      by_held : (q : Bool) → queued s.word ≡ q → locked s.word ≡ true → downgraded s.word ≡ false
          → CountedAs Locked n s
      by_held true q e d = i.count.held q e d
      by_held false q e d = of (i.count.bare q) e

  module _ (p : Place) (j : Joins (about p))
      (free : Free (mine st).holding → Allowed (about p).may (mine st).holding)
      (owner : weight (about p).owner + weight (queue_locked s.word) ≡ weight (queued s.word))
      (saw : (about p).owner ≡ true → (about p).seen ≡ w)
      (queue : Q.Inv (registered g (suc me.0))
      (Q.moved (queue_of s) me.0 (links_of s.nd) (upd (wait_of s.th s.nd) (suc me.0) true)
      (about p).role)) where
    waits : wait_of (upd s.th me.0 (placed (mine st) p)) s.nd ≡ upd (wait_of s.th s.nd) (suc me.0) true
    waits = waits_as s me.0 (placed (mine st) p) s.nd (upd (wait_of s.th s.nd) (suc me.0) true)
        (sym (upd_other (wait_of s.th s.nd) (suc me.0) true 0 (λ z. omega arith)))
        (rw (j.registered, open_node, upd_same (wait_of s.th s.nd) (suc me.0) true))
        (λ u ne. sym (upd_other (wait_of s.th s.nd) (suc me.0) true (suc u) (λ z. ne (omega arith))))

    leaves_not : leaver (placed (mine st) p) ≡ 0
    leaves_not = rw j.leaves

    left_not : leaver (mine st) ≡ 0
    left_not = rw told

    same_readers : readers n (moved_to st w (placed (mine st) p)) ≡ readers n s
    same_readers = by (summed s me.0 (placed (mine st) p) s.nd n tin (λ y. reads_of y.holding))
      where
        by : {a b : ℕ} → a + reads_of (mine st).holding ≡ b + reads_of (mine st).holding → a ≡ b
        by e = omega arith

    back : queued s.word ≡ true → Real n (moved_to st w (placed (mine st) p)) → Real n s
    back q r = record {
      some = rw same_readers at r.some;
      queue = q;
      plain = sym (registered_downgraded s.word me) ∙ r.plain;
    }

    pub register : Inv n (moved_to st w (placed (mine st) p)) (registered g (suc me.0))
    register = land i (registered g (suc me.0)) me.0 w (placed (mine st) p) s.nd (record {
      queue =
          subst (λ z. Q.Inv (registered g (suc me.0)) z)
          (sym (view s me.0 (placed (mine st) p) s.nd w (links_of s.nd)
          (upd (wait_of s.th s.nd) (suc me.0) true) refl waits)) queue;
      newest = λ e. newest;
      nobody = λ e. never e (registered_queued s.word me);
      handed = λ e d. by_handed (queued s.word) refl (sym (registered_downgraded s.word me) ∙ d);
      bare = λ e. never e (registered_queued s.word me);
      inside = tin;
      owner = owner ∙ rw (told, registered_queue_locked s.word me) (omega arith);
      may = free nothing;
      count = λ r v l er ev el. same_count r v l er ev (rw (left_not, leaves_not) at el);
      needs = never j.needs_queue;
      needs_all = λ u ne e. registered_queued s.word me;
      plain = never j.reader;
      plain_all = λ u ne e. registered_downgraded s.word me ∙ i.plain u e;
      counted = λ r. rw same_readers (oldest_counts (queued s.word) refl r);
      calm = λ r e. rw (saw e) (seen_held r);
      calm_all = λ r u ne e. others (queued s.word) refl r u e;
      fits = j.ok;
      clear = never j.unfilled;
      clears = λ u ne. i.clear u;
      token = never j.asleep;
      tokens = λ u ne. i.token u;
      seen_to =
          λ _ e d. never (sym (registered_locked s.word me) ∙ e)
          (is_locked (sym (registered_queue_locked s.word me) ∙ d));
    })
      where
        by_handed : (q : Bool) → queued s.word ≡ q → downgraded s.word ≡ true
            → (queue_locked w ≡ true) × (locked w ≡ true)
        by_handed true q d =
            (registered_queue_locked s.word me ∙ q, registered_locked s.word me ∙ (i.handed q d).1)
        by_handed false q d = never (i.bare q).1 d

        same_count : (r v l : ℕ) → r + reads_of (mine st).holding ≡ readers n s + reads_of (mine st).holding
            → v + writes_of (mine st).holding ≡ writers n s + writes_of (mine st).holding → l + 0 ≡ leavers n s + 0
            → Count w r v l
        same_count r v l er ev el =
            let a : r ≡ readers n s = omega arith in
            let b : v ≡ writers n s = omega arith in
            let c : l ≡ leavers n s = omega arith in
            rw (a, b, c) counts

        oldest_counts : (q : Bool) → queued s.word ≡ q → Real n (moved_to st w (placed (mine st) p))
            → (s.nd (upd g.log g.hi (suc me.0) g.lo)).next.0 ≡ SINGLE * readers n s
        oldest_counts true q r =
            let v : Newest g s.word = i.newest q in
            ap (λ k. (s.nd k).next.0) (upd_other g.log g.hi (suc me.0) g.lo (λ e. omega arith))
            ∙ i.counted (back q r)
        oldest_counts false q r =
            ap (λ k. (s.nd (upd g.log g.hi (suc me.0) k)).next.0) (i.nobody q)
            ∙ ap (λ k. (s.nd k).next.0) (upd_same g.log g.hi (suc me.0))
            ∙ first_counts q (rw same_readers at r.some)

        seen_held : Real n (moved_to st w (placed (mine st) p)) → hands_off w ≡ true
        seen_held r =
            rw (
              not_false (locked w)
                  (λ e. omega (
                    arith,
                    r.some,
                    same_readers,
                    (counts.unlocked (registered_queued s.word me) e).reads,
                  )),
              r.plain,
            )

        others : (q : Bool) → queued s.word ≡ q → Real n (moved_to st w (placed (mine st) p)) → (u : ℕ)
            → (about_at s u).owner ≡ true → hands_off (about_at s u).seen ≡ true
        others true q r u e = i.calm (back q r) u e
        others false q r u e = never (unowned i (i.bare q).0 u) e

  -- on to wait, by a thread that does not own the queue
  pub register_waits : queued s.word ≡ queue_locked s.word
      → Inv n (moved_to st w (placed (mine st) (CompletedLoad writer))) (registered g (suc me.0))
  register_waits same =
      register (CompletedLoad writer)
      (record {
        registered = refl;
        reader = refl;
        asleep = refl;
        unfilled = refl;
        ok = refl;
        leaves = refl;
        needs_queue = refl;
      }) (λ h. h)
      (rw same (omega arith)) (never refl) joined

  -- or to walk, by the one that turned QUEUE_LOCKED on
  pub register_walks : queued s.word ≡ true → queue_locked s.word ≡ false
      → Inv n (moved_to st w (placed (mine st) (WalkTail (Queue (Waiter writer)) w (to_node w))))
      (registered g (suc me.0))
  register_walks q f =
      register (WalkTail (Queue (Waiter writer)) w (to_node w))
      (record {
        registered = refl;
        reader = refl;
        asleep = refl;
        unfilled = refl;
        ok = refl;
        leaves = refl;
        needs_queue = refl;
      }) (λ h. h) (rw (q, f))
      (λ _. refl) begun
    where
      begun : Q.Inv (registered g (suc me.0))
          (Q.moved (queue_of s) me.0 (links_of s.nd) (upd (wait_of s.th s.nd) (suc me.0) true)
          (walk (look_kind (hands_off w)) (to_node w).0 (to_node w).0))
      begun = begun_at s me.0 _ (look_kind (hands_off w)) (public_look (hands_off w)) newest joined

module _ (st : Setting) (writer : Bool) (reloads : ℕ) where
  open st use {s, g, i, me}

  -- a registration that failed leaves the node filled, and nobody's
  unready : (seen : Word) → (mine st).place ≡ RegisterCas writer reloads seen → Contends st
  unready seen here =
      let told : about_at s me.0 ≡ filling seen = ap about here in
      record {
        down = record {
          owner = rw told;
          registered = rw told;
          role = Registering.unready i.queue me.0 (ap (λ a. a.role) told);
        };
        free = rw told at (i.holding me.0);
        leaves = rw told;
        unmoved = unregistered me g here;
      }

  succeeds : (mine st).place ≡ RegisterCas writer reloads s.word
      → Kept st (suc me.0)
      (writes (look_at st (suc me.0)) (registered_of s.word me) (mine st).holding
      (after_register writer s.word (registered_of s.word me)))
  succeeds here = by (queued s.word) (queue_locked s.word) refl refl
    where
      by : (q l : Bool) → queued s.word ≡ q → queue_locked s.word ≡ l
          → Kept st (suc me.0)
          (writes (look_at st (suc me.0)) (registered_of s.word me) (mine st).holding
          (pick q (pick l (at (CompletedLoad writer))
          (walk_from (Queue (Waiter writer)) (registered_of s.word me))) (at (CompletedLoad writer))))
      by false l q e =
          kept_still st (suc me.0) _ _ _ (registers_waits me g here writer)
          (register_waits st writer reloads here (q ∙ sym (i.bare q).0))
      by true true q e =
          kept_still st (suc me.0) _ _ _ (registers_waits me g here writer)
          (register_waits st writer reloads here (q ∙ sym e))
      by true false q e =
          kept_still st (suc me.0) _ _ _ (registers_walks me g here _ _ _)
          (register_walks st writer reloads here q e)

  pub kept_register_cas : (seen : Word) → (mine st).place ≡ RegisterCas writer reloads seen
      → Goes st (suc me.0) (λ v. register_cas_of v writer reloads seen)
  kept_register_cas seen here = kept_compare st (suc me.0) seen _ _
      (λ same. by seen same here)
      (kept_contend st (unready seen here) writer reloads)
    where
      by : (seen : Word) → s.word ≡ seen → (mine st).place ≡ RegisterCas writer reloads seen
          → Kept st (suc me.0)
          (writes (look_at st (suc me.0)) (registered_of seen me) (mine st).holding
          (after_register writer seen (registered_of seen me)))
      by seen same =
          subst (λ x. (mine st).place ≡ RegisterCas writer reloads x
          → Kept st (suc me.0)
          (writes (look_at st (suc me.0)) (registered_of x me) (mine st).holding
          (after_register writer x (registered_of x me)))) same succeeds
