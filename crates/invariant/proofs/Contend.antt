-- lock_contended until the node is registered: load and compare by the lock rule, reload, fill the node. Each place's
-- rule keeps the invariant. Not here: the compare that registers (Register).
-- Assumes nothing.
use Rattle.std.specs.Prelude.{ℕ, suc, ◌+◌, Bool, true, false, not, ◌≢◌, ◌≡◌, refl, ltb, Option, Some, None}
use Rattle.std.proofs.Common.{sym, ap, ◌∙◌, subst, arith}
use Rattle.word.specs.Base.{pick}
use Rattle.word.specs.Cases.{pick_both, pick_second}
use Rattle.word.specs.Flags.{word, locked, queued, set_locked, without_flags}
use Rattle.word.specs.Number.{none as no_node, node_of}
use Rattle.word.specs.declared.flags.Word.{Word}
use Rattle.word.specs.declared.number.ThreadNumber.{ThreadNumber}
use Rattle.state.specs.Holding.{granted_write}
use Rattle.state.specs.Node.{filled_of}
use Rattle.state.specs.View.{at, stays}
use Rattle.state.specs.declared.machine.Thread.{Thread}
use Rattle.state.specs.declared.node.Node.{Node}
use Rattle.state.specs.declared.place.Place.{Place}
use Rattle.state.specs.declared.place.Place.TheVariants.{Idle, ContendLoad, ContendCas, RegisterCas}
use Rattle.acquire.specs.LockContended.{spin_count, permitted_of, granted_of, fill_of, contend_by}
use Rattle.acquire.specs.LockContended.{contend_judged, contend_load_of, contend_cas_by, contend_cas_of}
use Rattle.lock.specs.Effect.{elsewhere, stand_of}
use Rattle.queue.specs.Tests.{never, impossible}
use Rattle.queue.specs.Updates.{upd, upd_same, upd_other, map_upd}
use Rattle.queue.specs.Tickets.{waiting_apart}
use Rattle.queue.specs.Roles.{none, ready}
use Rattle.queue.specs.Invariant as Q
use Rattle.queue.proofs.Registering
use Rattle.invariant.specs.Table.{off_queue, free, about, about_at, links_of, wait_of, role_of, Free, leaver}
use Rattle.invariant.specs.Invariant.{readers, writers, leavers, Unqueued, empty, written, read, Real, Newest}
use Rattle.invariant.specs.Invariant.{queue_of, Inv}
use Rattle.invariant.specs.Frames.{waits_as, stay, viewed}
use Rattle.invariant.specs.Moves.{is_aside, Went, moves_no_ticket, stood, contend_elsewhere}
use Rattle.invariant.specs.Kept.{look_at, Kept, kept_still, placed, Goes, Setting, mine, kept_stood, moved_to}
use Rattle.invariant.specs.Kept.{became, kept_compare}
use Rattle.invariant.proofs.OffQueue.{off_queue_lem, RoleDown, role_down, goes_off_queue, ends_call}
use Rattle.invariant.proofs.CallEnds.{ended_read, ended_written}
use Rattle.invariant.specs.Words.{word_is, readers_word}

-- the lock rule refuses an unqueued word of the lock only where LOCKED is set
refused_locked : (writer : Bool) (w : Word) (r v l : ℕ) → Unqueued w r v l → permitted_of writer w ≡ None
    → locked w ≡ true
refused_locked writer w r v l (empty z h) e =
    absurd (go writer (subst (λ x. permitted_of writer x ≡ None) (word_is w 0 z) e))
  where
    go : (writer : Bool) → permitted_of writer (word 0) ≡ None → ⊥
    go true e = impossible (cc)
    go false e = impossible (cc)
refused_locked writer w r v l (written z h) e = (readers_word w 0 z).locked
refused_locked writer w r v l (read z some h) e = (readers_word w r z).locked

-- a thread that contends, its role put down
pub record Contends (st : Setting) : Type 0 where
  pub down : RoleDown st.s st.g st.me.0
  pub free : Free (mine st).holding
  pub leaves : leaver (mine st) ≡ 0
  pub unmoved : (p : Place) → stand_of p ≡ elsewhere → is_aside p ≡ false
      → Went st.me (mine st).place st.g p st.g

-- the fill, to the links
fill_links_lem : (nd : ℕ → Node) (me : ThreadNumber) (writer : Bool) (w : Word)
    → links_of (upd nd (suc me.0) (filled_of me writer w))
    ≡ Q.fill_links (links_of nd) (suc me.0) (not (queued w)) (without_flags w).0
fill_links_lem nd me writer w = (λ j. record {
  nx = map_upd (λ y. y.next.0) nd (suc me.0) (filled_of me writer w) j;
  pv = map_upd (λ y. y.prev.0) nd (suc me.0) (filled_of me writer w) j;
  tl = map_upd (λ y. y.tail.0) nd (suc me.0) (filled_of me writer w) j;
}) ∙ ap (λ z. record {
  nx = upd (λ k. (nd k).next.0) (suc me.0) (without_flags w).0;
  pv = upd (λ k. (nd k).prev.0) (suc me.0) 0;
  tl = upd (λ k. (nd k).tail.0) (suc me.0) z;
}) (own (queued w))
  where
    own : (b : Bool) → (pick b no_node (node_of me)).0 ≡ pick (not b) (suc me.0) 0
    own true = refl
    own false = omega arith

module _ (st : Setting) (c : Contends st) where
  open st use {n, s, g, i, me, tin}

  unregistered : wait_of s.th s.nd (suc me.0) ≡ false
  unregistered = rw c.down.registered

  pub kept_fill : (writer : Bool) (reloads : ℕ) → pick (queued s.word) true (locked s.word) ≡ true
      → Kept st (suc me.0) (fill_of (look_at st (suc me.0)) writer reloads s.word)
  kept_fill writer reloads fits = (
    g,
    stay n s g me.0 x nd' i (record {
      queue =
          viewed s me.0 x nd' s.word
          (Q.fill_links (links_of s.nd) (suc me.0) (not (queued s.word)) (without_flags s.word).0)
          (wait_of s.th s.nd) (fill_links_lem s.nd me writer s.word) same filled;
      inside = tin;
      holding = refl;
      completed =
          λ u ne. ap (λ y. y.completed)
          (upd_other s.nd (suc me.0) (filled_of me writer s.word) (suc u) (λ z. ne (omega arith)));
      next =
          λ r. ap (λ y. y.next)
          (upd_other s.nd (suc me.0) (filled_of me writer s.word) (g.log g.lo) (off_own r));
      owner = sym c.down.owner;
      leaving = sym c.leaves;
      may = c.free;
      needs = never refl;
      plain = never refl;
      calm = λ r. never refl;
      fits = fits;
      clear = λ e. ap (λ y. y.completed) (upd_same s.nd (suc me.0) (filled_of me writer s.word));
      token = never refl;
      contending = λ e. refl;
      called = λ e. never c.down.registered e;
    }),
    c.unmoved (RegisterCas writer reloads s.word) (contend_elsewhere writer reloads s.word).2 refl,
  )
    where
      x : Thread
      x = placed (mine st) (RegisterCas writer reloads s.word)

      nd' : ℕ → Node
      nd' = upd s.nd (suc me.0) (filled_of me writer s.word)

      same : wait_of (upd s.th me.0 x) nd' ≡ wait_of s.th s.nd
      same =
          waits_as s me.0 x nd' (wait_of s.th s.nd) refl (sym unregistered)
          (λ u ne. ap (λ y. pick (about_at s u).registered (not y.completed) false)
          (upd_other s.nd (suc me.0) (filled_of me writer s.word) (suc u) (λ z. ne (omega arith))))

      filled : Q.Inv g
          (Q.relinked (queue_of s) me.0
          (Q.fill_links (links_of s.nd) (suc me.0) (not (queued s.word)) (without_flags s.word).0)
          (ready (not (queued s.word)) (without_flags s.word).0))
      filled =
          rw Q.moved_twice
          at (Registering.fill c.down.role me.0 (not (queued s.word)) (without_flags s.word).0
          (upd_same (role_of s.th) me.0 none) unregistered)

      -- the oldest waits, and the thread's own node does not
      off_own : Real n s → g.log g.lo ≢ suc me.0
      off_own r =
          let v : Newest g s.word = i.newest r.queue in
          waiting_apart i.queue.parts g.lo 0 (suc me.0)
          (i.queue.parts.queued g.lo (omega arith) (omega arith)) unregistered

  -- the lock rule grants
  pub kept_grant : (writer : Bool) (to : Word) → permitted_of writer s.word ≡ Some to
      → Inv n (moved_to st to (became (mine st) Idle (granted_of writer (mine st).holding))) g
  kept_grant true to e =
      let unlocked = pick_second (locked s.word) None (Some (set_locked s.word)) (Some to)
      (λ z. impossible (cc)) e in
      subst (λ w. Inv n
      (moved_to st w (became (mine st) Idle (granted_write (mine st).holding))) g)
      (cc unlocked.1)
      (ends_call st c.down (set_locked s.word) _
      (ended_written st c.down c.free c.leaves unlocked.0))
  kept_grant false to e = ends_call st c.down to _ (ended_read st c.down c.free c.leaves to e)

  module _ (writer : Bool) (reloads : ℕ) where
    on_to : (q : Place) → about q ≡ off_queue free false false true → stand_of q ≡ elsewhere → is_aside q ≡ false
        → Kept st (suc me.0) (stays (look_at st (suc me.0)) (at q))
    on_to q told away near =
        kept_still st (suc me.0) _ _ g (c.unmoved q away near)
        (goes_off_queue st c.down q (rw told (off_queue_lem _ _ _ _)) (rw told c.free)
        (rw told (never refl)) (rw told (sym c.leaves)) (λ _. rw told))

    pub kept_contend : Kept st (suc me.0) (contend_judged (look_at st (suc me.0)) writer reloads s.word)
    kept_contend = by (permitted_of writer s.word) refl
      where
        fill_bare : permitted_of writer s.word ≡ None → queued s.word ≡ false
            → Kept st (suc me.0) (fill_of (look_at st (suc me.0)) writer reloads s.word)
        fill_bare e q =
            kept_fill writer reloads
            (rw q (refused_locked writer s.word (readers n s) (writers n s) (leavers n s) (i.count.bare q) e))

        by : (r : Option Word) → permitted_of writer s.word ≡ r
            → Kept st (suc me.0) (contend_by (look_at st (suc me.0)) writer reloads s.word r)
        by (Some to) e =
            on_to (ContendCas writer reloads s.word) refl (contend_elsewhere writer reloads s.word).1 refl
        by None e = pick_both (Kept st (suc me.0)) (queued s.word) _ _
            (λ q. kept_fill writer reloads (rw q))
            (λ q. pick_both (Kept st (suc me.0)) (ltb reloads spin_count) _ _
            (λ _. on_to (ContendLoad writer (reloads + 1)) refl
            (contend_elsewhere writer (reloads + 1) s.word).0 refl) (λ _. fill_bare e q))

module _ (st : Setting) where
  open st use {s, g, i, me}

  contends_off : {p : Place} → (mine st).place ≡ p → about p ≡ off_queue free false false true
      → moves_no_ticket p ≡ true → Contends st
  contends_off here told unmoved =
      let e : about_at s me.0 ≡ off_queue free false false true = ap about here ∙ told in
      record {
        down = role_down i me.0 (rw e (off_queue_lem _ _ _ _));
        free = rw e at (i.holding me.0);
        leaves = rw e;
        unmoved = λ q _ near. stood me g here unmoved q near;
      }

  pub kept_contend_load : (writer : Bool) (reloads : ℕ) → (mine st).place ≡ ContendLoad writer reloads
      → Goes st (suc me.0) (λ v. contend_load_of v writer reloads)
  kept_contend_load writer reloads here = kept_contend st (contends_off here refl refl) writer reloads

  pub kept_contend_cas : (writer : Bool) (reloads : ℕ) (seen : Word) → (mine st).place ≡ ContendCas writer reloads seen
      → Goes st (suc me.0) (λ v. contend_cas_of v writer reloads seen)
  kept_contend_cas writer reloads seen here = kept_compare st (suc me.0) seen _ _
      (λ same. by (permitted_of writer seen) (ap (permitted_of writer) same))
      again
    where
      c : Contends st
      c = contends_off here refl refl

      again : Kept st (suc me.0) (contend_judged (look_at st (suc me.0)) writer reloads s.word)
      again = kept_contend st c writer reloads

      by : (r : Option Word) → permitted_of writer s.word ≡ r
          → Kept st (suc me.0) (contend_cas_by (look_at st (suc me.0)) writer reloads r)
      by (Some to) e = kept_stood st (suc me.0) here refl _ _ refl (kept_grant st c writer to e)
      by None e = again
