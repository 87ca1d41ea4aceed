-- The split of unlock_queue: load the tail's prev, store it in the head, compare, and restore the old head's tail.
-- Each place's rule keeps the invariant.
-- Assumes nothing.
use Rattle.std.specs.Prelude.{ℕ, suc, ◌<◌, Bool, true, false, not, ◌≡◌, refl}
use Rattle.std.proofs.Common.{sym, ap, ◌∙◌, subst, arith}
use Rattle.std.proofs.lemmas.Bool.{eqb-false}
use Rattle.word.specs.Base.{pick}
use Rattle.word.specs.Cases.{pick_both}
use Rattle.word.specs.Flags.{locked, downgraded, clear_queue_locked, to_node}
use Rattle.word.specs.Number.{none as no_node, is_none}
use Rattle.word.specs.declared.flags.Word.{Word}
use Rattle.word.specs.declared.number.NodeNumber.{NodeNumber}
use Rattle.state.specs.Node.{with_tail}
use Rattle.state.specs.declared.holding.Holding.{Holding}
use Rattle.state.specs.declared.node.Node.{Node}
use Rattle.state.specs.declared.place.Place.{Place}
use Rattle.state.specs.declared.place.Place.TheVariants.{WalkTail, SplitPrev, SplitStore, SplitCas, SplitRestore}
use Rattle.state.specs.declared.place.Place.TheVariants.{TakeCas, WakeStore}
use Rattle.state.specs.declared.place.Walk.TheVariants.{Queue}
use Rattle.state.specs.declared.place.Who.{Who}
use Rattle.state.specs.declared.place.Who.TheVariants.{Waiter, Leaver}
use Rattle.unlock.specs.UnlockQueue.{split_prev_of, split_store_of, split_cas_of, split_restore_of}
use Rattle.queue.specs.Tests.{never}
use Rattle.queue.specs.Updates.{upd, upd_same}
use Rattle.queue.specs.Tickets.{asided, restored, tickets_of, taken_by}
use Rattle.queue.specs.Queue.{set_tl}
use Rattle.queue.specs.Roles.{Role, walk, head, split, aside, undo, filled, changes, SplitAt, AsideAt, UndoAt}
use Rattle.queue.specs.Invariant as Q
use Rattle.queue.proofs.Steps as QueueSteps
use Rattle.queue.proofs.Walking
use Rattle.queue.proofs.Taking
use Rattle.invariant.specs.Table.{hands_off, unheld, look_kind, may_wake, owning, about, about_at, links_of, role_of}
use Rattle.invariant.specs.Table.{Free, Allowed, same_role}
use Rattle.invariant.specs.Invariant.{Real, Newest, queue_of, Inv}
use Rattle.invariant.proofs.Exclusion.{owned, is_queued, lonely}
use Rattle.invariant.specs.Frames.{glide}
use Rattle.invariant.specs.Moves.{sets_aside_lem, takes_tail_lem, split_fails, restores_tail}
use Rattle.invariant.specs.Kept.{Kept, kept_still, placed, Goes, Setting, mine, gone_to, kept_stood, moved_to}
use Rattle.invariant.specs.Kept.{kept_compare}
use Rattle.invariant.proofs.OnQueue.{Alike, alike_own, Linked, unlinked, linked_tail, seen_as, goes_on_queue}
use Rattle.invariant.proofs.Owner.{unown}
use Rattle.invariant.specs.TableFacts.{owns_nothing_waking}

-- who holds nothing may wake
pub may_wake_lem : (who : Who) (h : Holding) → Free h → Allowed (may_wake who) h
may_wake_lem (Waiter writer) h f = f
may_wake_lem Leaver h f = f.writes

-- neither LOCKED nor DOWNGRADED seen
unheld_flags : (a d : Bool) → pick a false (not d) ≡ true → (a ≡ false) × (d ≡ false)
unheld_flags true d e = never refl e
unheld_flags false true e = never refl e
unheld_flags false false e = (refl, refl)

module _ (st : Setting) (who : Who) (seen : Word) (tail : NodeNumber) where
  open st use {n, s, g, i, me, tin}

  -- the owner goes on with the word that it saw, and no link changes
  on_to : (r r' : Role) (ok ok' : Bool) → about_at s me.0 ≡ owning who seen r ok → (p : Place)
      → about p ≡ owning who seen r' ok'
      → filled r' ≡ false → ok' ≡ true → Q.Inv g (Q.turned (queue_of s) me.0 r')
      → Inv n (gone_to st p s.nd) g
  on_to r r' ok ok' is p on f e q =
      goes_on_queue st p (rw (is, on) (alike_own who seen seen r r' ok ok' f e)) (unlinked s.nd)
      (λ x _. ap hands_off (ap (λ a. a.seen) on) ∙ (rw is at (i.calm x me.0)) refl) (rw on q)

  pub kept_split_prev : (mine st).place ≡ SplitPrev who seen tail → Goes st tail.0 (λ v. split_prev_of v who seen tail)
  kept_split_prev here = pick_both (Kept st tail.0) (is_none (s.nd tail.0).prev) _ _
      (λ e. kept_stood st tail.0 here refl _ _ refl
      (on_to _ (head changes (to_node seen).0 tail.0) _ (not (hands_off seen)) is (TakeCas who seen tail) refl refl
      (rw flags.0)
      (QueueSteps.turn g (queue_of s) i.queue me.0 (head changes (to_node seen).0 tail.0)
      (rw is at (i.queue.know me.0)) (never refl))))
      (λ e. kept_stood st tail.0 here refl _ _ refl
      (on_to _ (split (to_node seen).0 tail.0 (s.nd tail.0).prev.0) _ (unheld seen) is
      (SplitStore who seen tail (s.nd tail.0).prev) refl refl (rw is at (i.fits me.0))
      (Taking.load_split i.queue me.0 (same_role here) (eqb-false (s.nd tail.0).prev.0 0 e))))
    where
      is : about_at s me.0 ≡ owning who seen (head changes (to_node seen).0 tail.0) (unheld seen)
      is = ap about here

      flags : (locked seen ≡ false) × (downgraded seen ≡ false)
      flags = unheld_flags (locked seen) (downgraded seen) (rw is at (i.fits me.0))

  -- ── the store: the oldest is set aside, and its ticket is the owner's ──

  -- what an owner that changes the queue finds
  module _ (r : Role) (is : about_at s me.0 ≡ owning who seen r (unheld seen)) where
    off : hands_off (about_at s me.0).seen ≡ false
    off = ap hands_off (ap (λ a. a.seen) is) ∙ by (locked seen) (downgraded seen) (rw is at (i.fits me.0))
      where
        by : (a d : Bool) → pick a false (not d) ≡ true → pick a (not d) false ≡ false
        by true d e = never refl e
        by false d e = refl

    unreal : Real n s → ⊥
    unreal x = never off (i.calm x me.0 (rw is refl))

    alone : Q.Lonely (queue_of s) me.0
    alone = lonely i me.0 (rw is refl) off

  pub kept_split_store : (prev : NodeNumber) → (mine st).place ≡ SplitStore who seen tail prev
      → Goes st (to_node seen).0 (λ v. split_store_of v who seen tail prev)
  kept_split_store prev here = (
    asided g me.0 (g.tk (to_node seen).0),
    glide i (asided g me.0 (g.tk (to_node seen).0)) me.0 (placed (mine st) (SplitCas who seen tail)) nd'
        (record {
          queue =
              seen_as st (SplitCas who seen tail) alike link (asided g me.0 (g.tk (to_node seen).0)) s.word
              (Taking.set_aside i.queue me.0 (same_role here) (alone _ is));
          newest =
              λ e. let y : Newest g s.word = i.newest e in
              record { ticket = y.ticket; last = y.last; some = omega (arith, two); node = y.node };
          nobody = λ e. absurd (omega (arith, i.nobody e, two));
          inside = tin;
          holding = refl;
          owner = rw is;
          leaving = rw is;
          may = rw is at (i.holding me.0);
          needs = never refl;
          plain = never refl;
          counted = λ r. absurd (unreal _ is r);
          calm = λ r. absurd (unreal _ is r);
          fits = alike.ok;
          clear = never refl;
          clears = λ u ne e. link.completed (suc u) ∙ i.clear u e;
          token = never refl;
          tokens = λ u ne e d. i.token u e (sym (link.completed (suc u)) ∙ d);
          seen_to = λ e. never e (owned i me.0 (rw is refl));
        }),
    sets_aside_lem me g here _
        (record {
          some = omega (arith, two);
          none = knows.it.footing;
          node = knows.it.ist;
          floor = g.tk (to_node seen).0;
          is = refl;
        }),
  )
    where
      is : about_at s me.0 ≡ owning who seen (split (to_node seen).0 tail.0 prev.0) (unheld seen)
      is = ap about here

      nd' : ℕ → Node
      nd' = upd s.nd (to_node seen).0 (with_tail (s.nd (to_node seen).0) prev)

      link : Linked s.nd (upd s.nd (to_node seen).0 (with_tail (s.nd (to_node seen).0) prev))
          (set_tl (links_of s.nd) (to_node seen).0 prev.0)
      link = linked_tail s.nd (to_node seen).0 prev

      alike : Alike (about_at s me.0) (about (SplitCas who seen tail))
      alike = rw is (alike_own who seen seen _ _ (unheld seen) (unheld seen) refl (rw is at (i.fits me.0)))

      knows : SplitAt (tickets_of g) (taken_by g me.0) (links_of s.nd) (to_node seen).0 tail.0 prev.0
      knows = rw is at (i.queue.know me.0)

      two : suc g.lo < g.hi
      two = omega (arith, knows.more, knows.it.way.top)

  -- ── the compare ──

  pub kept_split_cas : (mine st).place ≡ SplitCas who seen tail → Goes st (suc me.0) (λ v. split_cas_of v who seen tail)
  kept_split_cas here =
      kept_compare st (suc me.0) seen _ _
      (λ same. kept_still st (suc me.0) _ _ g
      (takes_tail_lem me g no_node here
      (record { one = omega (arith, knows.one, knows.end); node = knows.ist; is = refl }))
      (subst (λ x. Inv n (moved_to st (clear_queue_locked x) (placed (mine st) (WakeStore who tail no_node))) g) same
      (splits same))) (kept_still st (suc me.0) _ _ g (split_fails me g s.word here) fails_to)
    where
      is : about_at s me.0 ≡ owning who seen (aside (to_node seen).0 tail.0) (unheld seen)
      is = ap about here

      fit : unheld seen ≡ true
      fit = rw is at (i.fits me.0)

      knows : AsideAt (tickets_of g) (taken_by g me.0) (links_of s.nd) (to_node seen).0 tail.0
      knows = rw is at (i.queue.know me.0)

      splits : s.word ≡ seen
          → Inv n (moved_to st (clear_queue_locked s.word) (placed (mine st) (WakeStore who tail no_node))) g
      splits same = unown st who seen (aside (to_node seen).0 tail.0) (unheld seen) is (WakeStore who tail no_node)
          (owns_nothing_waking who _ refl (may_wake_lem who (mine st).holding (rw is at (i.holding me.0))))
          (ap downgraded same ∙ (unheld_flags (locked seen) (downgraded seen) fit).1)
          (Taking.commit i.queue me.0 (same_role here))
          (λ _. omega (arith, knows.one, knows.end))

      fails_to : Inv n (gone_to st (SplitRestore who seen tail s.word) s.nd) g
      fails_to =
          let v : Newest g s.word = i.newest (is_queued i (omega (arith, knows.base, knows.top))) in
          on_to _ (undo (to_node seen).0 tail.0 (to_node s.word).0) _ (unheld seen) is
          (SplitRestore who seen tail s.word) refl refl fit
          (Taking.fail i.queue me.0 v.ticket
          (same_role here) v.last v.node)

  -- ── the restore: the OLD head's tail, and the walk goes on from the reported word ──

  pub kept_split_restore : (reported : Word) → (mine st).place ≡ SplitRestore who seen tail reported
      → Goes st (to_node seen).0 (λ v. split_restore_of v who seen tail reported)
  kept_split_restore reported here = (
    restored g me.0 (g.taken me.0).beg,
    glide i (restored g me.0 (g.taken me.0).beg) me.0
        (placed (mine st) (WalkTail (Queue who) reported (to_node reported)))
        (upd s.nd (to_node seen).0 (with_tail (s.nd (to_node seen).0) tail)) (record {
          queue =
              seen_as st (WalkTail (Queue who) reported (to_node reported))
              (rw is (alike_own who seen reported _ _ (unheld seen) true refl refl)) link
              (restored g me.0 (g.taken me.0).beg) s.word (queue_on (hands_off reported));
          newest =
              λ e. let y : Newest g s.word = i.newest e in
              record { ticket = y.ticket; last = y.last; some = omega (arith, knows.it.one); node = y.node };
          nobody = λ e. absurd (omega (arith, i.nobody e, knows.it.base, knows.it.top));
          inside = tin;
          holding = refl;
          owner = rw is;
          leaving = rw is;
          may = rw is at (i.holding me.0);
          needs = never refl;
          plain = never refl;
          counted = λ r. absurd (unreal _ is r);
          calm = λ r. absurd (unreal _ is r);
          fits = refl;
          clear = never refl;
          clears = λ u ne e. link.completed (suc u) ∙ i.clear u e;
          token = never refl;
          tokens = λ u ne e d. i.token u e (sym (link.completed (suc u)) ∙ d);
          seen_to = λ e. never e (owned i me.0 (rw is refl));
        }),
    restores_tail me g here _ _ _ _
        (record { one = knows.it.one; end = knows.it.end; node = knows.it.ist; is = refl }),
  )
    where
      is : about_at s me.0 ≡ owning who seen (undo (to_node seen).0 tail.0 (to_node reported).0) (unheld seen)
      is = ap about here

      link : Linked s.nd (upd s.nd (to_node seen).0 (with_tail (s.nd (to_node seen).0) tail))
          (set_tl (links_of s.nd) (to_node seen).0 tail.0)
      link = linked_tail s.nd (to_node seen).0 tail

      knows : UndoAt (tickets_of g) (taken_by g me.0) (links_of s.nd) (to_node seen).0 tail.0 (to_node reported).0
      knows = rw is at (i.queue.know me.0)

      back : Q.Inv (restored g me.0 (g.taken me.0).beg)
          (Q.relinked (queue_of s) me.0 (set_tl (links_of s.nd) (to_node seen).0 tail.0)
          (walk changes (to_node reported).0 (to_node reported).0))
      back = Taking.restore i.queue me.0 (same_role here) (alone _ is)

      -- it changes the queue again, or only looks, as the reported word says
      queue_on : (k : Bool)
          → Q.Inv (restored g me.0 (g.taken me.0).beg)
          (Q.relinked (queue_of s) me.0 (set_tl (links_of s.nd) (to_node seen).0 tail.0)
          (walk (look_kind k) (to_node reported).0 (to_node reported).0))
      queue_on false = back
      queue_on true =
          rw Q.moved_twice
          at (Walking.ease back me.0
          (upd_same (role_of s.th) me.0 (walk changes (to_node reported).0 (to_node reported).0)))
