-- find_tail_and_add_backlinks: each place's rule keeps the invariant, whatever the walk is for.
-- Assumes nothing.
use Rattle.std.specs.Prelude.{ℕ, Bool, true, false, not, ◌⊎◌, ◌≡◌, refl}
use Rattle.std.proofs.Common.{inl, inr, sym, ap, ◌∙◌, eqb-true}
use Rattle.std.proofs.lemmas.Bool.{eqb-false}
use Rattle.word.specs.Cases.{pick_both}
use Rattle.word.specs.Flags.{locked, downgraded, to_node}
use Rattle.word.specs.Number.{is_none}
use Rattle.word.specs.declared.flags.Word.{Word}
use Rattle.word.specs.declared.number.NodeNumber.{NodeNumber}
use Rattle.state.specs.Node.{with_tail}
use Rattle.state.specs.declared.node.Node.{Node}
use Rattle.state.specs.declared.place.Place.{Place}
use Rattle.state.specs.declared.place.Place.TheVariants.{WalkTail, WalkNext, WalkPrev, WalkHead, QueueCas, SplitPrev}
use Rattle.state.specs.declared.place.Place.TheVariants.{TakeCas, WakePrev, Subtract}
use Rattle.state.specs.declared.place.Walk.{Walk}
use Rattle.state.specs.declared.place.Walk.TheVariants.{Queue, ReadUnlock, Downgrade}
use Rattle.state.specs.declared.place.Who.{Who}
use Rattle.state.specs.declared.place.Who.TheVariants.{Leaver}
use Rattle.state.specs.declared.view.Mark.{Mark}
use Rattle.state.specs.declared.view.Mark.TheVariants.{Missing, Reader, Writer}
use Rattle.walk.specs.FindTail.{walk_tail_of, walk_next_of, walk_prev_of}
use Rattle.unlock.specs.AfterWalk.{marked_by, walk_head_of}
use Rattle.queue.specs.Tests.{never}
use Rattle.queue.specs.Updates.{upd, upd_same}
use Rattle.queue.specs.Queue.{set_tl, Links}
use Rattle.queue.specs.Roles.{Role, none, head, on_queue, filled, looks, changes, alone}
use Rattle.queue.specs.Invariant as Q
use Rattle.queue.proofs.Walking
use Rattle.invariant.specs.Table.{hands_off, unheld, look_kind, walking, owning, about, about_at, links_of, role_of}
use Rattle.invariant.specs.Table.{same_role}
use Rattle.invariant.specs.Invariant.{Real, queue_of, Inv}
use Rattle.invariant.specs.TableFacts.{row_facts}
use Rattle.invariant.proofs.Exclusion.{on_queue_lem, quiet_owner, quiet_reader}
use Rattle.invariant.specs.Moves.{stood}
use Rattle.invariant.specs.Kept.{look_at, Kept, Goes, Setting, mine, gone_to, kept_stood}
use Rattle.invariant.proofs.OnQueue.{Alike, alike_walk, alike_own, unlinked, linked_tail, linked_prev}
use Rattle.invariant.proofs.OnQueue.{goes_on_queue, Linked}

module _ (st : Setting) where
  open st use {n, s, g, i, me}

  -- a walk goes on with the word that it saw
  walks_on : (k : Walk) (seen : Word) {r r' : Role} {q : Place} → (mine st).place ≡ q → about q ≡ walking k seen r
      → (p : Place) → about p ≡ walking k seen r' → filled r' ≡ false → {nd : ℕ → Node} {l : Links}
      → Linked s.nd nd l
      → Q.Inv g (Q.relinked (queue_of s) me.0 l (about p).role) → Inv n (gone_to st p nd) g
  walks_on k seen {r} {r'} here was p on f link = goes_on_queue st p alike link calm
    where
      is : about_at s me.0 ≡ walking k seen r
      is = ap about here ∙ was

      alike : Alike (about_at s me.0) (about p)
      alike = rw (is, on) (alike_walk k seen seen r r' f)

      calm : Real n s → (about p).owner ≡ true → hands_off (about p).seen ≡ true
      calm x e =
          ap hands_off (ap (λ a. a.seen) on ∙ sym (ap (λ a. a.seen) is)) ∙ i.calm x me.0 (sym alike.owner ∙ e)

  pub kept_walk_tail : (k : Walk) (seen : Word) (current : NodeNumber) → (mine st).place ≡ WalkTail k seen current
      → Goes st current.0 (λ v. walk_tail_of v k seen current)
  kept_walk_tail k seen current here = pick_both (Kept st current.0) (is_none (s.nd current.0).tail) _ _
      (λ e. kept_stood st current.0 here refl _ _ refl
      (walks_on k seen here refl (WalkNext k seen current) refl refl (unlinked s.nd)
      (Walking.load_none i.queue me.0 (same_role here) (eqb-true (s.nd current.0).tail.0 0 e))))
      (λ e. kept_stood st current.0 here refl _ _ refl
      (walks_on k seen here refl (WalkHead k seen (s.nd current.0).tail) refl refl (unlinked s.nd)
      (Walking.load_tail i.queue me.0 (same_role here) (eqb-false (s.nd current.0).tail.0 0 e))))

  pub kept_walk_next : (k : Walk) (seen : Word) (current : NodeNumber) → (mine st).place ≡ WalkNext k seen current
      → Goes st current.0 (λ v. walk_next_of v k seen current)
  kept_walk_next k seen current here =
      kept_stood st current.0 here refl _ _ refl
      (walks_on k seen here refl (WalkPrev k seen current (to_node (s.nd current.0).next)) refl refl
      (unlinked s.nd) (Walking.load_next i.queue me.0 (same_role here)))

  -- who walks on the queue is its owner or a contended reader: nobody else changes it
  quiet_walk : on_queue (role_of s.th me.0) ≡ true → Q.Quiet (queue_of s) me.0
  quiet_walk e = by ((row_facts (mine st).place).stands e)
    where
      by : ((about_at s me.0).owner ≡ true) ⊎ ((about_at s me.0).reader ≡ true) → Q.Quiet (queue_of s) me.0
      by (inl o) = quiet_owner i me.0 o
      by (inr r) = quiet_reader i me.0 r (on_queue_lem i me.0 e)

  pub kept_walk_prev : (k : Walk) (seen : Word) (current next : NodeNumber)
      → (mine st).place ≡ WalkPrev k seen current next
      → Goes st next.0 (λ v. walk_prev_of v k seen current next)
  kept_walk_prev k seen current next here = (
    g,
    walks_on k seen here refl (WalkTail k seen next) refl refl (linked_prev s.nd next.0 current)
        (Walking.store_prev i.queue me.0
        (same_role here) (λ e. quiet_walk (ap (λ p. on_queue (about p).role) here ∙ e))),
    stood me g here refl _ refl,
  )

  -- ── the store of the tail in the head, and what the walk was for ──

  module _ (seen : Word) (tail : NodeNumber) where
    abbrev nodes : ℕ → Node
    nodes = upd s.nd (to_node seen).0 (with_tail (s.nd (to_node seen).0) tail)

    module _ (who : Who) (here : (mine st).place ≡ WalkHead (Queue who) seen tail) where
      -- the owner goes on with the word that it saw
      owns : (p : Place) (r : Role) (ok : Bool) → about p ≡ owning who seen r ok → filled r ≡ false → ok ≡ true
          → Q.Inv g (Q.relinked (queue_of s) me.0 (set_tl (links_of s.nd) (to_node seen).0 tail.0) r)
          → Inv n (gone_to st p nodes) g
      owns p r ok on f e q =
          goes_on_queue st p (rw (is, on) (alike_own who seen seen _ r true ok f e))
          (linked_tail s.nd (to_node seen).0 tail)
          (λ x _. ap hands_off (ap (λ a. a.seen) on) ∙ (rw is at (i.calm x me.0)) refl) (rw on q)
        where
          is : about_at s me.0 ≡ owning who seen (head (look_kind (hands_off seen)) (to_node seen).0 tail.0) true
          is = ap about here

      role_is : (b : Bool) → hands_off seen ≡ b → role_of s.th me.0 ≡ head (look_kind b) (to_node seen).0 tail.0
      role_is b e = same_role here ∙ ap (λ c. head (look_kind c) (to_node seen).0 tail.0) e

      -- hands off: it leaves the queue as it is
      leaves : hands_off seen ≡ true → Inv n (gone_to st (QueueCas who seen) nodes) g
      leaves e = owns (QueueCas who seen) none (hands_off seen) refl refl e
          (rw Q.moved_twice at (Walking.leave
          (Walking.store_tail i.queue me.0 refl (role_is true e)) me.0 refl
          (upd_same (role_of s.th) me.0 (head looks (to_node seen).0 tail.0))))

      -- else it takes something off
      changing : hands_off seen ≡ false → (p : Place) (ok : Bool)
          → about p ≡ owning who seen (head changes (to_node seen).0 tail.0) ok → ok ≡ true
          → Inv n (gone_to st p nodes) g
      changing e p ok on f =
          owns p (head changes (to_node seen).0 tail.0) ok on refl f
          (Walking.store_tail i.queue me.0 refl (role_is false e))

      marked : hands_off seen ≡ false → (downgraded seen ≡ false → unheld seen ≡ true) → (m : Mark) → (m ≡ Missing → ⊥)
          → Kept st (to_node seen).0
          (marked_by (look_at st (to_node seen).0) (with_tail (s.nd (to_node seen).0) tail) who seen tail m)
      marked e free Missing there = absurd (there refl)
      marked e free Reader there =
          (g, changing e (TakeCas who seen tail) (not (hands_off seen)) refl (rw e), stood me g here refl _ refl)
      marked e free Writer there = pick_both (Kept st (to_node seen).0) (downgraded seen) _ _
          (λ d. (g, changing e (TakeCas who seen tail) (not (hands_off seen)) refl (rw e), stood me g here refl _ refl))
          (λ d. (g, changing e (SplitPrev who seen tail) (unheld seen) refl (free d), stood me g here refl _ refl))

      pub kept_walk_head_queue : (st.mark ≡ Missing → ⊥)
          → Goes st (to_node seen).0 (λ v. walk_head_of v (Queue who) seen tail)
      kept_walk_head_queue there = pick_both (Kept st (to_node seen).0) (locked seen) _ _
          (λ l. pick_both (Kept st (to_node seen).0) (downgraded seen) _ _
          (λ d. marked (rw (l, d)) (λ z. never z d) st.mark there)
          (λ d. (g, leaves (rw (l, d)), stood me g here refl _ refl)))
          (λ l. marked (rw l) (λ z. rw (l, z)) st.mark there)

    pub kept_walk_head_reader : (mine st).place ≡ WalkHead ReadUnlock seen tail
        → Goes st (to_node seen).0 (λ v. walk_head_of v ReadUnlock seen tail)
    kept_walk_head_reader here = (
      g,
      walks_on ReadUnlock seen here refl (Subtract seen tail) refl refl (linked_tail s.nd (to_node seen).0 tail)
          (Walking.store_tail i.queue me.0 refl (same_role here)),
      stood me g here refl _ refl,
    )

    -- a downgrade's own queue is now its list, oldest first
    pub kept_walk_head_downgrade : (mine st).place ≡ WalkHead Downgrade seen tail
        → Goes st (to_node seen).0 (λ v. walk_head_of v Downgrade seen tail)
    kept_walk_head_downgrade here =
        let is : about_at s me.0 ≡ walking Downgrade seen (head alone (to_node seen).0 tail.0) = ap about here in (
          g,
          goes_on_queue st (WakePrev Leaver tail) (rw is turned) (linked_tail s.nd (to_node seen).0 tail)
              (λ x. never refl) (Walking.store_alone i.queue me.0 (same_role here)),
          stood me g here refl _ refl,
        )
      where
        turned : Alike (walking Downgrade seen (head alone (to_node seen).0 tail.0)) (about (WakePrev Leaver tail))
        turned = record {
          unfilled = refl;
          owner = refl;
          reader = refl;
          registered = refl;
          asleep = refl;
          may = λ h a. a.writes;
          ok = refl;
          leaves = refl;
          needs_queue = refl;
          contends = refl;
        }

  pub kept_walk_head : (k : Walk) (seen : Word) (tail : NodeNumber) → (mine st).place ≡ WalkHead k seen tail
      → (st.mark ≡ Missing → ⊥)
      → Goes st (to_node seen).0 (λ v. walk_head_of v k seen tail)
  kept_walk_head (Queue who) seen tail here there = kept_walk_head_queue seen tail who here there
  kept_walk_head ReadUnlock seen tail here there = kept_walk_head_reader seen tail here
  kept_walk_head Downgrade seen tail here there = kept_walk_head_downgrade seen tail here
