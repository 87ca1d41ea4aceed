-- unlock_queue after its walk, until something is taken off: the compare that clears QUEUE_LOCKED, the split and its
-- restore. Each place's rule keeps the invariant. Not here: the compare to 17 or 0 (Take).
-- Assumes nothing.
use Rattle.std.specs.Prelude.{ℕ, suc, ◌+◌, ◌<◌, Bool, true, false, not, ◌≡◌, refl}
use Rattle.std.proofs.Common.{sym, ap, ◌∙◌, subst, arith}
use Rattle.word.specs.Base.{pick}
use Rattle.word.specs.Flags.{LOCKED, QUEUED, QUEUE_LOCKED, DOWNGRADED, locked, queued, downgraded, clear_queue_locked}
use Rattle.word.specs.Flags.{to_node}
use Rattle.word.specs.Laws.{clear_has, clear_keeps, clear_node}
use Rattle.word.specs.declared.flags.Word.{Word}
use Rattle.state.specs.Holding.{reads_of, writes_of}
use Rattle.state.specs.View.{after_queue, writes}
use Rattle.state.specs.declared.place.Place.{Place}
use Rattle.state.specs.declared.place.Place.TheVariants.{Idle, CompletedLoad, WalkTail, QueueCas}
use Rattle.state.specs.declared.place.Walk.TheVariants.{Queue}
use Rattle.state.specs.declared.place.Who.{Who}
use Rattle.state.specs.declared.place.Who.TheVariants.{Waiter, Leaver}
use Rattle.unlock.specs.UnlockQueue.{queue_cas_of}
use Rattle.queue.specs.Tests.{never, not_false}
use Rattle.queue.specs.Roles.{Role, none, walk}
use Rattle.queue.specs.Invariant as Q
use Rattle.queue.proofs.Steps as QueueSteps
use Rattle.invariant.specs.Table.{hands_off, look_kind, waiter, owning, about, about_at, leaver}
use Rattle.invariant.specs.Invariant.{readers, writers, leavers, Count, Real, wakes, Newest, queue_of, Inv}
use Rattle.invariant.proofs.Exclusion.{owned, real_hands_off}
use Rattle.invariant.specs.Frames.{summed, land, viewed_still, same_newest}
use Rattle.invariant.specs.Moves.{is_aside}
use Rattle.invariant.specs.Kept.{look_at, Kept, placed, Goes, Setting, mine, gone_to, kept_stood, moved_to}
use Rattle.invariant.specs.Kept.{kept_compare}
use Rattle.invariant.proofs.OnQueue.{alike_own, unlinked, goes_on_queue, public_look, begun_at}
use Rattle.invariant.specs.TableFacts.{OwnsNothing, owns_nothing_waiting, owns_nothing_idle}

module _ (st : Setting) (who : Who) (seen : Word) where
  open st use {n, s, g, i, me, tin}

  -- an owner has a queue
  owner_queued : (about_at s me.0).owner ≡ true → queued s.word ≡ true
  owner_queued o = not_false (queued s.word) (λ e. never (i.bare e).0 (owned i me.0 o))

  -- it finds the tail again, from the word as it is
  module _ (r : Role) (ok : Bool) (is : about_at s me.0 ≡ owning who seen r ok) where
    pub again : Q.Inv g (Q.turned (queue_of s) me.0 none)
        → Inv n (gone_to st (WalkTail (Queue who) s.word (to_node s.word)) s.nd) g
    again down =
        goes_on_queue st (WalkTail (Queue who) s.word (to_node s.word))
        (rw is (alike_own who seen s.word r _ ok true refl refl)) (unlinked s.nd) (λ x _. real_hands_off i x)
        begun
      where
        v : Newest g s.word
        v = i.newest (owner_queued (rw is refl))

        begun : Q.Inv g
            (Q.turned (queue_of s) me.0
            (walk (look_kind (hands_off s.word)) (to_node s.word).0 (to_node s.word).0))
        begun = begun_at s me.0 _ (look_kind (hands_off s.word)) (public_look (hands_off s.word)) v down

    -- ── QUEUE_LOCKED is cleared ──

    module _ (p : Place) (l : OwnsNothing (about p) (mine st).holding (waiter who))
        (plain : downgraded s.word ≡ false) (queue : Q.Inv g (Q.turned (queue_of s) me.0 (about p).role))
        (sees : locked s.word ≡ false → (g.taken me.0).beg < (g.taken me.0).end) where
      abbrev w : Word
      w = clear_queue_locked s.word

      has_queue : queued s.word ≡ true
      has_queue = owner_queued (rw is refl)

      still_queued : queued w ≡ true
      still_queued = clear_keeps QUEUE_LOCKED QUEUED refl s.word ∙ has_queue

      same_locked : locked w ≡ locked s.word
      same_locked = clear_keeps QUEUE_LOCKED LOCKED refl s.word

      still_plain : downgraded w ≡ false
      still_plain = clear_keeps QUEUE_LOCKED DOWNGRADED refl s.word ∙ plain

      left : (leaver (mine st) ≡ 0) × (leaver (placed (mine st) p) ≡ 0)
      left = (rw is refl, rw l.leaves refl)

      same_readers : readers n (moved_to st w (placed (mine st) p)) ≡ readers n s
      same_readers = by (summed s me.0 (placed (mine st) p) s.nd n tin (λ y. reads_of y.holding))
        where
          by : {a b : ℕ} → a + reads_of (mine st).holding ≡ b + reads_of (mine st).holding → a ≡ b
          by e = omega arith

      back : Real n (moved_to st w (placed (mine st) p)) → Real n s
      back r = record { some = rw same_readers at r.some; queue = has_queue; plain = plain }

      pub unown : Inv n (moved_to st w (placed (mine st) p)) g
      unown = land i g me.0 w (placed (mine st) p) s.nd (record {
        queue = viewed_still s me.0 (placed (mine st) p) w (rw (l.registered, is)) queue;
        newest = λ e. same_newest w (clear_node QUEUE_LOCKED refl s.word) (i.newest has_queue);
        nobody = λ e. never e still_queued;
        handed = λ e d. never still_plain d;
        bare = λ e. never e still_queued;
        inside = tin;
        owner = rw (clear_has QUEUE_LOCKED refl s.word, l.owner, is, owned i me.0 (rw is refl));
        may = l.may;
        count = λ r v k er ev ek. counts r v k er ev (rw (left.0, left.1) at ek);
        needs = never l.needs_queue;
        needs_all = λ u ne e. still_queued;
        plain = never l.reader;
        plain_all = λ u ne e. still_plain;
        counted = λ r. rw same_readers (i.counted (back r));
        calm = λ r. never l.owner;
        calm_all = λ r u ne. i.calm (back r) u;
        fits = l.ok;
        clear = never l.unfilled;
        clears = λ u ne. i.clear u;
        token = never l.asleep;
        tokens = λ u ne. i.token u;
        seen_to = λ _ e _. (me.0, wakes (sees (sym same_locked ∙ e)));
      })
        where
          counts : (r v k : ℕ) → r + reads_of (mine st).holding ≡ readers n s + reads_of (mine st).holding
              → v + writes_of (mine st).holding ≡ writers n s + writes_of (mine st).holding
              → k + 0 ≡ leavers n s + 0 → Count w r v k
          counts r v k er ev ek =
              let a : r ≡ readers n s = omega arith in
              let b : v ≡ writers n s = omega arith in
              let c : k ≡ leavers n s = omega arith in
              rw (a, b, c) (record {
                bare = λ e. never e still_queued;
                unlocked = λ _ e. i.count.unlocked has_queue (sym same_locked ∙ e);
                handed = λ _ _ d. never still_plain d;
                held = λ _ e _. i.count.held has_queue (sym same_locked ∙ e) plain;
              })

  -- the owner puts its role down where it was none
  put_down : (about_at s me.0).role ≡ none → Q.Inv g (Q.turned (queue_of s) me.0 none)
  put_down e = QueueSteps.turn g (queue_of s) i.queue me.0 none (rw e at (i.queue.know me.0)) (never refl)

  -- what QueueCas has seen
  held_off : hands_off seen ≡ true → (locked seen ≡ true) × (downgraded seen ≡ false)
  held_off e = by (locked seen) (downgraded seen) e
    where
      by : (a d : Bool) → pick a (not d) false ≡ true → (a ≡ true) × (d ≡ false)
      by true false f = (refl, refl)
      by true true f = never refl f
      by false d f = never refl f

  pub kept_queue_cas : (mine st).place ≡ QueueCas who seen → Goes st (suc me.0) (λ v. queue_cas_of v who seen)
  kept_queue_cas here = kept_compare st (suc me.0) seen _ _
      (λ same. clears who refl same)
      (kept_stood st (suc me.0) here refl _ _ refl (again none (hands_off seen) is (put_down (rw is refl))))
    where
      is : about_at s me.0 ≡ owning who seen none (hands_off seen)
      is = ap about here

      flags : (locked seen ≡ true) × (downgraded seen ≡ false)
      flags = held_off (rw is at (i.fits me.0))

      ends : (o : Who) → o ≡ who → s.word ≡ seen
          → Inv n (moved_to st (clear_queue_locked s.word) (placed (mine st) (after_queue o).place)) g
      ends (Waiter writer) z same =
          unown none (hands_off seen) is (CompletedLoad writer)
          (owns_nothing_waiting (ap waiter z) (rw is at (i.holding me.0)))
          (ap downgraded same ∙ flags.1) (put_down (rw is refl)) (λ e. never e (ap locked same ∙ flags.0))
      ends Leaver z same =
          unown none (hands_off seen) is Idle (owns_nothing_idle (ap waiter z)) (ap downgraded same ∙ flags.1)
          (put_down (rw is refl)) (λ e. never e (ap locked same ∙ flags.0))

      near : (o : Who) → is_aside (after_queue o).place ≡ false
      near (Waiter writer) = refl
      near Leaver = refl

      clears : (o : Who) → o ≡ who → s.word ≡ seen
          → Kept st (suc me.0)
          (writes (look_at st (suc me.0)) (clear_queue_locked seen) (mine st).holding (after_queue o))
      clears o z same =
          kept_stood st (suc me.0) here refl _ _ (near o)
          (subst (λ x. Inv n (moved_to st (clear_queue_locked x) (placed (mine st) (after_queue o).place))
          g) same (ends o z same))
