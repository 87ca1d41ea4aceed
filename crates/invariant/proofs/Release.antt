-- write_unlock and release: each place's rule keeps the invariant. Whoever turned QUEUE_LOCKED on with its release
-- begins to walk.
-- Assumes nothing.
use Rattle.std.specs.Prelude.{ℕ, ◌+◌, ◌≤◌, ◌<◌, Bool, true, false, ◌≢◌, ◌≡◌, refl, eqb}
use Rattle.std.proofs.Common.{ap, ◌∙◌, subst, arith, eqb-true}
use Rattle.std.proofs.lemmas.Bool.{eqb-false}
use Rattle.word.specs.Base.{pick}
use Rattle.word.specs.Cases.{pick_both}
use Rattle.word.specs.Flags.{word, LOCKED, QUEUED, QUEUE_LOCKED, DOWNGRADED, locked, queued, queue_locked, downgraded}
use Rattle.word.specs.Flags.{clear_locked, set_queue_locked, to_node}
use Rattle.word.specs.Laws.{set_has, set_keeps, set_node, clear_has, clear_keeps, clear_node}
use Rattle.word.specs.declared.flags.Word.{Word}
use Rattle.state.specs.Holding.{reads_of, writes_of, released_write}
use Rattle.state.specs.View.{end, walk_from, writes as writes_to}
use Rattle.state.specs.declared.answer.Answer.TheVariants.{Done}
use Rattle.state.specs.declared.machine.Thread.{Thread}
use Rattle.state.specs.declared.place.Place.TheVariants.{WalkTail, WriteUnlockCas, ReleaseCas}
use Rattle.state.specs.declared.place.Walk.TheVariants.{Queue}
use Rattle.state.specs.declared.place.Who.TheVariants.{Leaver}
use Rattle.release.specs.WriteUnlock.{write_unlock_cas_of}
use Rattle.release.specs.UnlockContended.{released_to, after_release, release_cas_of}
use Rattle.queue.specs.Tests.{never, not_false}
use Rattle.queue.specs.Sums.{sum_le}
use Rattle.queue.specs.Roles.{walk}
use Rattle.queue.specs.Invariant as Q
use Rattle.invariant.specs.Table.{hands_off, look_kind, off_queue, writes, not_read, about, Lock, about_at, Writes}
use Rattle.invariant.specs.Table.{leaver}
use Rattle.invariant.specs.Invariant.{readers, writers, leavers, Hold, empty, Real, Newest, queue_of, Inv}
use Rattle.invariant.proofs.Exclusion.{needs_some}
use Rattle.invariant.specs.Frames.{summed, land, viewed_still, same_newest}
use Rattle.invariant.specs.Kept.{look_at, Kept, Goes, Setting, mine, kept_stood, moved_to, kept_compare, became}
use Rattle.invariant.proofs.OffQueue.{off_queue_lem, RoleDown, role_down, goes_off_queue, Ended, ends_call}
use Rattle.invariant.proofs.CallEnds.{ended_bare}
use Rattle.invariant.proofs.OneHolder.{one_holder, one_holder_bare, one_holder_plain}
use Rattle.invariant.specs.Words.{word_is, plain_free}
use Rattle.invariant.proofs.OnQueue.{public_look, begun_at}

-- a thread that writes counts
pub writer_counts : (n : ℕ) (s : Lock) (t : ℕ) → t < n → Writes (s.th t).holding → 1 ≤ writers n s + leavers n s
writer_counts n s t l h = omega (arith, sum_le n (λ u. writes_of (s.th u).holding) t l, h.writes)

module _ (st : Setting) (k : ℕ) where
  open st use {n, s, g, i, me, tin}

  pub kept_write_unlock_cas : (mine st).place ≡ WriteUnlockCas → Goes st k (λ v. write_unlock_cas_of v)
  kept_write_unlock_cas here = pick_both (Kept st k) (eqb s.word.0 LOCKED) _ _
      (λ e. kept_stood st k here refl _ _ refl
      (ends_call st down (word 0) _ (released (eqb-true s.word.0 LOCKED e))))
      (λ e. kept_stood st k here refl _ _ refl
      (goes_off_queue st down (ReleaseCas s.word) (off_queue_lem _ _ _ _) holds.reads
      (λ _. has_queue (eqb-false s.word.0 LOCKED e)) (rw (is, holds.reads, holds.writes)) (rw is (never refl))))
    where
      is : about_at s me.0 ≡ off_queue writes false false false
      is = ap about here

      down : RoleDown s g me.0
      down = role_down i me.0 (rw is (off_queue_lem _ _ _ _))

      holds : Writes (mine st).holding
      holds = rw is at (i.holding me.0)

      some : 1 ≤ writers n s + leavers n s
      some = writer_counts n s me.0 tin holds

      has_queue : s.word.0 ≢ LOCKED → queued s.word ≡ true
      has_queue ne = not_false (queued s.word) (λ q. ne (one_holder_bare i some q).0)

      released : s.word.0 ≡ LOCKED → Ended st down (word 0) (released_write (mine st).holding)
      released e =
          ended_bare st down (word 0) (released_write (mine st).holding) q
          plain_free
          (λ r v l er ev el.
          empty refl (record {
            reads = omega (arith, holds, only);
            writes = omega (arith, holds, only);
            leaves = omega (arith, only);
          }))
        where
          q : queued s.word ≡ false
          q = ap queued (word_is s.word LOCKED e)

          only : (s.word.0 ≡ LOCKED) × (readers n s ≡ 0) × (writers n s ≡ 1) × (leavers n s ≡ 0)
          only = one_holder_bare i some q

  -- ── release ──

  module _ (seen : Word) (here : (mine st).place ≡ ReleaseCas seen) where
    is : about_at s me.0 ≡ off_queue not_read true true false
    is = ap about here

    down : RoleDown s g me.0
    down = role_down i me.0 (rw is (off_queue_lem _ _ _ _))

    has_queue : queued s.word ≡ true
    has_queue = i.needs me.0 (rw is refl)

    reads_not : reads_of (mine st).holding ≡ 0
    reads_not = rw is at (i.holding me.0)

    own : 1 ≤ writes_of (mine st).holding + leaver (mine st)
    own = needs_some i me.0 (rw is refl)

    some : 1 ≤ writers n s + leavers n s
    some =
        omega (
          arith,
          own,
          sum_le n (λ u. writes_of (s.th u).holding) me.0 tin,
          sum_le n (λ u. leaver (s.th u)) me.0 tin,
        )

    -- nobody holds then
    none_left : (r v l : ℕ) → r + reads_of (mine st).holding ≡ readers n s + 0
        → v + writes_of (mine st).holding ≡ writers n s + 0
        → l + leaver (mine st) ≡ leavers n s + 0 → Hold r v l 0 0 0
    none_left r v l er ev el = record {
      reads = omega (arith, one_holder i some, reads_not);
      writes = omega (arith, one_holder i some, own);
      leaves = omega (arith, one_holder i some, own);
    }

    -- the owner of the queue sees to it
    left_to_owner : queue_locked s.word ≡ true
        → Ended st down (clear_locked s.word) (released_write (mine st).holding)
    left_to_owner l = record {
      same_queue = clear_keeps LOCKED QUEUED refl s.word;
      same_owner = clear_keeps LOCKED QUEUE_LOCKED refl s.word;
      same_node = λ _. clear_node LOCKED refl s.word;
      handed = λ _ e. never plain e;
      bare = λ _. plain;
      plain = λ u ne e. plain;
      count = λ r v k er ev ek. record {
        bare = λ e. never e (clear_keeps LOCKED QUEUED refl s.word ∙ has_queue);
        unlocked = λ _ _. none_left r v k er ev ek;
        handed = λ _ e. never (clear_has LOCKED refl s.word) e;
        held = λ _ e. never (clear_has LOCKED refl s.word) e;
      };
      unreal = λ _ _ r e. omega (arith, one_holder i some, reads_not);
      seen_to = λ _ _ e. never e (clear_keeps LOCKED QUEUE_LOCKED refl s.word ∙ l);
    }
      where
        plain : downgraded (clear_locked s.word) ≡ false
        plain = clear_keeps LOCKED DOWNGRADED refl s.word ∙ one_holder_plain i some has_queue

    -- or the thread itself, as the new owner
    abbrev w : Word
    w = set_queue_locked (clear_locked s.word)

    abbrev next : Thread
    next = became (mine st) (WalkTail (Queue Leaver) w (to_node w)) (released_write (mine st).holding)

    module _ (ql : queue_locked s.word ≡ false) where
      still_queued : queued w ≡ true
      still_queued =
          set_keeps QUEUE_LOCKED QUEUED refl (clear_locked s.word) ∙ clear_keeps LOCKED QUEUED refl s.word
          ∙ has_queue

      unlocked : locked w ≡ false
      unlocked = set_keeps QUEUE_LOCKED LOCKED refl (clear_locked s.word) ∙ clear_has LOCKED refl s.word

      plain : downgraded w ≡ false
      plain =
          set_keeps QUEUE_LOCKED DOWNGRADED refl (clear_locked s.word)
          ∙ clear_keeps LOCKED DOWNGRADED refl s.word ∙ one_holder_plain i some has_queue

      newest : Newest g w
      newest =
          same_newest w (set_node QUEUE_LOCKED refl (clear_locked s.word) ∙ clear_node LOCKED refl s.word)
          (i.newest has_queue)

      begun : Q.Inv g (Q.turned (queue_of s) me.0 (walk (look_kind (hands_off w)) (to_node w).0 (to_node w).0))
      begun = begun_at s me.0 _ (look_kind (hands_off w)) (public_look (hands_off w)) newest down.role

      unreal : Real n (moved_to st w next) → ⊥
      unreal r =
          omega (
            arith,
            r.some,
            summed s me.0 next s.nd n tin (λ y. reads_of y.holding),
            one_holder i some,
            reads_not,
          )

      owns : Inv n (moved_to st w next) g
      owns = land i g me.0 w next s.nd (record {
        queue = viewed_still s me.0 next w (rw is) begun;
        newest = λ e. newest;
        nobody = λ e. never e still_queued;
        handed = λ _ e. never plain e;
        bare = λ e. never e still_queued;
        inside = tin;
        owner = rw (set_has QUEUE_LOCKED refl (clear_locked s.word), is, ql);
        may = record { reads = refl; writes = refl };
        count = λ r v l er ev el. record {
          bare = λ e. never e still_queued;
          unlocked = λ _ _. none_left r v l er ev (omega arith);
          handed = λ _ e. never unlocked e;
          held = λ _ e. never unlocked e;
        };
        needs = never refl;
        needs_all = λ u ne e. still_queued;
        plain = never refl;
        plain_all = λ u ne e. plain;
        counted = λ r. absurd (unreal r);
        calm = λ r. absurd (unreal r);
        calm_all = λ r. absurd (unreal r);
        fits = refl;
        clear = never refl;
        clears = λ u ne. i.clear u;
        token = never refl;
        tokens = λ u ne. i.token u;
        seen_to = λ _ _ e. never e (set_has QUEUE_LOCKED refl (clear_locked s.word));
      })

    succeeds : Kept st k
        (writes_to (look_at st k) (released_to s.word) (released_write (mine st).holding)
        (after_release s.word (released_to s.word)))
    succeeds = by (queue_locked s.word) refl
      where
        by : (l : Bool) → queue_locked s.word ≡ l
            → Kept st k (writes_to (look_at st k)
            (pick l (clear_locked s.word) (set_queue_locked (clear_locked s.word)))
            (released_write (mine st).holding)
            (pick l (end Done)
            (walk_from (Queue Leaver) (pick l (clear_locked s.word) (set_queue_locked (clear_locked s.word))))))
        by true e = kept_stood st k here refl _ _ refl (ends_call st down _ _ (left_to_owner e))
        by false e = kept_stood st k here refl _ _ refl (owns e)

  pub kept_release_cas : (seen : Word) → (mine st).place ≡ ReleaseCas seen → Goes st k (λ v. release_cas_of v seen)
  kept_release_cas seen here = kept_compare st k seen _ _
      (λ same. subst (λ x.
      Kept st k (writes_to (look_at st k) (released_to x) (released_write (mine st).holding)
      (after_release x (released_to x)))) same (succeeds seen here))
      (kept_stood st k here refl _ _ refl
      (goes_off_queue st (down seen here) (ReleaseCas s.word) (off_queue_lem _ _ _ _) (reads_not seen here)
      (λ _. has_queue seen here) (rw (is seen here)) (rw (is seen here) (never refl))))
