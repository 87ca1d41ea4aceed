-- downgrade: each place's rule keeps the invariant. On a queue that nobody owns the thread takes all of it and walks
-- it alone.
-- Assumes nothing.
use Rattle.std.specs.Prelude.{ℕ, ◌+◌, ◌≤◌, ◌<◌, Bool, true, false, ◌≢◌, ◌⊎◌, ◌≡◌, refl, eqb}
use Rattle.std.proofs.Common.{inl, inr, ap, ◌∙◌, subst, arith, eqb-true}
use Rattle.std.proofs.Math.Decide.{dec_lt}
use Rattle.std.proofs.lemmas.Bool.{eqb-false}
use Rattle.word.specs.Base.{pick}
use Rattle.word.specs.Cases.{pick_both}
use Rattle.word.specs.Flags.{word, LOCKED, QUEUED, QUEUE_LOCKED, DOWNGRADED, SINGLE, locked, queued, queue_locked}
use Rattle.word.specs.Flags.{downgraded, set_downgraded, to_node}
use Rattle.word.specs.Laws.{set_has, set_keeps, set_node}
use Rattle.word.specs.declared.flags.Word.{Word}
use Rattle.state.specs.Holding.{writes_of, downgraded_to}
use Rattle.state.specs.View.{end, walk_from, writes as writes_to}
use Rattle.state.specs.declared.answer.Answer.TheVariants.{Done}
use Rattle.state.specs.declared.machine.Thread.{Thread}
use Rattle.state.specs.declared.place.Place.TheVariants.{WalkTail, DowngradeCas, DowngradeSlowCas}
use Rattle.state.specs.declared.place.Walk.TheVariants.{Downgrade}
use Rattle.release.specs.Downgrade.{downgrade_cas_of, downgraded_word, after_downgrade, downgrade_slow_cas_of}
use Rattle.queue.specs.Tests.{never, not_true, not_false}
use Rattle.queue.specs.Sums.{sum_le, sum_two}
use Rattle.queue.specs.Tickets.{took}
use Rattle.queue.specs.Roles.{on_queue}
use Rattle.queue.specs.Invariant as Q
use Rattle.queue.proofs.Taking
use Rattle.invariant.specs.Table.{off_queue, writes, about, about_at, role_of, Writes, leaver}
use Rattle.invariant.specs.Invariant.{writers, leavers, read, Newest, queue_of, Inv, HoldersAre}
use Rattle.invariant.specs.TableFacts.{row_facts}
use Rattle.invariant.proofs.Exclusion.{inside, unowned, reading, needs_some}
use Rattle.invariant.specs.Moves.{downgrade_takes, downgrade_ends, downgrade_fails}
use Rattle.invariant.specs.Kept.{look_at, Kept, kept_still, Goes, Setting, mine, gone_to, kept_stood, moved_to}
use Rattle.invariant.specs.Kept.{kept_compare, became}
use Rattle.invariant.proofs.OffQueue.{off_queue_lem, RoleDown, role_down, goes_off_queue, Ended, ends_call}
use Rattle.invariant.proofs.CallEnds.{ended_bare}
use Rattle.invariant.proofs.Release.{writer_counts}
use Rattle.invariant.proofs.OneHolder.{one_holder, one_holder_bare, one_holder_locked}
use Rattle.invariant.proofs.Take.{takes_whole}
use Rattle.invariant.specs.Words.{word_is, readers_word}

-- a thread that downgrades, q: whether it needs the queue to stay
module _ (st : Setting) (needs_queue : Bool)
    (is : about (mine st).place ≡ off_queue writes false needs_queue false) where
  open st use {n, s, g, i, me, tin}

  down : RoleDown s g me.0
  down = role_down i me.0 (rw is (off_queue_lem _ _ _ _))

  holds : Writes (mine st).holding
  holds = rw is at (i.holding me.0)

  left : leaver (mine st) ≡ 0
  left = rw is

  counts : 1 ≤ writers n s
  counts = omega (arith, sum_le n (λ u. writes_of (s.th u).holding) me.0 tin, holds.writes)

  some : 1 ≤ writers n s + leavers n s
  some = writer_counts n s me.0 tin holds

  -- it is the only holder
  only : HoldersAre n s 0 1 0
  only = record {
    reads = (one_holder i some).0;
    writes = omega (arith, counts, (one_holder i some).1);
    leaves = omega (arith, counts, (one_holder i some).1);
  }

  unread : (u : ℕ) → (about_at s u).reader ≡ true → ⊥
  unread u e = omega (arith, reading i u e, only.reads)

  -- ── 1 to 17 ──

  plainly : s.word.0 ≡ LOCKED → Ended st down (word (SINGLE + LOCKED)) (downgraded_to (mine st).holding)
  plainly e =
      ended_bare st down (word (SINGLE + LOCKED)) (downgraded_to (mine st).holding)
      (ap queued (word_is s.word LOCKED e)) (readers_word (word (SINGLE + LOCKED)) 1 refl).is
      (λ r v l er ev el. let one : r ≡ 1 = omega (arith, holds, only) in
      read (rw one refl) (omega arith)
      (record { reads = refl; writes = omega (arith, holds, only); leaves = omega (arith, only) }))

  -- ── DOWNGRADED, for the owner of the queue to see ──

  handed_over : queued s.word ≡ true → queue_locked s.word ≡ true
      → Ended st down (set_downgraded s.word) (downgraded_to (mine st).holding)
  handed_over q l = record {
    same_queue = same_queue;
    same_owner = same_owner;
    same_node = λ _. set_node DOWNGRADED refl s.word;
    handed = λ _ _. (same_owner ∙ l, is_locked);
    bare = λ e. never e (same_queue ∙ q);
    plain = λ u ne e. absurd (unread u e);
    count = λ r v k er ev ek. record {
      bare = λ e. never e (same_queue ∙ q);
      unlocked = λ _ e. never e is_locked;
      handed =
          λ _ _ _. record {
            reads = omega (arith, holds, only);
            writes = omega (arith, holds, only);
            leaves = omega (arith, left, only);
          };
      held = λ _ _ d. never d is_downgraded;
    };
    unreal = λ _ d. never d is_downgraded;
    seen_to = λ _ e. never e is_locked;
  }
    where
      same_queue : queued (set_downgraded s.word) ≡ queued s.word
      same_queue = set_keeps DOWNGRADED QUEUED refl s.word

      same_owner : queue_locked (set_downgraded s.word) ≡ queue_locked s.word
      same_owner = set_keeps DOWNGRADED QUEUE_LOCKED refl s.word

      is_locked : locked (set_downgraded s.word) ≡ true
      is_locked = set_keeps DOWNGRADED LOCKED refl s.word ∙ one_holder_locked i some q

      is_downgraded : downgraded (set_downgraded s.word) ≡ true
      is_downgraded = set_has DOWNGRADED refl s.word

  -- ── a queue that nobody owns is taken whole ──

  abbrev next : Thread
  next = became (mine st) (WalkTail Downgrade s.word (to_node s.word)) (downgraded_to (mine st).holding)

  alone : queue_locked s.word ≡ false → Q.Lonely (queue_of s) me.0
  alone l u ne = not_true (on_queue (role_of s.th u)) (λ e. by ((row_facts (s.th u).place).stands e))
    where
      by : ((about_at s u).owner ≡ true) ⊎ ((about_at s u).reader ≡ true) → ⊥
      by (inl e) = never (unowned i l u) e
      by (inr e) = unread u e

  -- nobody else is about to release or to downgrade
  unneeded : (u : ℕ) → u ≢ me.0 → (about_at s u).needs_queue ≡ true → ⊥
  unneeded u ne e = by (dec_lt u me.0)
    where
      within : u < n
      within = inside i u (λ a. a.needs_queue) refl e

      writing : ℕ → ℕ
      writing t = writes_of (s.th t).holding

      mine : 1 ≤ writing u
      mine = omega (arith, sum_le n (λ t. leaver (s.th t)) u within, only, needs_some i u e)

      by : Dec (u < me.0) → ⊥
      by (yes l) = omega (arith, sum_two n writing u me.0 l tin, mine, holds, only)
      by (no k) = omega (arith, sum_two n writing me.0 u (omega arith) within, mine, holds, only)

  takes_all_lem : queued s.word ≡ true → queue_locked s.word ≡ false
      → Inv n (moved_to st (word (SINGLE + LOCKED)) next) (took g me.0)
  takes_all_lem q l =
      let v : Newest g s.word = i.newest q in
      takes_whole st (word (SINGLE + LOCKED)) next (readers_word (word (SINGLE + LOCKED)) 1 refl).is
      (record {
        queue =
            Taking.take_alone i.queue me.0 v.ticket (ap (λ a. a.role) is) (alone l)
            v.last v.some v.node;
        registered = rw is;
        owner = refl;
        owned = rw (l, is);
        may = record { reads = refl; writes = refl };
        needs = refl;
        needed = unneeded;
        count =
            λ r x k er ex ek. let one : r ≡ 1 = omega (arith, holds, only) in
            read (rw one refl) (omega arith)
            (record { reads = refl; writes = omega (arith, holds, only); leaves = omega (arith, left, only) });
        fits = refl;
        unfilled = refl;
        asleep = refl;
      })

  -- the compare that set DOWNGRADED, or took the queue
  succeeds : (seen : Word) → (mine st).place ≡ DowngradeSlowCas seen → queued s.word ≡ true → (k : ℕ)
      → Kept st k (writes_to (look_at st k) (downgraded_word s.word) (downgraded_to (mine st).holding)
      (after_downgrade s.word))
  succeeds seen here q k = by (queue_locked s.word) refl
    where
      by : (l : Bool) → queue_locked s.word ≡ l
          → Kept st k (writes_to (look_at st k) (pick l (set_downgraded s.word) (word (SINGLE + LOCKED)))
          (downgraded_to (mine st).holding) (pick l (end Done) (walk_from Downgrade s.word)))
      by true l = kept_still st k _ _ g (downgrade_ends me g here) (ends_call st down _ _ (handed_over q l))
      by false l =
          kept_still st k _ _ (took g me.0)
          (downgrade_takes me g here _ _ _ _ (record { none = rw is at (i.queue.know me.0); is = refl }))
          (takes_all_lem q l)

module _ (st : Setting) (k : ℕ) where
  open st use {n, s, g, i, me, tin}

  -- on to the slow compare, with the word as it is
  slowly : (needs_queue : Bool) (is : about_at s me.0 ≡ off_queue writes false needs_queue false)
      → queued s.word ≡ true
      → Inv n (gone_to st (DowngradeSlowCas s.word) s.nd) g
  slowly needs_queue is q =
      goes_off_queue st (down st needs_queue is) (DowngradeSlowCas s.word) (off_queue_lem _ _ _ _)
      (holds st needs_queue is) (λ _. q) (rw is) (rw is (never refl))

  pub kept_downgrade_cas : (mine st).place ≡ DowngradeCas → Goes st k (λ v. downgrade_cas_of v)
  kept_downgrade_cas here = pick_both (Kept st k) (eqb s.word.0 LOCKED) _ _
      (λ e. kept_stood st k here refl _ _ refl
      (ends_call st _ _ _ (plainly st false (ap about here) (eqb-true s.word.0 LOCKED e))))
      (λ e. kept_stood st k here refl _ _ refl
      (slowly false (ap about here)
      (not_false (queued s.word)
      (λ q. eqb-false s.word.0 LOCKED e (one_holder_bare i (some st false (ap about here)) q).0))))

  pub kept_downgrade_slow_cas : (seen : Word) → (mine st).place ≡ DowngradeSlowCas seen
      → Goes st k (λ v. downgrade_slow_cas_of v seen)
  kept_downgrade_slow_cas seen here = kept_compare st k seen _ _
      (λ same. subst (λ x.
      Kept st k (writes_to (look_at st k) (downgraded_word x) (downgraded_to (mine st).holding) (after_downgrade x)))
      same (succeeds st true (ap about here) seen here has_queue k))
      (kept_still st k _ _ g (downgrade_fails me g here s.word) (slowly true (ap about here) has_queue))
    where
      has_queue : queued s.word ≡ true
      has_queue = i.needs me.0 (ap (λ p. (about p).needs_queue) here)
