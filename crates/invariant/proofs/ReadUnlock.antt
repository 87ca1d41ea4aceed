-- read_unlock by the word: each place's rule keeps the invariant, and the word is never below 17 where a reader
-- leaves it. Not here: a contended reader's subtraction (Subtract).
-- Assumes nothing.
use Rattle.std.specs.Prelude.{ℕ, zero, suc, ◌+◌, ◌-◌, ◌*◌, ◌≤◌, Bool, true, false, ◌≡◌, refl, ltb}
use Rattle.std.proofs.Common.{sym, ap, ◌∙◌, subst, arith, ltb-true}
use Rattle.word.specs.Base.{pick}
use Rattle.word.specs.Flags.{LOCKED, QUEUED, QUEUE_LOCKED, DOWNGRADED, SINGLE, locked, queued, queue_locked, downgraded}
use Rattle.word.specs.Flags.{clear_locked, clear_downgraded, to_node}
use Rattle.word.specs.Laws.{clear_has, clear_keeps, clear_node}
use Rattle.word.specs.Rules.{fewer, read_unlock_of}
use Rattle.word.specs.declared.flags.Word.{Word}
use Rattle.word.specs.declared.rules.ReadUnlocked.TheVariants.{To, Contended, Refused}
use Rattle.state.specs.Holding.{reads_of, released_read}
use Rattle.state.specs.declared.place.Place.{Place}
use Rattle.state.specs.declared.place.Place.TheVariants.{WalkTail, ReadUnlockLoad, ReadUnlockCas}
use Rattle.state.specs.declared.place.Walk.TheVariants.{ReadUnlock}
use Rattle.release.specs.ReadUnlock.{read_unlock_by, read_unlock_judged, read_unlock_load_of, read_unlock_cas_by}
use Rattle.release.specs.ReadUnlock.{read_unlock_cas_of}
use Rattle.queue.specs.Tests.{never}
use Rattle.queue.specs.Sums.{sum_le}
use Rattle.queue.specs.Roles.{walk, looks}
use Rattle.queue.specs.Invariant as Q
use Rattle.invariant.specs.Table.{off_queue, reads, about, about_at, Reads, leaver}
use Rattle.invariant.specs.Invariant.{readers, writers, leavers, Unqueued, empty, written, read, queue_of, Inv}
use Rattle.invariant.specs.Invariant.{CountedAs, HoldersAre}
use Rattle.invariant.specs.Frames.{stay, viewed_still}
use Rattle.invariant.specs.Moves.{moves_no_ticket}
use Rattle.invariant.specs.Kept.{look_at, Kept, placed, Goes, Setting, mine, gone_to, kept_stood, kept_compare}
use Rattle.invariant.proofs.OffQueue.{off_queue_lem, RoleDown, role_down, goes_off_queue, Ended, ends_call}
use Rattle.invariant.proofs.CallEnds.{ended_bare}
use Rattle.invariant.specs.Words.{Plain, word_is, readers_word, fewer_word, plain_free}
use Rattle.invariant.proofs.OnQueue.{begun_at}

module _ (st : Setting) (k : ℕ) {p : Place} (here : (mine st).place ≡ p)
    (told : about p ≡ off_queue reads false false false) (unmoved : moves_no_ticket p ≡ true) where
  open st use {n, s, g, i, me, tin}

  is : about_at s me.0 ≡ off_queue reads false false false
  is = ap about here ∙ told

  down : RoleDown s g me.0
  down = role_down i me.0 (rw is (off_queue_lem _ _ _ _))

  holds : Reads (mine st).holding
  holds = rw is at (i.holding me.0)

  left : leaver (mine st) ≡ 0
  left = rw is

  some : 1 ≤ readers n s
  some = omega (arith, sum_le n (λ t. reads_of (s.th t).holding) me.0 tin, holds.reads)

  -- an unqueued word that a reader holds
  counted : queued s.word ≡ false
      → (s.word.0 ≡ SINGLE * readers n s + LOCKED) × (writers n s ≡ 0) × (leavers n s ≡ 0)
  counted q = by (i.count.bare q)
    where
      by : CountedAs (Unqueued s.word) n s
          → (s.word.0 ≡ SINGLE * readers n s + LOCKED) × (writers n s ≡ 0) × (leavers n s ≡ 0)
      by (empty z h) = absurd (omega (arith, some, h.reads))
      by (written z h) = absurd (omega (arith, some, h.reads))
      by (read z r h) = (z, h.writes, h.leaves)

  -- so it is not refused
  enough : queued s.word ≡ false → ltb s.word.0 (SINGLE + LOCKED) ≡ true → ⊥
  enough q e = omega (arith, some, (counted q).0, ltb-true s.word.0 (SINGLE + LOCKED) e)

  -- ── the count stands in the queue: find it ──

  walks : queued s.word ≡ true → downgraded s.word ≡ false
      → Inv n (gone_to st (WalkTail ReadUnlock s.word (to_node s.word)) s.nd) g
  walks q d = stay n s g me.0 (placed (mine st) (WalkTail ReadUnlock s.word (to_node s.word))) s.nd i
      (record {
        queue =
            viewed_still s me.0 (placed (mine st) (WalkTail ReadUnlock s.word (to_node s.word))) s.word
            (rw is) begun;
        inside = tin;
        holding = refl;
        completed = λ u ne. refl;
        next = λ r. refl;
        owner = rw is;
        leaving = sym left;
        may = holds;
        needs = never refl;
        plain = λ e. d;
        calm = λ r. never refl;
        fits = refl;
        clear = never refl;
        token = never refl;
        contending = rw is (never refl);
        called = rw is (never refl);
      })
    where
      begun : Q.Inv g (Q.turned (queue_of s) me.0 (walk looks (to_node s.word).0 (to_node s.word).0))
      begun = begun_at s me.0 _ looks refl (i.newest q) down.role

  judged : Kept st k (read_unlock_judged (look_at st k) s.word)
  judged = by (queued s.word) (downgraded s.word) (ltb s.word.0 (SINGLE + LOCKED)) refl refl refl
    where
      on : Inv n (gone_to st (ReadUnlockCas s.word) s.nd) g
      on =
          goes_off_queue st down (ReadUnlockCas s.word) (off_queue_lem _ _ _ _) holds (never refl) (sym left)
          (rw is (never refl))

      by : (q d b : Bool) → queued s.word ≡ q → downgraded s.word ≡ d → ltb s.word.0 (SINGLE + LOCKED) ≡ b
          → Kept st k (read_unlock_by (look_at st k) s.word
          (pick q (pick d (To (clear_locked (clear_downgraded s.word))) Contended)
          (pick b Refused (To (fewer s.word)))))
      by true true b q d e = kept_stood st k here unmoved _ _ refl on
      by true false b q d e = kept_stood st k here unmoved _ _ refl (walks q d)
      by false d' true q d e = absurd (enough q e)
      by false d' false q d e = kept_stood st k here unmoved _ _ refl on

  -- ── the compare ──

  -- a downgrade is taken back: nobody holds, and the owner of the queue sees to it
  retracted : queued s.word ≡ true → downgraded s.word ≡ true
      → Ended st down (clear_locked (clear_downgraded s.word)) (released_read (mine st).holding)
  retracted q d = record {
    same_queue =
        clear_keeps LOCKED QUEUED refl (clear_downgraded s.word) ∙ clear_keeps DOWNGRADED QUEUED refl s.word;
    same_owner = same_owner;
    same_node = λ _. clear_node LOCKED refl (clear_downgraded s.word) ∙ clear_node DOWNGRADED refl s.word;
    handed = λ _ e. never plain e;
    bare = λ _. plain;
    plain = λ u ne e. plain;
    count = λ r v l er ev el. record {
      bare =
          λ e. never e (clear_keeps LOCKED QUEUED refl (clear_downgraded s.word)
          ∙ clear_keeps DOWNGRADED QUEUED refl s.word ∙ q);
      unlocked =
          λ _ _. record {
            reads = omega (arith, c, holds);
            writes = omega (arith, c, holds);
            leaves = omega (arith, c, left);
          };
      handed = λ _ e. never unlocked e;
      held = λ _ e. never unlocked e;
    };
    unreal = λ _ _ r e. omega (arith, c, holds);
    seen_to = λ _ _ e. never e (same_owner ∙ (i.handed q d).0);
  }
    where
      c : HoldersAre n s 1 0 0
      c = i.count.handed q (i.handed q d).1 d

      unlocked : locked (clear_locked (clear_downgraded s.word)) ≡ false
      unlocked = clear_has LOCKED refl (clear_downgraded s.word)

      plain : downgraded (clear_locked (clear_downgraded s.word)) ≡ false
      plain = clear_keeps LOCKED DOWNGRADED refl (clear_downgraded s.word) ∙ clear_has DOWNGRADED refl s.word

      same_owner : queue_locked (clear_locked (clear_downgraded s.word)) ≡ queue_locked s.word
      same_owner =
          clear_keeps LOCKED QUEUE_LOCKED refl (clear_downgraded s.word)
          ∙ clear_keeps DOWNGRADED QUEUE_LOCKED refl s.word

  -- one reader fewer
  left_word : queued s.word ≡ false → Ended st down (fewer s.word) (released_read (mine st).holding)
  left_word q =
      ended_bare st down (fewer s.word) (released_read (mine st).holding) q (by_plain (readers n s - 1) refl)
      (λ r v l er ev el.
      counts r v l (omega (arith, holds)) (omega (arith, holds, c)) (omega (arith, left, c)) (readers n s - 1) refl)
    where
      c : (s.word.0 ≡ SINGLE * readers n s + LOCKED) × (writers n s ≡ 0) × (leavers n s ≡ 0)
      c = counted q

      made : (r : ℕ) → readers n s - 1 ≡ r
          → (r ≡ 0 → (fewer s.word).0 ≡ 0) × (1 ≤ r → (fewer s.word).0 ≡ SINGLE * r + LOCKED)
      made r e = fewer_word s.word r (omega (arith, c, some))

      by_plain : (r : ℕ) → readers n s - 1 ≡ r → Plain (fewer s.word)
      by_plain zero e = subst Plain (sym (word_is (fewer s.word) 0 ((made 0 e).0 refl))) plain_free
      by_plain (suc r) e = (readers_word (fewer s.word) (suc r) ((made (suc r) e).1 (omega arith))).is

      counts : (r v l : ℕ) → r + 1 ≡ readers n s → v ≡ 0 → l ≡ 0 → (m : ℕ) → readers n s - 1 ≡ m
          → Unqueued (fewer s.word) r v l
      counts r v l er ev el zero e =
          empty ((made 0 e).0 refl) (record { reads = omega arith; writes = ev; leaves = el })
      counts r v l er ev el (suc m) e =
          let z : r ≡ suc m = omega arith in
          read (rw z ((made (suc m) e).1 (omega arith))) (omega arith)
          (record { reads = refl; writes = ev; leaves = el })

  taken : Kept st k (read_unlock_cas_by (look_at st k) (read_unlock_of s.word))
  taken = by (queued s.word) (downgraded s.word) (ltb s.word.0 (SINGLE + LOCKED)) refl refl refl
    where
      by : (q d b : Bool) → queued s.word ≡ q → downgraded s.word ≡ d → ltb s.word.0 (SINGLE + LOCKED) ≡ b
          → Kept st k (read_unlock_cas_by (look_at st k)
          (pick q (pick d (To (clear_locked (clear_downgraded s.word))) Contended)
          (pick b Refused (To (fewer s.word)))))
      by true true b q d e = kept_stood st k here unmoved _ _ refl (ends_call st down _ _ (retracted q d))
      by true false b q d e = judged
      by false d' true q d e = judged
      by false d' false q d e = kept_stood st k here unmoved _ _ refl (ends_call st down _ _ (left_word q))

module _ (st : Setting) (k : ℕ) where
  pub kept_read_unlock_load : (mine st).place ≡ ReadUnlockLoad → Goes st k (λ v. read_unlock_load_of v)
  kept_read_unlock_load here = judged st k here refl refl

  pub kept_read_unlock_cas : (seen : Word) → (mine st).place ≡ ReadUnlockCas seen
      → Goes st k (λ v. read_unlock_cas_of v seen)
  kept_read_unlock_cas seen here = kept_compare st k seen _ _
      (λ same. subst (λ x. Kept st k (read_unlock_cas_by (look_at st k) (read_unlock_of x))) same
      (taken st k here refl refl))
      (judged st k here refl refl)
