-- The ways in which a call ends by a change of the word: with no queue; by a grant to a writer; with a queue that
-- somebody owns.
-- Assumes nothing.
use Rattle.std.specs.Prelude.{◌+◌, ◌*◌, Bool, true, false, ◌≡◌, refl, Some}
use Rattle.std.proofs.Common.{sym, ap, ◌∙◌, arith}
use Rattle.word.specs.Flags.{word, LOCKED, QUEUED, QUEUE_LOCKED, DOWNGRADED, SINGLE, locked, queued, downgraded}
use Rattle.word.specs.Flags.{set_locked}
use Rattle.word.specs.Laws.{ReadGranted, read_lock_granted, set_has, set_keeps, set_node}
use Rattle.word.specs.Rules.{read_lock_of}
use Rattle.word.specs.declared.flags.Word.{Word}
use Rattle.state.specs.Holding.{granted_read, granted_write}
use Rattle.state.specs.declared.holding.Holding.{Holding}
use Rattle.state.specs.declared.place.Place.TheVariants.{Idle}
use Rattle.queue.specs.Tests.{never, not_true}
use Rattle.invariant.specs.Table.{Free, leaver}
use Rattle.invariant.specs.Invariant.{readers, writers, leavers, Hold, Unqueued, empty, written, read, by_writer}
use Rattle.invariant.specs.Invariant.{CountedAs, HoldersAre}
use Rattle.invariant.proofs.OffQueue.{RoleDown, Ended}
use Rattle.invariant.specs.Words.{Plain, word_is, readers_word, granted_word, counts_bare}
use Rattle.invariant.specs.Kept.{Setting, mine, became}
use Rattle.invariant.specs.Frames.{Recount}

module _ (st : Setting) (o : RoleDown st.s st.g st.me.0) where
  open st use {n, s, g, i, me, tin}

  -- an unqueued word becomes another
  pub ended_bare : (w : Word) (h : Holding) → queued s.word ≡ false → Plain w
      → Recount n s (mine st) (became (mine st) Idle h) (Unqueued w) → Ended st o w h
  ended_bare w h un p count = record {
    same_queue = p.unqueued ∙ sym un;
    same_owner = p.unowned ∙ sym (i.bare un).0;
    same_node = λ e. never un e;
    handed = λ e. never p.unqueued e;
    bare = λ e. p.plain;
    plain = λ u ne e. p.plain;
    count = λ r v l er ev el. counts_bare p (count r v l er ev el);
    unreal = λ e. never p.unqueued e;
    seen_to = λ e. never p.unqueued e;
  }

  -- read_lock grants: one reader more
  pub ended_read : Free (mine st).holding → leaver (mine st) ≡ 0 → (to : Word) → read_lock_of s.word ≡ Some to
      → Ended st o to (granted_read (mine st).holding)
  ended_read h leaves to e =
      ended_bare to (granted_read (mine st).holding) d.unqueued (readers_word to (readers n s + 1) x.0).is
      (λ r v l er ev el.
      read (omega (arith, x)) (omega arith)
      (record { reads = refl; writes = omega (arith, x); leaves = omega (arith, x) }))
    where
      d : ReadGranted s.word to
      d = read_lock_granted s.word to e

      x : (to.0 ≡ SINGLE * (readers n s + 1) + LOCKED) × (writers n s ≡ 0) × (leavers n s ≡ 0)
      x = granted_word s.word to (readers n s) (writers n s) (leavers n s) d (i.count.bare d.unqueued)

  -- LOCKED is set for a writer
  module _ (free : Free (mine st).holding) (leaves : leaver (mine st) ≡ 0) (un : locked s.word ≡ false) where
    plain_word : downgraded s.word ≡ false
    plain_word = by (queued s.word) refl
      where
        by : (q : Bool) → queued s.word ≡ q → downgraded s.word ≡ false
        by true e = not_true (downgraded s.word) (λ d. never un (i.handed e d).1)
        by false e = (i.bare e).1

    free_word : queued s.word ≡ false → s.word ≡ word 0
    free_word e = by (i.count.bare e)
      where
        by : CountedAs (Unqueued s.word) n s → s.word ≡ word 0
        by (empty z h) = word_is s.word 0 z
        by (written z h) = never un (readers_word s.word 0 z).locked
        by (read z some h) = never un (readers_word s.word (readers n s) z).locked

    none_holds : HoldersAre n s 0 0 0
    none_holds = by (queued s.word) refl
      where
        of : CountedAs (Unqueued s.word) n s
            → HoldersAre n s 0 0 0
        of (empty z h) = h
        of (written z h) = never un (readers_word s.word 0 z).locked
        of (read z some h) = never un (readers_word s.word (readers n s) z).locked

        by : (q : Bool) → queued s.word ≡ q → HoldersAre n s 0 0 0
        by true e = i.count.unlocked e un
        by false e = of (i.count.bare e)

    is_locked : locked (set_locked s.word) ≡ true
    is_locked = set_has LOCKED refl s.word

    same_queue : queued (set_locked s.word) ≡ queued s.word
    same_queue = set_keeps LOCKED QUEUED refl s.word

    same_plain : downgraded (set_locked s.word) ≡ false
    same_plain = set_keeps LOCKED DOWNGRADED refl s.word ∙ plain_word

    pub ended_written : Ended st o (set_locked s.word) (granted_write (mine st).holding)
    ended_written = record {
      same_queue = same_queue;
      same_owner = set_keeps LOCKED QUEUE_LOCKED refl s.word;
      same_node = λ e. set_node LOCKED refl s.word;
      handed = λ e d. never same_plain d;
      bare = λ e. same_plain;
      plain = λ u ne e. same_plain;
      count =
          λ r v l er ev el.
          let x : Hold r v l 0 1 0 =
          record {
            reads = omega (arith, none_holds, free);
            writes = omega (arith, none_holds, free);
            leaves = omega (arith, none_holds, leaves);
          } in record {
            bare = λ e. written (ap (λ y. (set_locked y).0) (free_word (sym same_queue ∙ e))) x;
            unlocked = λ _ e. never e is_locked;
            handed = λ _ _ d. never same_plain d;
            held = λ _ _ _. by_writer x;
          };
      unreal = λ _ _ r e. omega (arith, none_holds, free);
      seen_to = λ _ e. never e is_locked;
    }
