-- Every place's rule obeys: one law for each way a rule ends (nothing changes, the word is written,
-- a node is stored to), then the places.
-- Assumes nothing.
use Rattle.std.specs.Prelude.{ℕ, ◌+◌, ◌-◌, Bool, not, ◌⊎◌, ◌≡◌, T, eqb, ltb, Err, Ok, Option, Some, None}
use Rattle.std.proofs.Math.Bool.{true, false}
use Rattle.std.proofs.Math.Logic.{inl}
use Rattle.std.proofs.Common.{inr, sym, subst, ◌∙◌, arith, eq-eqb, ne_eqb, eqb-true}
use Rattle.std.proofs.Math.Path.{refl, ap}
use Rattle.word.specs.Base.{pick}
use Rattle.word.specs.Cases.{pick_both}
use Rattle.word.specs.Number.{is_none, none, owner_of}
use Rattle.word.specs.Flags.{word, LOCKED, SINGLE, to_node, clear_queue_locked}
use Rattle.word.specs.Flags.{queued, queue_locked, locked, downgraded, set_locked}
use Rattle.word.specs.Rules.{registered_of, taken_of, read_lock_of, read_unlock_of}
use Rattle.word.specs.Laws.{read_lock_more}
use Rattle.word.specs.declared.flags.Word.{Word}
use Rattle.word.specs.declared.number.NodeNumber.{NodeNumber}
use Rattle.word.specs.declared.rules.ReadUnlocked.{ReadUnlocked}
use Rattle.word.specs.declared.rules.ReadUnlocked.TheVariants.{To as UnlockTo, Contended, Refused as UnlockRefused}
use Rattle.state.specs.Access.{access_of}
use Rattle.state.specs.Node.{filled_of, with_next, with_prev, with_tail, with_completed}
use Rattle.state.specs.View.{at, end, after_queue, walk_from, agrees_of, stays, writes, links, subtracts, completes}
use Rattle.state.specs.View.{parks, Stepped}
use Rattle.state.specs.declared.access.Kind.{Kind}
use Rattle.state.specs.declared.access.Kind.TheVariants.{Nothing, Load, Store, WeakCompare, StrongCompare, FetchOr}
use Rattle.state.specs.declared.access.Kind.TheVariants.{Subtract as Subtracting, Complete, Park as Parking}
use Rattle.state.specs.declared.access.Location.{Location}
use Rattle.state.specs.declared.access.Location.TheVariants.{Nowhere, Word as TheWord, Next}
use Rattle.state.specs.declared.access.Location.TheVariants.{Prev, Tail, Completed, Token}
use Rattle.state.specs.declared.answer.Answer.TheVariants.{Done, Yes, No}
use Rattle.state.specs.declared.answer.Refusal.TheVariants.{Damaged}
use Rattle.state.specs.declared.holding.Holding.{Holding}
use Rattle.state.specs.declared.holding.Holding.TheVariants.{Nothing as HoldsNothing, Read, Write}
use Rattle.state.specs.declared.node.Node.{Node}
use Rattle.state.specs.declared.place.Who.{Who}
use Rattle.state.specs.declared.place.Who.TheVariants.{Waiter, Leaver}
use Rattle.state.specs.declared.place.Walk.{Walk}
use Rattle.state.specs.declared.place.Walk.TheVariants.{Queue, ReadUnlock, Downgrade}
use Rattle.state.specs.declared.place.Place.{Place}
use Rattle.state.specs.declared.place.Place.TheVariants as At
use Rattle.state.specs.declared.view.Mark.{Mark}
use Rattle.state.specs.declared.view.Mark.TheVariants.{Missing, Reader, Writer}
use Rattle.state.specs.declared.view.View.{View}
use Rattle.state.specs.declared.view.Next.{Next as Onward}
use Rattle.state.specs.declared.view.Change.{Change}
use Rattle.lock.specs.Advance.{advance_of}
use Rattle.lock.specs.Effect.{LockEffect, Stand, ended, walks, elsewhere, keeps, grants_read, grants_write}
use Rattle.lock.specs.Effect.{releases_read}
use Rattle.lock.specs.Effect.{releases_write, downgrades, lock_effect, release_of, at_end, stand_of, held_after, grants}
use Rattle.walk.specs.FindTail.{walk_tail_of, walk_next_of, walk_prev_of}
use Rattle.walk.specs.CompleteAll.{wake_prev_of, wake_store_of}
use Rattle.acquire.specs.TryWrite.{try_write_or_of}
use Rattle.acquire.specs.LockContended.{permitted_of, fill_of, contend_by, contend_judged, contend_load_of}
use Rattle.acquire.specs.LockContended.{contend_cas_by}
use Rattle.acquire.specs.LockContended.{contend_cas_of, after_register, register_cas_of, spin_count}
use Rattle.acquire.specs.Wait.{completed_load_of, park_of}
use Rattle.unlock.specs.AfterWalk.{marked_by, tail_marked, tail_found, walk_head_of}
use Rattle.unlock.specs.UnlockQueue.{walk_again, queue_cas_of, split_prev_of, split_store_of}
use Rattle.unlock.specs.UnlockQueue.{split_cas_of, split_restore_of, take_cas_of}
use Rattle.release.specs.ReadUnlock.{read_unlock_by, read_unlock_judged, read_unlock_load_of}
use Rattle.release.specs.ReadUnlock.{read_unlock_cas_by, read_unlock_cas_of, after_subtract, subtract_of}
use Rattle.release.specs.WriteUnlock.{write_unlock_cas_of}
use Rattle.release.specs.UnlockContended.{released_to, after_release, release_cas_of}
use Rattle.release.specs.Downgrade.{downgrade_cas_of, downgraded_word, after_downgrade, downgrade_slow_cas_of}
use Rattle.acquire.specs.TryRead.{try_read_by, try_read_judged, try_read_load_of, try_read_cas_by, try_read_cas_of}
use Rattle.promises.specs.Refusals.{and}
use Rattle.promises.specs.Shared.{Unless, Obeys, kept_but, kept_by, field_at, fills, woken_by, writes_word, is_weak}
use Rattle.promises.specs.Shared.{takes_token, tries, acquires, is_yes, is_done, by_waiter}

-- ── small laws ──

-- a claim for every step that a rule accepts
abbrev pub All : (Change → Type 0) → Stepped → Type 0
All P (Ok c) = P c
All P (Err r) = Unit

unless_any : {T : Type 0} (b : Bool) → T → Unless b T
unless_any true x = tt
unless_any false x = x

field_same : (l : Location) (n : Node) → n ≡ field_at l n n
field_same Nowhere n = refl
field_same TheWord n = refl
field_same (Next k) n = refl
field_same (Prev k) n = refl
field_same (Tail k) n = refl
field_same (Completed k) n = refl
field_same (Token t) n = refl

-- a node that did not change is kept but for any field
pub kept_same : (k : Kind) (l : Location) (n : Node) → n ≡ kept_by k l n n
kept_same Nothing l n = refl
kept_same Load l n = refl
kept_same Store l n = field_same l n
kept_same WeakCompare l n = refl
kept_same StrongCompare l n = refl
kept_same FetchOr l n = refl
kept_same Subtracting l n = field_same l n
kept_same Complete l n = field_same l n
kept_same Parking l n = refl

true_not_false : true ≡ false → ⊥
true_not_false e = subst T e tt

pub same_word : (w : ℕ) → not (eqb w w) ≡ false
same_word w = ap not (eq-eqb w w refl)

other_word : (a b : ℕ) → (a ≡ b → ⊥) → not (eqb a b) ≡ true
other_word a b h = ap not (ne_eqb a b h)

-- a compare that succeeded was not made to fail, and the word is the one seen
agrees_fails : (v : View) (seen : Word) → agrees_of v seen ≡ true → v.fails ≡ true → ⊥
agrees_fails v seen e f = true_not_false (sym e ∙ (rw f))

pub agrees_word : (v : View) (seen : Word) → agrees_of v seen ≡ true → v.word.0 ≡ seen.0
agrees_word v seen e =
    eqb-true v.word.0 seen.0
    (pick_both (λ (b : Bool). b ≡ true → eqb v.word.0 seen.0 ≡ true) v.fails false
    (eqb v.word.0 seen.0)
    (λ f g. absurd (true_not_false (sym g)))
    (λ f g. g) e)

and_none : (b : Bool) → false ≡ and b false
and_none true = refl
and_none false = refl

-- ── the ways a rule ends ──

module _ (v : View) (p : Place) where
  -- nothing shared changes, nothing is granted
  stays_obeys : (next : Onward)
      → woken_by (access_of v.me p).kind (access_of v.me p).location ≡ None
      → lock_effect p v.holding false (stand_of next.place) ≡ keeps
      → is_yes next.answer ≡ false
      → is_done next.answer ≡ false
      → All (Obeys v p) (stays v next)
  stays_obeys next nobody none no_yes no_done =
      let e : lock_effect p v.holding (not (eqb v.word.0 v.word.0)) (stand_of next.place) ≡ keeps =
      rw (same_word v.word.0) none in
      record {
        word = unless_any (writes_word (access_of v.me p).kind) refl;
        node = inl (kept_same (access_of v.me p).kind (access_of v.me p).location v.node);
        token = unless_any (takes_token (access_of v.me p).kind) refl;
        woken = sym nobody;
        holding = sym (ap (λ (x : LockEffect). held_after x v.holding) e);
        yes = no_yes ∙ (and_none (tries p) ∙ sym (ap (λ (x : LockEffect). and (tries p) (grants x)) e));
        done = unless_any (not (acquires p)) (no_done ∙ sym (ap grants e));
        failed = unless_any (not (is_weak (access_of v.me p).kind)) (λ f. refl);
      }

  -- the word is written, by a compare that was not made to fail or by a fetch-or
  module _ (w : Word) (h : Holding) (next : Onward) (x : LockEffect)
      (e : lock_effect p v.holding (not (eqb w.0 v.word.0)) (stand_of next.place) ≡ x) where
    writes_obeys : Unless (writes_word (access_of v.me p).kind) (w ≡ v.word)
        → woken_by (access_of v.me p).kind (access_of v.me p).location ≡ None
        → h ≡ held_after x v.holding
        → is_yes next.answer ≡ and (tries p) (grants x)
        → Unless (not (acquires p)) (is_done next.answer ≡ grants x)
        → Unless (not (is_weak (access_of v.me p).kind)) (v.fails ≡ true → w ≡ v.word)
        → All (Obeys v p) (writes v w h next)
    writes_obeys kind nobody held ys dn fails =
        record {
          word = kind;
          node = inl (kept_same (access_of v.me p).kind (access_of v.me p).location v.node);
          token = unless_any (takes_token (access_of v.me p).kind) refl;
          woken = sym nobody;
          holding = held ∙ sym (ap (λ (y : LockEffect). held_after y v.holding) e);
          yes = ys ∙ sym (ap (λ (y : LockEffect). and (tries p) (grants y)) e);
          done = subst (λ (y : LockEffect). Unless (not (acquires p)) (is_done next.answer ≡ grants y)) (sym e) dn;
          failed = fails;
        }

  -- a node is stored to, or the own one filled; nothing is granted
  links_obeys : (n : Node) (next : Onward)
      → (n ≡ kept_but (access_of v.me p) n v.node)
      ⊎ ((fills p ≡ true) × ((writer : Bool) × (n ≡ filled_of v.me writer v.word)))
      → woken_by (access_of v.me p).kind (access_of v.me p).location ≡ None
      → lock_effect p v.holding false (stand_of next.place) ≡ keeps
      → is_yes next.answer ≡ false
      → is_done next.answer ≡ false
      → All (Obeys v p) (links v n next)
  links_obeys n next kept nobody none no_yes no_done =
      let s : Obeys v p
      (record {
        word = v.word;
        node = v.node;
        thread = record { place = next.place; token = v.token; holding = v.holding };
        answer = next.answer;
        woken = None;
      }) =
      stays_obeys next nobody none no_yes no_done in
      record {
        word = s.word;
        node = kept;
        token = s.token;
        woken = s.woken;
        holding = s.holding;
        yes = s.yes;
        done = s.done;
        failed = s.failed;
      }

-- ── the places, in queue.rs's order ──

module _ (v : View) where
  -- a compare that agreed was not made to fail
  no_fail : (seen w : Word) → agrees_of v seen ≡ true → v.fails ≡ true → w ≡ v.word
  no_fail seen w a f = absurd (agrees_fails v seen a f)

  module _ (p : Place)
      (stay : (next : Onward)
      → is_yes next.answer ≡ false
      → is_done next.answer ≡ false
      → All (Obeys v p) (stays v next)) where
    try_read_judged_lem : (blocking : Bool) (r : Option Word) → All (Obeys v p) (try_read_by v blocking v.word r)
    try_read_judged_lem blocking (Some to) = stay (at (At.TryReadCas blocking v.word)) refl refl
    try_read_judged_lem true None = stay (at (At.ContendLoad false 0)) refl refl
    try_read_judged_lem false None = stay (end No) refl refl

  try_read_load : (blocking : Bool) → All (Obeys v (At.TryReadLoad blocking)) (try_read_load_of v blocking)
  unfolding access_of lock_effect
  try_read_load blocking =
      try_read_judged_lem (At.TryReadLoad blocking)
      (λ next y d. stays_obeys v (At.TryReadLoad blocking) next refl refl y d)
      blocking
      (read_lock_of v.word)

  try_read_failed : (blocking : Bool) (seen : Word)
      → All (Obeys v (At.TryReadCas blocking seen)) (try_read_judged v blocking v.word)
  unfolding access_of lock_effect
  try_read_failed blocking seen =
      try_read_judged_lem (At.TryReadCas blocking seen)
      (λ next y d. stays_obeys v (At.TryReadCas blocking seen) next refl refl y d)
      blocking
      (read_lock_of v.word)

  -- a granted reader's word is above the one seen, so it changed
  pub read_granted : (blocking : Bool) (seen to : Word)
      → read_lock_of seen ≡ Some to
      → agrees_of v seen ≡ true
      → (s : _)
      → lock_effect (At.TryReadCas blocking seen) v.holding (not (eqb to.0 v.word.0)) s ≡ grants_read
  unfolding lock_effect
  read_granted blocking seen to e a s =
      ap (λ (b : Bool). pick b grants_read keeps)
      (other_word to.0 v.word.0 (λ q. omega (arith, read_lock_more seen to e, agrees_word v seen a, q)))

  try_read_granted : (blocking : Bool) (seen to : Word)
      → read_lock_of seen ≡ Some to
      → agrees_of v seen ≡ true
      → All (Obeys v (At.TryReadCas blocking seen)) (try_read_cas_by v blocking (Some to))
  unfolding access_of tries acquires
  try_read_granted true seen to e a =
      writes_obeys v (At.TryReadCas true seen) to Read (end Done) grants_read (read_granted true seen to e a _)
      tt refl refl refl refl (no_fail seen to a)
  try_read_granted false seen to e a =
      writes_obeys v (At.TryReadCas false seen) to Read (end Yes) grants_read (read_granted false seen to e a _)
      tt refl refl refl tt (no_fail seen to a)

  try_read_compared : (blocking : Bool) (seen : Word) (r : Option Word)
      → read_lock_of seen ≡ r
      → agrees_of v seen ≡ true
      → All (Obeys v (At.TryReadCas blocking seen)) (try_read_cas_by v blocking r)
  try_read_compared blocking seen (Some to) e a = try_read_granted blocking seen to e a
  try_read_compared blocking seen None e a = try_read_failed blocking seen

  try_read_cas : (blocking : Bool) (seen : Word)
      → All (Obeys v (At.TryReadCas blocking seen)) (try_read_cas_of v blocking seen)
  try_read_cas blocking seen =
      pick_both (All (Obeys v (At.TryReadCas blocking seen)))
      (agrees_of v seen)
      (try_read_cas_by v blocking (read_lock_of seen))
      (try_read_judged v blocking v.word)
      (λ a. try_read_compared blocking seen (read_lock_of seen) refl a)
      (λ a. try_read_failed blocking seen)

  -- a word that takes LOCKED on is another word
  write_changed : locked v.word ≡ false → not (eqb (set_locked v.word).0 v.word.0) ≡ true
  write_changed e = other_word (set_locked v.word).0 v.word.0 (rw e (λ q. omega (arith, q)))

  pub write_granted : (blocking : Bool)
      → locked v.word ≡ false
      → (s : Stand)
      → lock_effect (At.TryWriteOr blocking) v.holding (not (eqb (set_locked v.word).0 v.word.0)) s
      ≡ grants_write
  unfolding lock_effect
  write_granted blocking e s = ap (λ (b : Bool). pick b grants_write keeps) (write_changed e)

  try_write_or : (blocking : Bool) → All (Obeys v (At.TryWriteOr blocking)) (try_write_or_of v blocking)
  unfolding access_of lock_effect tries acquires
  try_write_or true =
      pick_both (All (Obeys v (At.TryWriteOr true)))
      (locked v.word)
      (stays v (at (At.ContendLoad true 0)))
      (writes v (set_locked v.word) Write (end Done))
      (λ e. stays_obeys v (At.TryWriteOr true) (at (At.ContendLoad true 0)) refl refl refl refl)
      (λ e. writes_obeys v (At.TryWriteOr true) (set_locked v.word) Write (end Done) grants_write
      (write_granted true e ended) tt refl refl refl refl tt)
  try_write_or false =
      pick_both (All (Obeys v (At.TryWriteOr false)))
      (locked v.word)
      (stays v (end No))
      (writes v (set_locked v.word) Write (end Yes))
      (λ e. stays_obeys v (At.TryWriteOr false) (end No) refl refl refl refl)
      (λ e. writes_obeys v (At.TryWriteOr false) (set_locked v.word) Write (end Yes) grants_write
      (write_granted false e ended) tt refl refl refl tt tt)

  -- judging the word while contending, at any of the three places that do it
  module _ (p : Place) (writer : Bool) (reloads : ℕ) (f : fills p ≡ true)
      (nobody : woken_by (access_of v.me p).kind (access_of v.me p).location ≡ None)
      (quiet : (s : Stand) → at_end s ≡ false → lock_effect p v.holding false s ≡ keeps) where
    fill : All (Obeys v p) (fill_of v writer reloads v.word)
    unfolding stand_of
    fill =
        links_obeys v p (filled_of v.me writer v.word) (at (At.RegisterCas writer reloads v.word))
        (inr (f, (writer, refl))) nobody (quiet elsewhere refl) refl refl

    contend_by_lem : (r : Option Word) → All (Obeys v p) (contend_by v writer reloads v.word r)
    unfolding stand_of
    contend_by_lem (Some to) =
        stays_obeys v p (at (At.ContendCas writer reloads v.word)) nobody (quiet elsewhere refl) refl refl
    contend_by_lem None =
        pick_both (All (Obeys v p))
        (queued v.word)
        (fill_of v writer reloads v.word)
        (pick (ltb reloads spin_count) (stays v (at (At.ContendLoad writer (reloads + 1))))
        (fill_of v writer reloads v.word))
        (λ q. fill)
        (λ q. pick_both (All (Obeys v p)) (ltb reloads spin_count) (stays v (at (At.ContendLoad writer (reloads + 1))))
        (fill_of v writer reloads v.word)
        (λ l. stays_obeys v p (at (At.ContendLoad writer (reloads + 1))) nobody (quiet elsewhere refl) refl refl)
        (λ l. fill))

    contend_judged_lem : All (Obeys v p) (contend_judged v writer reloads v.word)
    contend_judged_lem = contend_by_lem (permitted_of writer v.word)

  contend_load : (writer : Bool) (reloads : ℕ)
      → All (Obeys v (At.ContendLoad writer reloads)) (contend_load_of v writer reloads)
  unfolding access_of lock_effect fills
  contend_load writer reloads =
      contend_judged_lem (At.ContendLoad writer reloads) writer reloads refl refl (λ s e. refl)

  contend_failed : (writer : Bool) (reloads : ℕ) (seen : Word)
      → All (Obeys v (At.ContendCas writer reloads seen)) (contend_judged v writer reloads v.word)
  unfolding access_of lock_effect fills
  contend_failed writer reloads seen =
      contend_judged_lem (At.ContendCas writer reloads seen) writer reloads refl refl (λ s e. rw e)

  contend_granted : (writer : Bool) (reloads : ℕ) (seen to : Word)
      → agrees_of v seen ≡ true
      → All (Obeys v (At.ContendCas writer reloads seen)) (contend_cas_by v writer reloads (Some to))
  unfolding access_of lock_effect tries acquires stand_of
  contend_granted true reloads seen to a =
      writes_obeys v (At.ContendCas true reloads seen) to Write (end Done) grants_write refl tt refl refl refl refl
      (no_fail seen to a)
  contend_granted false reloads seen to a =
      writes_obeys v (At.ContendCas false reloads seen) to Read (end Done) grants_read refl tt refl refl refl refl
      (no_fail seen to a)

  contend_compared : (writer : Bool) (reloads : ℕ) (seen : Word) (r : Option Word)
      → agrees_of v seen ≡ true
      → All (Obeys v (At.ContendCas writer reloads seen)) (contend_cas_by v writer reloads r)
  contend_compared writer reloads seen (Some to) a = contend_granted writer reloads seen to a
  contend_compared writer reloads seen None a = contend_failed writer reloads seen

  contend_cas : (writer : Bool) (reloads : ℕ) (seen : Word)
      → All (Obeys v (At.ContendCas writer reloads seen)) (contend_cas_of v writer reloads seen)
  contend_cas writer reloads seen =
      pick_both (All (Obeys v (At.ContendCas writer reloads seen)))
      (agrees_of v seen)
      (contend_cas_by v writer reloads (permitted_of writer seen))
      (contend_judged v writer reloads v.word)
      (λ a. contend_compared writer reloads seen (permitted_of writer seen) a)
      (λ a. contend_failed writer reloads seen)

  -- a registration grants nothing, wherever it goes on
  registered : (writer : Bool) (reloads : ℕ) (seen to : Word) (next : Onward)
      → agrees_of v seen ≡ true
      → is_yes next.answer ≡ false
      → is_done next.answer ≡ false
      → All (Obeys v (At.RegisterCas writer reloads seen)) (writes v to v.holding next)
  unfolding access_of lock_effect tries acquires
  registered writer reloads seen to next a y d =
      writes_obeys v (At.RegisterCas writer reloads seen) to v.holding next keeps refl tt refl refl y d
      (no_fail seen to a)

  module _ (writer : Bool) (reloads : ℕ) (seen : Word) where
    abbrev to : Word
    to = registered_of seen v.me

    abbrev Joined : Onward → Type 0
    Joined next = All (Obeys v (At.RegisterCas writer reloads seen)) (writes v to v.holding next)

    joined : agrees_of v seen ≡ true → Joined (after_register writer seen to)
    joined a =
        pick_both Joined
        (queued seen)
        (pick (queue_locked seen) (at (At.CompletedLoad writer)) (walk_from (Queue (Waiter writer)) to))
        (at (At.CompletedLoad writer))
        (λ q. pick_both Joined (queue_locked seen) (at (At.CompletedLoad writer)) (walk_from (Queue (Waiter writer)) to)
        (λ l. registered writer reloads seen to (at (At.CompletedLoad writer)) a refl refl)
        (λ l. registered writer reloads seen to (walk_from (Queue (Waiter writer)) to) a refl refl))
        (λ q. registered writer reloads seen to (at (At.CompletedLoad writer)) a refl refl)

    register_cas : All (Obeys v (At.RegisterCas writer reloads seen)) (register_cas_of v writer reloads seen)
    unfolding access_of lock_effect fills
    register_cas =
        pick_both (All (Obeys v (At.RegisterCas writer reloads seen)))
        (agrees_of v seen)
        (writes v to v.holding (after_register writer seen to))
        (contend_judged v writer reloads v.word)
        joined
        (λ a. contend_judged_lem (At.RegisterCas writer reloads seen) writer reloads refl refl (λ s e. refl))

  completed_load : (writer : Bool) → All (Obeys v (At.CompletedLoad writer)) (completed_load_of v writer)
  unfolding access_of lock_effect
  completed_load writer =
      pick_both (All (Obeys v (At.CompletedLoad writer)))
      v.node.completed
      (stays v (at (At.ContendLoad writer 0)))
      (stays v (at (At.Park writer)))
      (λ e. stays_obeys v (At.CompletedLoad writer) (at (At.ContendLoad writer 0)) refl refl refl refl)
      (λ e. stays_obeys v (At.CompletedLoad writer) (at (At.Park writer)) refl refl refl refl)

  parks_obeys : (writer token : Bool) → All (Obeys v (At.Park writer)) (parks v token (at (At.CompletedLoad writer)))
  unfolding access_of lock_effect tries acquires
  parks_obeys writer token =
      record {
        word = refl;
        node = inl refl;
        token = tt;
        woken = refl;
        holding = refl;
        yes = refl;
        done = refl;
        failed = tt;
      }

  park : (writer : Bool) → All (Obeys v (At.Park writer)) (park_of v writer)
  park writer =
      pick_both (All (Obeys v (At.Park writer)))
      v.fails
      (parks v v.token (at (At.CompletedLoad writer)))
      (parks v false (at (At.CompletedLoad writer)))
      (λ e. parks_obeys writer v.token)
      (λ e. parks_obeys writer false)

  walk_tail : (walk : Walk) (seen : Word) (current : NodeNumber)
      → All (Obeys v (At.WalkTail walk seen current)) (walk_tail_of v walk seen current)
  unfolding access_of lock_effect
  walk_tail walk seen current =
      pick_both (All (Obeys v (At.WalkTail walk seen current)))
      (is_none v.node.tail)
      (stays v (at (At.WalkNext walk seen current)))
      (stays v (at (At.WalkHead walk seen v.node.tail)))
      (λ e. stays_obeys v (At.WalkTail walk seen current) (at (At.WalkNext walk seen current)) refl refl refl refl)
      (λ e. stays_obeys v (At.WalkTail walk seen current) (at (At.WalkHead walk seen v.node.tail))
      refl refl refl refl)

  walk_next : (walk : Walk) (seen : Word) (current : NodeNumber)
      → All (Obeys v (At.WalkNext walk seen current)) (walk_next_of v walk seen current)
  unfolding access_of lock_effect
  walk_next walk seen current =
      stays_obeys v (At.WalkNext walk seen current) (at (At.WalkPrev walk seen current (to_node v.node.next)))
      refl refl refl refl

  walk_prev : (walk : Walk) (seen : Word) (current next : NodeNumber)
      → All (Obeys v (At.WalkPrev walk seen current next)) (walk_prev_of v walk seen current next)
  unfolding access_of lock_effect
  walk_prev walk seen current next =
      links_obeys v (At.WalkPrev walk seen current next) (with_prev v.node current) (at (At.WalkTail walk seen next))
      (inl refl) refl refl refl refl

  module _ (walk : Walk) (seen : Word) (tail : NodeNumber) where
    abbrev head : Place
    head = At.WalkHead walk seen tail

    stored : (next : Onward)
        → is_yes next.answer ≡ false
        → is_done next.answer ≡ false
        → All (Obeys v head) (links v (with_tail v.node tail) next)
    unfolding access_of lock_effect
    stored next y d = links_obeys v head (with_tail v.node tail) next (inl refl) refl refl y d

    marked_by_lem : (who : Who) (k : Mark) → All (Obeys v head) (marked_by v (with_tail v.node tail) who seen tail k)
    marked_by_lem who Missing = tt
    marked_by_lem who Reader = stored (at (At.TakeCas who seen tail)) refl refl
    marked_by_lem who Writer =
        pick_both (All (Obeys v head))
        (downgraded seen)
        (links v (with_tail v.node tail) (at (At.TakeCas who seen tail)))
        (links v (with_tail v.node tail) (at (At.SplitPrev who seen tail)))
        (λ e. stored (at (At.TakeCas who seen tail)) refl refl)
        (λ e. stored (at (At.SplitPrev who seen tail)) refl refl)

    tail_found_lem : (who : Who) → All (Obeys v head) (tail_found v (with_tail v.node tail) who seen tail)
    tail_found_lem who =
        pick_both (All (Obeys v head))
        (locked seen)
        (pick (downgraded seen) (tail_marked v (with_tail v.node tail) who seen tail)
        (links v (with_tail v.node tail) (at (At.QueueCas who seen))))
        (tail_marked v (with_tail v.node tail) who seen tail)
        (λ e. pick_both (All (Obeys v head)) (downgraded seen) (tail_marked v (with_tail v.node tail) who seen tail)
        (links v (with_tail v.node tail) (at (At.QueueCas who seen)))
        (λ d. marked_by_lem who v.mark)
        (λ d. stored (at (At.QueueCas who seen)) refl refl))
        (λ e. marked_by_lem who v.mark)

  walk_head : (walk : Walk) (seen : Word) (tail : NodeNumber)
      → All (Obeys v (At.WalkHead walk seen tail)) (walk_head_of v walk seen tail)
  walk_head (Queue who) seen tail = tail_found_lem (Queue who) seen tail who
  walk_head ReadUnlock seen tail = stored ReadUnlock seen tail (at (At.Subtract seen tail)) refl refl
  walk_head Downgrade seen tail = stored Downgrade seen tail (at (At.WakePrev Leaver tail)) refl refl

  -- unlock_queue writes the word without granting or releasing
  module _ (p : Place) (seen : Word) (a : agrees_of v seen ≡ true) where
    kept_lock : (w : Word) (next : Onward)
        → lock_effect p v.holding (not (eqb w.0 v.word.0)) (stand_of next.place) ≡ keeps
        → Unless (writes_word (access_of v.me p).kind) (w ≡ v.word)
        → woken_by (access_of v.me p).kind (access_of v.me p).location ≡ None
        → is_yes next.answer ≡ and (tries p) false
        → Unless (not (acquires p)) (is_done next.answer ≡ false)
        → All (Obeys v p) (writes v w v.holding next)
    kept_lock w next e kind nobody y d =
        writes_obeys v p w v.holding next keeps e kind nobody refl y d
        (unless_any (not (is_weak (access_of v.me p).kind)) (no_fail seen w a))

  queue_unlocked : (who : Who) (seen : Word)
      → agrees_of v seen ≡ true
      → All (Obeys v (At.QueueCas who seen)) (writes v (clear_queue_locked seen) v.holding (after_queue who))
  unfolding access_of lock_effect tries acquires
  queue_unlocked (Waiter writer) seen a =
      kept_lock (At.QueueCas (Waiter writer) seen) seen a (clear_queue_locked seen) (at (At.CompletedLoad writer))
      refl tt refl refl refl
  queue_unlocked Leaver seen a =
      kept_lock (At.QueueCas Leaver seen) seen a (clear_queue_locked seen) (end Done) refl tt refl refl tt

  queue_cas : (who : Who) (seen : Word) → All (Obeys v (At.QueueCas who seen)) (queue_cas_of v who seen)
  unfolding access_of lock_effect
  queue_cas who seen =
      pick_both (All (Obeys v (At.QueueCas who seen)))
      (agrees_of v seen)
      (writes v (clear_queue_locked seen) v.holding (after_queue who))
      (walk_again v who)
      (queue_unlocked who seen)
      (λ a. stays_obeys v (At.QueueCas who seen) (walk_from (Queue who) v.word) refl refl refl refl)

  split_prev : (who : Who) (seen : Word) (tail : NodeNumber)
      → All (Obeys v (At.SplitPrev who seen tail)) (split_prev_of v who seen tail)
  unfolding access_of lock_effect
  split_prev who seen tail =
      pick_both (All (Obeys v (At.SplitPrev who seen tail)))
      (is_none v.node.prev)
      (stays v (at (At.TakeCas who seen tail)))
      (stays v (at (At.SplitStore who seen tail v.node.prev)))
      (λ e. stays_obeys v (At.SplitPrev who seen tail) (at (At.TakeCas who seen tail)) refl refl refl refl)
      (λ e. stays_obeys v (At.SplitPrev who seen tail) (at (At.SplitStore who seen tail v.node.prev))
      refl refl refl refl)

  split_store : (who : Who) (seen : Word) (tail prev : NodeNumber)
      → All (Obeys v (At.SplitStore who seen tail prev)) (split_store_of v who seen tail prev)
  unfolding access_of lock_effect
  split_store who seen tail prev =
      links_obeys v (At.SplitStore who seen tail prev) (with_tail v.node prev) (at (At.SplitCas who seen tail))
      (inl refl) refl refl refl refl

  split_taken : (who : Who) (seen : Word) (tail : NodeNumber)
      → agrees_of v seen ≡ true
      → All (Obeys v (At.SplitCas who seen tail))
      (writes v (clear_queue_locked seen) v.holding (at (At.WakeStore who tail none)))
  unfolding access_of lock_effect tries acquires
  split_taken who seen tail a =
      kept_lock (At.SplitCas who seen tail) seen a (clear_queue_locked seen) (at (At.WakeStore who tail none))
      refl tt refl refl (unless_any (not (by_waiter who)) refl)

  split_cas : (who : Who) (seen : Word) (tail : NodeNumber)
      → All (Obeys v (At.SplitCas who seen tail)) (split_cas_of v who seen tail)
  unfolding access_of lock_effect
  split_cas who seen tail =
      pick_both (All (Obeys v (At.SplitCas who seen tail)))
      (agrees_of v seen)
      (writes v (clear_queue_locked seen) v.holding (at (At.WakeStore who tail none)))
      (stays v (at (At.SplitRestore who seen tail v.word)))
      (split_taken who seen tail)
      (λ a. stays_obeys v (At.SplitCas who seen tail) (at (At.SplitRestore who seen tail v.word))
      refl refl refl refl)

  split_restore : (who : Who) (seen : Word) (tail : NodeNumber) (reported : Word)
      → All (Obeys v (At.SplitRestore who seen tail reported)) (split_restore_of v who seen tail reported)
  unfolding access_of lock_effect
  split_restore who seen tail reported =
      links_obeys v (At.SplitRestore who seen tail reported) (with_tail v.node tail) (walk_from (Queue who) reported)
      (inl refl) refl refl refl refl

  queue_taken : (who : Who) (seen : Word) (tail : NodeNumber)
      → agrees_of v seen ≡ true
      → All (Obeys v (At.TakeCas who seen tail)) (writes v (taken_of seen) v.holding (at (At.WakePrev who tail)))
  unfolding access_of lock_effect tries acquires
  queue_taken who seen tail a =
      kept_lock (At.TakeCas who seen tail) seen a (taken_of seen) (at (At.WakePrev who tail)) refl tt refl refl
      (unless_any (not (by_waiter who)) refl)

  take_cas : (who : Who) (seen : Word) (tail : NodeNumber)
      → All (Obeys v (At.TakeCas who seen tail)) (take_cas_of v who seen tail)
  unfolding access_of lock_effect
  take_cas who seen tail =
      pick_both (All (Obeys v (At.TakeCas who seen tail)))
      (agrees_of v seen)
      (writes v (taken_of seen) v.holding (at (At.WakePrev who tail)))
      (walk_again v who)
      (queue_taken who seen tail)
      (λ a. stays_obeys v (At.TakeCas who seen tail) (walk_from (Queue who) v.word) refl refl refl refl)

  wake_prev : (who : Who) (current : NodeNumber) → All (Obeys v (At.WakePrev who current)) (wake_prev_of v who current)
  unfolding access_of lock_effect
  wake_prev who current =
      stays_obeys v (At.WakePrev who current) (at (At.WakeStore who current v.node.prev)) refl refl refl refl

  -- completing wakes the owner, and grants nothing
  completed : (who : Who) (current prev : NodeNumber) (next : Onward)
      → is_yes next.answer ≡ false
      → Unless (not (by_waiter who)) (is_done next.answer ≡ false)
      → All (Obeys v (At.WakeStore who current prev)) (completes v (with_completed v.node) (owner_of current) next)
  unfolding access_of lock_effect tries acquires
  completed who current prev next y d =
      record {
        word = refl;
        node = inl refl;
        token = refl;
        woken = refl;
        holding = refl;
        yes = y;
        done = d;
        failed = tt;
      }

  completed_last : (who : Who) (current prev : NodeNumber)
      → All (Obeys v (At.WakeStore who current prev))
      (completes v (with_completed v.node) (owner_of current) (after_queue who))
  completed_last (Waiter writer) current prev =
      completed (Waiter writer) current prev (at (At.CompletedLoad writer)) refl refl
  completed_last Leaver current prev = completed Leaver current prev (end Done) refl tt

  wake_store : (who : Who) (current prev : NodeNumber)
      → All (Obeys v (At.WakeStore who current prev)) (wake_store_of v who current prev)
  wake_store who current prev =
      pick_both (All (Obeys v (At.WakeStore who current prev)))
      (is_none prev)
      (completes v (with_completed v.node) (owner_of current) (after_queue who))
      (completes v (with_completed v.node) (owner_of current) (at (At.WakePrev who prev)))
      (λ e. completed_last who current prev)
      (λ e. completed who current prev (at (At.WakePrev who prev)) refl (unless_any (not (by_waiter who)) refl))

  read_unlock_judged_lem : (p : Place)
      → woken_by (access_of v.me p).kind (access_of v.me p).location ≡ None
      → ((s : Stand) → at_end s ≡ false → lock_effect p v.holding false s ≡ keeps)
      → (r : ReadUnlocked)
      → All (Obeys v p) (read_unlock_by v v.word r)
  unfolding stand_of
  read_unlock_judged_lem p nobody quiet (UnlockTo _) =
      stays_obeys v p (at (At.ReadUnlockCas v.word)) nobody (quiet elsewhere refl) refl refl
  read_unlock_judged_lem p nobody quiet Contended =
      stays_obeys v p (walk_from ReadUnlock v.word) nobody (quiet walks refl) refl refl
  read_unlock_judged_lem p nobody quiet UnlockRefused = tt

  read_unlock_load : All (Obeys v At.ReadUnlockLoad) (read_unlock_load_of v)
  unfolding access_of lock_effect
  read_unlock_load = read_unlock_judged_lem At.ReadUnlockLoad refl (λ s e. refl) (read_unlock_of v.word)

  read_unlock_failed : (seen : Word) → All (Obeys v (At.ReadUnlockCas seen)) (read_unlock_judged v v.word)
  unfolding access_of lock_effect
  read_unlock_failed seen = read_unlock_judged_lem (At.ReadUnlockCas seen) refl (λ s e. rw e) (read_unlock_of v.word)

  read_unlock_compared : (seen : Word) (r : ReadUnlocked)
      → agrees_of v seen ≡ true
      → All (Obeys v (At.ReadUnlockCas seen)) (read_unlock_cas_by v r)
  unfolding access_of lock_effect tries acquires stand_of
  read_unlock_compared seen (UnlockTo to) a =
      writes_obeys v (At.ReadUnlockCas seen) to HoldsNothing (end Done) releases_read refl tt refl refl refl tt
      (no_fail seen to a)
  read_unlock_compared seen Contended a = read_unlock_failed seen
  read_unlock_compared seen UnlockRefused a = read_unlock_failed seen

  read_unlock_cas : (seen : Word) → All (Obeys v (At.ReadUnlockCas seen)) (read_unlock_cas_of v seen)
  read_unlock_cas seen =
      pick_both (All (Obeys v (At.ReadUnlockCas seen)))
      (agrees_of v seen)
      (read_unlock_cas_by v (read_unlock_of seen))
      (read_unlock_judged v v.word)
      (read_unlock_compared seen (read_unlock_of seen))
      (λ a. read_unlock_failed seen)

  module _ (seen : Word) (tail : NodeNumber) where
    abbrev fewer : Node
    fewer = with_next v.node (word (v.node.next.0 - SINGLE))

    abbrev Subtracted : Onward → Type 0
    Subtracted next = All (Obeys v (At.Subtract seen tail)) (subtracts v fewer HoldsNothing next)

    released_last : Subtracted (at (At.ReleaseCas seen))
    unfolding access_of lock_effect tries acquires stand_of
    released_last = record {
      word = refl;
      node = inl refl;
      token = refl;
      woken = refl;
      holding = refl;
      yes = refl;
      done = tt;
      failed = tt;
    }

    released_one : Subtracted (end Done)
    unfolding access_of lock_effect tries acquires stand_of
    released_one = record {
      word = refl;
      node = inl refl;
      token = refl;
      woken = refl;
      holding = refl;
      yes = refl;
      done = tt;
      failed = tt;
    }

    subtract : All (Obeys v (At.Subtract seen tail)) (subtract_of v seen tail)
    subtract =
        pick_both (All (Obeys v (At.Subtract seen tail)))
        (ltb v.node.next.0 SINGLE)
        (Err Damaged)
        (subtracts v fewer HoldsNothing (after_subtract seen (v.node.next.0 - SINGLE)))
        (λ e. tt)
        (λ e. pick_both Subtracted (eqb (v.node.next.0 - SINGLE) 0) (at (At.ReleaseCas seen)) (end Done)
        (λ z. released_last) (λ z. released_one))

  write_unlock_cas : All (Obeys v At.WriteUnlockCas) (write_unlock_cas_of v)
  unfolding access_of lock_effect tries acquires stand_of
  write_unlock_cas =
      pick_both (All (Obeys v At.WriteUnlockCas))
      (eqb v.word.0 LOCKED)
      (writes v (word 0) HoldsNothing (end Done))
      (stays v (at (At.ReleaseCas v.word)))
      (λ e. writes_obeys v At.WriteUnlockCas (word 0) HoldsNothing (end Done) releases_write
      refl tt refl refl refl tt tt)
      (λ e. stays_obeys v At.WriteUnlockCas (at (At.ReleaseCas v.word)) refl refl refl refl)

  -- whoever releases holds nothing afterwards
  release_held : (h : Holding) → HoldsNothing ≡ held_after (release_of h) h
  release_held HoldsNothing = refl
  release_held Read = refl
  release_held Write = refl

  module _ (seen : Word) where
    abbrev Released : Onward → Type 0
    Released next = All (Obeys v (At.ReleaseCas seen)) (writes v (released_to seen) HoldsNothing next)

    released : agrees_of v seen ≡ true → Released (after_release seen (released_to seen))
    unfolding access_of lock_effect tries acquires stand_of
    released a =
        pick_both Released
        (queue_locked seen)
        (end Done)
        (walk_from (Queue Leaver) (released_to seen))
        (λ q. writes_obeys v (At.ReleaseCas seen) (released_to seen) HoldsNothing (end Done) (release_of v.holding)
        refl tt refl (release_held v.holding) refl tt (no_fail seen (released_to seen) a))
        (λ q. writes_obeys v (At.ReleaseCas seen) (released_to seen) HoldsNothing
        (walk_from (Queue Leaver) (released_to seen)) (release_of v.holding) refl tt refl
        (release_held v.holding) refl tt (no_fail seen (released_to seen) a))

    release_cas : All (Obeys v (At.ReleaseCas seen)) (release_cas_of v seen)
    unfolding access_of lock_effect stand_of
    release_cas =
        pick_both (All (Obeys v (At.ReleaseCas seen)))
        (agrees_of v seen)
        (writes v (released_to seen) HoldsNothing (after_release seen (released_to seen)))
        (stays v (at (At.ReleaseCas v.word)))
        released
        (λ a. stays_obeys v (At.ReleaseCas seen) (at (At.ReleaseCas v.word)) refl refl refl refl)

  downgrade_cas : All (Obeys v At.DowngradeCas) (downgrade_cas_of v)
  unfolding access_of lock_effect tries acquires stand_of
  downgrade_cas =
      pick_both (All (Obeys v At.DowngradeCas))
      (eqb v.word.0 LOCKED)
      (writes v (word (SINGLE + LOCKED)) Read (end Done))
      (stays v (at (At.DowngradeSlowCas v.word)))
      (λ e. writes_obeys v At.DowngradeCas (word (SINGLE + LOCKED)) Read (end Done) downgrades
      refl tt refl refl refl tt tt)
      (λ e. stays_obeys v At.DowngradeCas (at (At.DowngradeSlowCas v.word)) refl refl refl refl)

  module _ (seen : Word) where
    abbrev Downgraded : Onward → Type 0
    Downgraded next = All (Obeys v (At.DowngradeSlowCas seen)) (writes v (downgraded_word seen) Read next)

    downgraded_slow : agrees_of v seen ≡ true → Downgraded (after_downgrade seen)
    unfolding access_of lock_effect tries acquires stand_of
    downgraded_slow a =
        pick_both Downgraded
        (queue_locked seen)
        (end Done)
        (walk_from Downgrade seen)
        (λ q. writes_obeys v (At.DowngradeSlowCas seen) (downgraded_word seen) Read (end Done) downgrades
        refl tt refl refl refl tt (no_fail seen (downgraded_word seen) a))
        (λ q. writes_obeys v (At.DowngradeSlowCas seen) (downgraded_word seen) Read (walk_from Downgrade seen)
        downgrades refl tt refl refl refl tt (no_fail seen (downgraded_word seen) a))

    downgrade_slow_cas : All (Obeys v (At.DowngradeSlowCas seen)) (downgrade_slow_cas_of v seen)
    unfolding access_of lock_effect stand_of
    downgrade_slow_cas =
        pick_both (All (Obeys v (At.DowngradeSlowCas seen)))
        (agrees_of v seen)
        (writes v (downgraded_word seen) Read (after_downgrade seen))
        (stays v (at (At.DowngradeSlowCas v.word)))
        downgraded_slow
        (λ a. stays_obeys v (At.DowngradeSlowCas seen) (at (At.DowngradeSlowCas v.word)) refl refl refl refl)

-- every rule obeys, at every place
pub obeys : (v : View) (p : Place) → All (Obeys v p) (advance_of v p)
unfolding advance_of
obeys v At.Idle = tt
obeys v (At.TryReadLoad blocking) = try_read_load v blocking
obeys v (At.TryReadCas blocking seen) = try_read_cas v blocking seen
obeys v (At.TryWriteOr blocking) = try_write_or v blocking
obeys v (At.ContendLoad writer reloads) = contend_load v writer reloads
obeys v (At.ContendCas writer reloads seen) = contend_cas v writer reloads seen
obeys v (At.RegisterCas writer reloads seen) = register_cas v writer reloads seen
obeys v (At.CompletedLoad writer) = completed_load v writer
obeys v (At.Park writer) = park v writer
obeys v (At.WalkTail walk seen current) = walk_tail v walk seen current
obeys v (At.WalkNext walk seen current) = walk_next v walk seen current
obeys v (At.WalkPrev walk seen current next) = walk_prev v walk seen current next
obeys v (At.WalkHead walk seen tail) = walk_head v walk seen tail
obeys v (At.QueueCas who seen) = queue_cas v who seen
obeys v (At.SplitPrev who seen tail) = split_prev v who seen tail
obeys v (At.SplitStore who seen tail prev) = split_store v who seen tail prev
obeys v (At.SplitCas who seen tail) = split_cas v who seen tail
obeys v (At.SplitRestore who seen tail reported) = split_restore v who seen tail reported
obeys v (At.TakeCas who seen tail) = take_cas v who seen tail
obeys v (At.WakePrev who current) = wake_prev v who current
obeys v (At.WakeStore who current prev) = wake_store v who current prev
obeys v At.ReadUnlockLoad = read_unlock_load v
obeys v (At.ReadUnlockCas seen) = read_unlock_cas v seen
obeys v (At.Subtract seen tail) = subtract v seen tail
obeys v At.WriteUnlockCas = write_unlock_cas v
obeys v (At.ReleaseCas seen) = release_cas v seen
obeys v At.DowngradeCas = downgrade_cas v
obeys v (At.DowngradeSlowCas seen) = downgrade_slow_cas v seen
