-- Every rule's ends, once: what holds of each way in which a place's rule can end holds of the rule. A promise about
-- steps is then a table of places, not a case for each test. In document 01's order: attempts; contending and waiting;
-- find tail, unlock queue and complete all; unlocks and downgrade. A way to end that is a compare's success comes with
-- what the compare found.
-- Not here: the rules (acquire, walk, unlock, release); what they obey (Obeys.antt).
-- Assumes nothing.
use Rattle.std.specs.Prelude.{ℕ, ◌+◌, ◌-◌, Bool, true, false, ◌≡◌, refl, eqb, ltb, Option, Some, None}
use Rattle.word.specs.Cases.{pick_both}
use Rattle.word.specs.Flags.{word, LOCKED, SINGLE, clear_queue_locked, queued, queue_locked, locked, downgraded}
use Rattle.word.specs.Flags.{set_locked}
use Rattle.word.specs.Number.{is_none, none, owner_of}
use Rattle.word.specs.Rules.{registered_of, taken_of, read_lock_of, read_unlock_of}
use Rattle.word.specs.declared.flags.Word.{Word}
use Rattle.word.specs.declared.number.NodeNumber.{NodeNumber}
use Rattle.word.specs.declared.rules.ReadUnlocked.{ReadUnlocked}
use Rattle.word.specs.declared.rules.ReadUnlocked.TheVariants.{To as UnlockTo, Contended, Refused as UnlockRefused}
use Rattle.state.specs.Holding.{granted_read, granted_write, released_read, released_write, downgraded_to}
use Rattle.state.specs.Node.{with_next, with_tail, with_completed}
use Rattle.state.specs.View.{at, end, granted, after_queue, walk_from, agrees_of}
use Rattle.state.specs.View.{stays, writes, links, subtracts, completes, parks}
use Rattle.state.specs.declared.answer.Answer.TheVariants.{Done}
use Rattle.state.specs.declared.holding.Holding.{Holding}
use Rattle.state.specs.declared.place.Place.{Place}
use Rattle.state.specs.declared.place.Place.TheVariants as At
use Rattle.state.specs.declared.place.Walk.{Walk}
use Rattle.state.specs.declared.place.Walk.TheVariants.{Queue, ReadUnlock, Downgrade}
use Rattle.state.specs.declared.place.Who.{Who}
use Rattle.state.specs.declared.place.Who.TheVariants.{Waiter, Leaver}
use Rattle.state.specs.declared.view.Change.{Change}
use Rattle.state.specs.declared.view.Mark.{Mark}
use Rattle.state.specs.declared.view.Mark.TheVariants.{Missing, Reader, Writer}
use Rattle.state.specs.declared.view.Next.{Next}
use Rattle.state.specs.declared.view.View.{View}
use Rattle.walk.specs.CompleteAll.{wake_store_of}
use Rattle.walk.specs.FindTail.{walk_tail_of}
use Rattle.acquire.specs.LockContended.{permitted_of, granted_of, fill_of, contend_by, contend_judged, contend_cas_by}
use Rattle.acquire.specs.LockContended.{contend_cas_of}
use Rattle.acquire.specs.LockContended.{register_cas_of, spin_count}
use Rattle.acquire.specs.TryRead.{try_read_refused, try_read_by, try_read_judged, try_read_cas_by, try_read_cas_of}
use Rattle.acquire.specs.TryWrite.{try_write_refused, try_write_or_of}
use Rattle.acquire.specs.Wait.{completed_load_of, park_of}
use Rattle.unlock.specs.AfterWalk.{marked_by, tail_found}
use Rattle.unlock.specs.UnlockQueue.{walk_again, queue_cas_of, split_prev_of, split_cas_of, take_cas_of}
use Rattle.release.specs.Downgrade.{downgrade_cas_of, downgraded_word, downgrade_slow_cas_of}
use Rattle.release.specs.ReadUnlock.{read_unlock_by, read_unlock_judged, read_unlock_cas_by, read_unlock_cas_of}
use Rattle.release.specs.ReadUnlock.{subtract_of}
use Rattle.release.specs.UnlockContended.{released_to, release_cas_of}
use Rattle.release.specs.WriteUnlock.{write_unlock_cas_of}
use Rattle.promises.proofs.Obeys.{All}

module _ (v : View) (P : Change → Type 0) where
  -- nothing changed, and the call goes on at a place
  abbrev Goes : Place → Type 0
  Goes p = All P (stays v (at p))

  -- the word was written
  abbrev Wrote : Word → Holding → Next → Type 0
  Wrote w h next = All P (writes v w h next)

  -- a compare found the word seen
  abbrev Agreed : Word → Type 0
  Agreed seen = agrees_of v seen ≡ true

  -- ── attempts ──

  pub try_read_ends : (blocking : Bool)
      → Goes (At.TryReadCas blocking v.word)
      → All P (stays v (try_read_refused blocking))
      → All P (try_read_judged v blocking v.word)
  try_read_ends blocking compares refused = by (read_lock_of v.word)
    where
      by : (r : Option Word) → All P (try_read_by v blocking v.word r)
      by (Some to) = compares
      by None = refused

  pub try_read_cas_ends : (blocking : Bool) (seen : Word)
      → ((to : Word) → read_lock_of seen ≡ Some to → Agreed seen
      → Wrote to (granted_read v.holding) (granted blocking))
      → All P (try_read_judged v blocking v.word)
      → All P (try_read_cas_of v blocking seen)
  try_read_cas_ends blocking seen grants again =
      pick_both (All P) (agrees_of v seen) _ _ (λ a. by (read_lock_of seen) refl a) (λ _. again)
    where
      by : (r : Option Word) → read_lock_of seen ≡ r → Agreed seen → All P (try_read_cas_by v blocking r)
      by (Some to) e a = grants to e a
      by None e a = again

  pub try_write_ends : (blocking : Bool)
      → (locked v.word ≡ true → All P (stays v (try_write_refused blocking)))
      → (locked v.word ≡ false → Wrote (set_locked v.word) (granted_write v.holding) (granted blocking))
      → All P (try_write_or_of v blocking)
  try_write_ends blocking refused grants = pick_both (All P) (locked v.word) _ _ refused grants

  -- ── contending and waiting ──

  pub contend_ends : (writer : Bool) (reloads : ℕ)
      → Goes (At.ContendCas writer reloads v.word)
      → Goes (At.ContendLoad writer (reloads + 1))
      → All P (fill_of v writer reloads v.word)
      → All P (contend_judged v writer reloads v.word)
  contend_ends writer reloads compares reload fill = by (permitted_of writer v.word)
    where
      by : (r : Option Word) → All P (contend_by v writer reloads v.word r)
      by (Some to) = compares
      by None =
          pick_both (All P)
          (queued v.word)
          _
          _
          (λ _. fill)
          (λ _. pick_both (All P) (ltb reloads spin_count) _ _ (λ _. reload) (λ _. fill))

  pub contend_cas_ends : (writer : Bool) (reloads : ℕ) (seen : Word)
      → ((to : Word) → permitted_of writer seen ≡ Some to → Agreed seen
      → Wrote to (granted_of writer v.holding) (end Done))
      → All P (contend_judged v writer reloads v.word)
      → All P (contend_cas_of v writer reloads seen)
  contend_cas_ends writer reloads seen grants again =
      pick_both (All P) (agrees_of v seen) _ _ (λ a. by (permitted_of writer seen) refl a) (λ _. again)
    where
      by : (r : Option Word) → permitted_of writer seen ≡ r → Agreed seen → All P (contend_cas_by v writer reloads r)
      by (Some to) e a = grants to e a
      by None e a = again

  -- registered, and the call goes on
  abbrev Registered : Word → Next → Type 0
  Registered seen next = Wrote (registered_of seen v.me) v.holding next

  pub register_ends : (writer : Bool) (reloads : ℕ) (seen : Word)
      → Registered seen (at (At.CompletedLoad writer))
      → Registered seen (walk_from (Queue (Waiter writer)) (registered_of seen v.me))
      → All P (contend_judged v writer reloads v.word)
      → All P (register_cas_of v writer reloads seen)
  register_ends writer reloads seen waits walks again =
      pick_both (All P)
      (agrees_of v seen)
      _
      _
      (λ _. pick_both (Registered seen)
      (queued seen)
      _
      _
      (λ _. pick_both (Registered seen) (queue_locked seen) _ _ (λ _. waits) (λ _. walks))
      (λ _. waits))
      (λ _. again)

  pub completed_ends : (writer : Bool)
      → Goes (At.ContendLoad writer 0)
      → Goes (At.Park writer)
      → All P (completed_load_of v writer)
  completed_ends writer set clear = pick_both (All P) v.node.completed _ _ (λ _. set) (λ _. clear)

  pub park_ends : (writer : Bool)
      → (v.fails ≡ true → All P (parks v v.token (at (At.CompletedLoad writer))))
      → (v.fails ≡ false → All P (parks v false (at (At.CompletedLoad writer))))
      → All P (park_of v writer)
  park_ends writer fails takes = pick_both (All P) v.fails _ _ fails takes

  -- ── find tail, unlock queue, complete all ──

  pub walk_tail_ends : (walk : Walk) (seen : Word) (current : NodeNumber)
      → Goes (At.WalkNext walk seen current)
      → Goes (At.WalkHead walk seen v.node.tail)
      → All P (walk_tail_of v walk seen current)
  walk_tail_ends walk seen current missing set =
      pick_both (All P) (is_none v.node.tail) _ _ (λ _. missing) (λ _. set)

  module _ (who : Who) (seen : Word) (tail : NodeNumber) where
    -- the tail was stored in the head
    abbrev Stored : Place → Type 0
    Stored p = All P (links v (with_tail v.node tail) (at p))

    pub found_ends : Stored (At.TakeCas who seen tail)
        → Stored (At.SplitPrev who seen tail)
        → Stored (At.QueueCas who seen)
        → All P (tail_found v (with_tail v.node tail) who seen tail)
    found_ends take split leave =
        pick_both (All P)
        (locked seen)
        _
        _
        (λ _. pick_both (All P) (downgraded seen) _ _ (λ _. marked v.mark) (λ _. leave))
        (λ _. marked v.mark)
      where
        marked : (mark : Mark) → All P (marked_by v (with_tail v.node tail) who seen tail mark)
        marked Missing = tt
        marked Reader = take
        marked Writer = pick_both (All P) (downgraded seen) _ _ (λ _. take) (λ _. split)

    pub split_prev_ends : Goes (At.TakeCas who seen tail)
        → Goes (At.SplitStore who seen tail v.node.prev)
        → All P (split_prev_of v who seen tail)
    split_prev_ends missing set = pick_both (All P) (is_none v.node.prev) _ _ (λ _. missing) (λ _. set)

    pub split_cas_ends : Wrote (clear_queue_locked seen) v.holding (at (At.WakeStore who tail none))
        → Goes (At.SplitRestore who seen tail v.word)
        → All P (split_cas_of v who seen tail)
    split_cas_ends splits fails = pick_both (All P) (agrees_of v seen) _ _ (λ _. splits) (λ _. fails)

    pub take_cas_ends : Wrote (taken_of seen) v.holding (at (At.WakePrev who tail))
        → All P (walk_again v who)
        → All P (take_cas_of v who seen tail)
    take_cas_ends takes again = pick_both (All P) (agrees_of v seen) _ _ (λ _. takes) (λ _. again)

  pub queue_cas_ends : (who : Who) (seen : Word)
      → Wrote (clear_queue_locked seen) v.holding (after_queue who)
      → All P (walk_again v who)
      → All P (queue_cas_of v who seen)
  queue_cas_ends who seen unlocks again = pick_both (All P) (agrees_of v seen) _ _ (λ _. unlocks) (λ _. again)

  pub wake_store_ends : (who : Who) (current prev : NodeNumber)
      → All P (completes v (with_completed v.node) (owner_of current) (after_queue who))
      → All P (completes v (with_completed v.node) (owner_of current) (at (At.WakePrev who prev)))
      → All P (wake_store_of v who current prev)
  wake_store_ends who current prev last more = pick_both (All P) (is_none prev) _ _ (λ _. last) (λ _. more)

  -- ── unlocks and downgrade ──

  pub read_unlock_ends : Goes (At.ReadUnlockCas v.word)
      → All P (stays v (walk_from ReadUnlock v.word))
      → All P (read_unlock_judged v v.word)
  read_unlock_ends compares walks = by (read_unlock_of v.word)
    where
      by : (r : ReadUnlocked) → All P (read_unlock_by v v.word r)
      by (UnlockTo to) = compares
      by Contended = walks
      by UnlockRefused = tt

  pub read_unlock_cas_ends : (seen : Word)
      → ((to : Word) → read_unlock_of seen ≡ UnlockTo to → Agreed seen → Wrote to (released_read v.holding) (end Done))
      → All P (read_unlock_judged v v.word)
      → All P (read_unlock_cas_of v seen)
  read_unlock_cas_ends seen releases again =
      pick_both (All P) (agrees_of v seen) _ _ (λ a. by (read_unlock_of seen) refl a) (λ _. again)
    where
      by : (r : ReadUnlocked) → read_unlock_of seen ≡ r → Agreed seen → All P (read_unlock_cas_by v r)
      by (UnlockTo to) e a = releases to e a
      by Contended e a = again
      by UnlockRefused e a = again

  -- 16 was subtracted from the tail's next
  abbrev Subtracted : Next → Type 0
  Subtracted next =
      All P (subtracts v (with_next v.node (word (v.node.next.0 - SINGLE))) (released_read v.holding) next)

  pub subtract_ends : (seen : Word) (tail : NodeNumber)
      → Subtracted (at (At.ReleaseCas seen))
      → Subtracted (end Done)
      → All P (subtract_of v seen tail)
  subtract_ends seen tail last one =
      pick_both (All P)
      (ltb v.node.next.0 SINGLE)
      _
      _
      (λ _. tt)
      (λ _. pick_both Subtracted (eqb (v.node.next.0 - SINGLE) 0) _ _ (λ _. last) (λ _. one))

  pub write_unlock_ends : (eqb v.word.0 LOCKED ≡ true → Wrote (word 0) (released_write v.holding) (end Done))
      → Goes (At.ReleaseCas v.word)
      → All P (write_unlock_cas_of v)
  write_unlock_ends unlocks fails = pick_both (All P) (eqb v.word.0 LOCKED) _ _ unlocks (λ _. fails)

  module _ (seen : Word) where
    abbrev Released : Next → Type 0
    Released next = Wrote (released_to seen) (released_write v.holding) next

    pub release_ends : (Agreed seen → Released (end Done))
        → (Agreed seen → Released (walk_from (Queue Leaver) (released_to seen)))
        → Goes (At.ReleaseCas v.word)
        → All P (release_cas_of v seen)
    release_ends ended walks fails =
        pick_both (All P)
        (agrees_of v seen)
        _
        _
        (λ a. pick_both Released (queue_locked seen) _ _ (λ _. ended a) (λ _. walks a))
        (λ _. fails)

    abbrev Downgraded : Next → Type 0
    Downgraded next = Wrote (downgraded_word seen) (downgraded_to v.holding) next

    pub downgrade_slow_ends : (Agreed seen → Downgraded (end Done))
        → (Agreed seen → Downgraded (walk_from Downgrade seen))
        → Goes (At.DowngradeSlowCas v.word)
        → All P (downgrade_slow_cas_of v seen)
    downgrade_slow_ends ended walks fails =
        pick_both (All P)
        (agrees_of v seen)
        _
        _
        (λ a. pick_both Downgraded (queue_locked seen) _ _ (λ _. ended a) (λ _. walks a))
        (λ _. fails)

  pub downgrade_ends : (eqb v.word.0 LOCKED ≡ true
      → Wrote (word (SINGLE + LOCKED)) (downgraded_to v.holding) (end Done))
      → Goes (At.DowngradeSlowCas v.word)
      → All P (downgrade_cas_of v)
  downgrade_ends downgrades fails = pick_both (All P) (eqb v.word.0 LOCKED) _ _ downgrades (λ _. fails)
