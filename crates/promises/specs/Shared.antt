-- What an access may change, and what a step may answer and hold: tables that the statements share with the proof that
-- every rule obeys. In order: what an access may change, by its kind and location; calls that ask for the lock, by
-- place; answers; what a step at a place does, as far as the statements on one access and on grants go.
-- Not here: what is left at an access and where a step goes on to, exactly (Tables.antt, Goes.antt); that the rules do
-- so (Obeys.antt).
-- Assumes nothing.
use Rattle.std.specs.Prelude.{Bool, true, false, not, ◌≡◌, ◌⊎◌, eqb, Option, None}
use Rattle.word.specs.Number.{owner_of}
use Rattle.word.specs.declared.number.ThreadNumber.{ThreadNumber}
use Rattle.state.specs.Access.{access_of}
use Rattle.state.specs.Node.{filled_of, with_next, with_prev, with_tail}
use Rattle.state.specs.declared.access.Access.{Access}
use Rattle.state.specs.declared.access.Kind.{Kind}
use Rattle.state.specs.declared.access.Kind.TheVariants.{Nothing, Load, Store, WeakCompare, StrongCompare, FetchOr}
use Rattle.state.specs.declared.access.Kind.TheVariants.{Subtract as Subtracting, Complete, Park as Parking}
use Rattle.state.specs.declared.access.Location.{Location}
use Rattle.state.specs.declared.access.Location.TheVariants.{Nowhere, Word as TheWord, Next, Prev, Tail, Completed}
use Rattle.state.specs.declared.access.Location.TheVariants.{Token}
use Rattle.state.specs.declared.answer.Answer.{Answer}
use Rattle.state.specs.declared.answer.Answer.TheVariants.{Begun, Went, Done, Yes, No}
use Rattle.state.specs.declared.node.Node.{Node}
use Rattle.state.specs.declared.place.Who.{Who}
use Rattle.state.specs.declared.place.Who.TheVariants.{Waiter, Leaver}
use Rattle.state.specs.declared.place.Walk.{Walk}
use Rattle.state.specs.declared.place.Walk.TheVariants.{Queue, ReadUnlock, Downgrade}
use Rattle.state.specs.declared.place.Place.{Place}
use Rattle.state.specs.declared.place.Place.TheVariants.{Idle, TryReadLoad, TryReadCas, TryWriteOr, ContendLoad}
use Rattle.state.specs.declared.place.Place.TheVariants.{ContendCas, RegisterCas, CompletedLoad, Park, WalkTail}
use Rattle.state.specs.declared.place.Place.TheVariants.{WalkNext, WalkPrev, WalkHead, QueueCas, SplitPrev, SplitStore}
use Rattle.state.specs.declared.place.Place.TheVariants.{SplitCas, SplitRestore, TakeCas, WakePrev, WakeStore}
use Rattle.state.specs.declared.place.Place.TheVariants.{ReadUnlockLoad, ReadUnlockCas, Subtract, WriteUnlockCas}
use Rattle.state.specs.declared.place.Place.TheVariants.{ReleaseCas, DowngradeCas, DowngradeSlowCas}
use Rattle.state.specs.declared.view.View.{View}
use Rattle.state.specs.declared.view.Change.{Change}
use Rattle.lock.specs.Effect.{LockEffect, lock_effect, stand_of, held_after, grants}
use Rattle.lock.specs.Effect.{QueueEffect, stands, registers, sets_aside, restores, takes_tail, takes_all, completes}
use Rattle.promises.specs.Refusals.{and}

-- ── what an access may change ──

-- a compare or a fetch-or writes the word; an access of any other kind leaves it
abbrev pub writes_word : Kind → Bool
writes_word Nothing = false
writes_word Load = false
writes_word Store = false
writes_word WeakCompare = true
writes_word StrongCompare = true
writes_word FetchOr = true
writes_word Subtracting = false
writes_word Complete = false
writes_word Parking = false

abbrev pub is_weak : Kind → Bool
is_weak Nothing = false
is_weak Load = false
is_weak Store = false
is_weak WeakCompare = true
is_weak StrongCompare = false
is_weak FetchOr = false
is_weak Subtracting = false
is_weak Complete = false
is_weak Parking = false

-- park alone takes the thread's own token
abbrev pub takes_token : Kind → Bool
takes_token Nothing = false
takes_token Load = false
takes_token Store = false
takes_token WeakCompare = false
takes_token StrongCompare = false
takes_token FetchOr = false
takes_token Subtracting = false
takes_token Complete = false
takes_token Parking = true

-- a node before, with the one field at a location as it is after
abbrev pub field_at : Location → Node → Node → Node
field_at Nowhere after before = before
field_at TheWord after before = before
field_at (Next n) after before = with_next before after.next
field_at (Prev n) after before = with_prev before after.prev
field_at (Tail n) after before = with_tail before after.tail
field_at (Completed n) after before =
    record {
      next = before.next;
      prev = before.prev;
      tail = before.tail;
      writer = before.writer;
      completed = after.completed;
    }
field_at (Token t) after before = before

-- a store, a subtraction and completing change the node's field at the location; other accesses change no node
abbrev pub kept_by : Kind → Location → Node → Node → Node
kept_by Nothing l after before = before
kept_by Load l after before = before
kept_by Store l after before = field_at l after before
kept_by WeakCompare l after before = before
kept_by StrongCompare l after before = before
kept_by FetchOr l after before = before
kept_by Subtracting l after before = field_at l after before
kept_by Complete l after before = field_at l after before
kept_by Parking l after before = before

abbrev pub kept_but : Access → Node → Node → Node
kept_but a after before = kept_by a.kind a.location after before

-- the places whose local code may fill the thread's own, unregistered node
unfoldable pub fills : Place → Bool
fills Idle = false
fills (TryReadLoad _) = false
fills (TryReadCas _ _) = false
fills (TryWriteOr _) = false
fills (ContendLoad _ _) = true
fills (ContendCas _ _ _) = true
fills (RegisterCas _ _ _) = true
fills (CompletedLoad _) = false
fills (Park _) = false
fills (WalkTail _ _ _) = false
fills (WalkNext _ _ _) = false
fills (WalkPrev _ _ _ _) = false
fills (WalkHead _ _ _) = false
fills (QueueCas _ _) = false
fills (SplitPrev _ _ _) = false
fills (SplitStore _ _ _ _) = false
fills (SplitCas _ _ _) = false
fills (SplitRestore _ _ _ _) = false
fills (TakeCas _ _ _) = false
fills (WakePrev _ _) = false
fills (WakeStore _ _ _) = false
fills ReadUnlockLoad = false
fills (ReadUnlockCas _) = false
fills (Subtract _ _) = false
fills WriteUnlockCas = false
fills (ReleaseCas _) = false
fills DowngradeCas = false
fills (DowngradeSlowCas _) = false

abbrev pub owner_at : Location → Option ThreadNumber
owner_at Nowhere = None
owner_at TheWord = None
owner_at (Next n) = None
owner_at (Prev n) = None
owner_at (Tail n) = None
owner_at (Completed n) = owner_of n
owner_at (Token t) = None

-- completing wakes the owner of its node; nothing else wakes anybody
abbrev pub woken_by : Kind → Location → Option ThreadNumber
woken_by Nothing l = None
woken_by Load l = None
woken_by Store l = None
woken_by WeakCompare l = None
woken_by StrongCompare l = None
woken_by FetchOr l = None
woken_by Subtracting l = None
woken_by Complete l = owner_at l
woken_by Parking l = None

-- the whole queue was taken off
abbrev pub took_all : QueueEffect → Bool
took_all stands = false
took_all (registers k) = false
took_all (sets_aside k) = false
took_all (restores k) = false
took_all (takes_tail k) = false
took_all takes_all = true
took_all (completes k) = false

-- ── calls that ask for the lock ──

abbrev pub by_waiter : Who → Bool
by_waiter (Waiter writer) = true
by_waiter Leaver = false

abbrev pub walk_of_waiter : Walk → Bool
walk_of_waiter (Queue who) = by_waiter who
walk_of_waiter ReadUnlock = false
walk_of_waiter Downgrade = false

-- inside try_read or try_write
unfoldable pub tries : Place → Bool
tries Idle = false
tries (TryReadLoad blocking) = not blocking
tries (TryReadCas blocking _) = not blocking
tries (TryWriteOr blocking) = not blocking
tries (ContendLoad _ _) = false
tries (ContendCas _ _ _) = false
tries (RegisterCas _ _ _) = false
tries (CompletedLoad _) = false
tries (Park _) = false
tries (WalkTail _ _ _) = false
tries (WalkNext _ _ _) = false
tries (WalkPrev _ _ _ _) = false
tries (WalkHead _ _ _) = false
tries (QueueCas _ _) = false
tries (SplitPrev _ _ _) = false
tries (SplitStore _ _ _ _) = false
tries (SplitCas _ _ _) = false
tries (SplitRestore _ _ _ _) = false
tries (TakeCas _ _ _) = false
tries (WakePrev _ _) = false
tries (WakeStore _ _ _) = false
tries ReadUnlockLoad = false
tries (ReadUnlockCas _) = false
tries (Subtract _ _) = false
tries WriteUnlockCas = false
tries (ReleaseCas _) = false
tries DowngradeCas = false
tries (DowngradeSlowCas _) = false

-- inside read or write
unfoldable pub acquires : Place → Bool
acquires Idle = false
acquires (TryReadLoad blocking) = blocking
acquires (TryReadCas blocking _) = blocking
acquires (TryWriteOr blocking) = blocking
acquires (ContendLoad _ _) = true
acquires (ContendCas _ _ _) = true
acquires (RegisterCas _ _ _) = true
acquires (CompletedLoad _) = true
acquires (Park _) = true
acquires (WalkTail walk _ _) = walk_of_waiter walk
acquires (WalkNext walk _ _) = walk_of_waiter walk
acquires (WalkPrev walk _ _ _) = walk_of_waiter walk
acquires (WalkHead walk _ _) = walk_of_waiter walk
acquires (QueueCas who _) = by_waiter who
acquires (SplitPrev who _ _) = by_waiter who
acquires (SplitStore who _ _ _) = by_waiter who
acquires (SplitCas who _ _) = by_waiter who
acquires (SplitRestore who _ _ _) = by_waiter who
acquires (TakeCas who _ _) = by_waiter who
acquires (WakePrev who _) = by_waiter who
acquires (WakeStore who _ _) = by_waiter who
acquires ReadUnlockLoad = false
acquires (ReadUnlockCas _) = false
acquires (Subtract _ _) = false
acquires WriteUnlockCas = false
acquires (ReleaseCas _) = false
acquires DowngradeCas = false
acquires (DowngradeSlowCas _) = false

-- ── answers ──

abbrev pub is_yes : Answer → Bool
is_yes Begun = false
is_yes Went = false
is_yes Done = false
is_yes Yes = true
is_yes No = false

abbrev pub is_done : Answer → Bool
is_done Begun = false
is_done Went = false
is_done Done = true
is_done Yes = false
is_done No = false

abbrev pub is_no : Answer → Bool
is_no Begun = false
is_no Went = false
is_no Done = false
is_no Yes = false
is_no No = true

abbrev pub is_went : Answer → Bool
is_went Begun = false
is_went Went = true
is_went Done = false
is_went Yes = false
is_went No = false

-- done, yes and no end a call
abbrev pub ends : Answer → Bool
ends Begun = false
ends Went = false
ends Done = true
ends Yes = true
ends No = true

-- ── what a step at a place does, as far as the theorems go ──

-- a fact that is claimed only where a test fails
abbrev pub Unless : Bool → Type 0 → Type 0
Unless true T = Unit
Unless false T = T

-- the effect on the lock of a change seen from a view
abbrev pub lock_done : View → Place → Change → LockEffect
lock_done v p c = lock_effect p v.holding (not (eqb c.word.0 v.word.0)) (stand_of c.thread.place)

pub record Obeys (v : View) (p : Place) (c : Change) : Type 0 where
  -- the word stays, unless the access is a compare or a fetch-or
  pub word : Unless (writes_word (access_of v.me p).kind) (c.word ≡ v.word)
  -- the node stays but for the field accessed; or it is the own one, filled
  pub node : (c.node ≡ kept_but (access_of v.me p) c.node v.node)
      ⊎ ((fills p ≡ true) × ((writer : Bool) × (c.node ≡ filled_of v.me writer v.word)))
  -- the own token stays, unless the access is park
  pub token : Unless (takes_token (access_of v.me p).kind) (c.thread.token ≡ v.token)
  -- only completing wakes, and it wakes the owner
  pub woken : c.woken ≡ woken_by (access_of v.me p).kind (access_of v.me p).location
  -- the holding is what the effect makes of it
  pub holding : c.thread.holding ≡ held_after (lock_done v p c) v.holding
  -- yes exactly at the grant of a try
  pub yes : is_yes c.answer ≡ and (tries p) (grants (lock_done v p c))
  -- done of read and write exactly at the grant
  pub done : Unless (not (acquires p)) (is_done c.answer ≡ grants (lock_done v p c))
  -- a weak compare that is made to fail writes no word
  pub failed : Unless (not (is_weak (access_of v.me p).kind)) (v.fails ≡ true → c.word ≡ v.word)
