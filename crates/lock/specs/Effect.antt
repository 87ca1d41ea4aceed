-- What an event did to the lock and to the queue, read off the machine before and the machine after it. A refused
-- event, which leaves the machine as it was, did nothing.
-- Assumes nothing.
use Rattle.std.specs.Prelude.{Bool, true, false, not, ltb, eqb}
use Rattle.word.specs.Base.{pick}
use Rattle.word.specs.Number.{node_of}
use Rattle.word.specs.declared.number.ThreadNumber.{ThreadNumber}
use Rattle.word.specs.declared.number.NodeNumber.{NodeNumber}
use Rattle.state.specs.Holding.{reads_of, writes_of, granted_read, granted_write, released_read, released_write}
use Rattle.state.specs.Holding.{downgraded_to}
use Rattle.state.specs.Machine.{thread_at}
use Rattle.state.specs.declared.holding.Holding.{Holding}
use Rattle.state.specs.declared.machine.Machine.{Machine}
use Rattle.state.specs.declared.place.Place.{Place}
use Rattle.state.specs.declared.place.Place.TheVariants as At

-- what happened to the lock: grants and releases at the access that changes the word,
-- a contended reader's release at its subtraction
pub data LockEffect : Type 0 where
  keeps : LockEffect
  grants_read : LockEffect
  grants_write : LockEffect
  releases_read : LockEffect
  releases_write : LockEffect
  downgrades : LockEffect

-- what happened to the lists of waiters
pub data QueueEffect : Type 0 where
  stands : QueueEffect
  registers : NodeNumber → QueueEffect
  sets_aside : NodeNumber → QueueEffect
  restores : NodeNumber → QueueEffect
  takes_tail : NodeNumber → QueueEffect
  takes_all : QueueEffect
  completes : NodeNumber → QueueEffect

pub record Effect : Type 0 where
  pub lock : LockEffect
  pub queue : QueueEffect

-- ── where the thread stands after the event, as far as it tells what the event did ──

pub data Stand : Type 0 where
  ended : Stand
  walks : Stand
  waits : Stand
  wakes : Stand
  completing : Stand
  splitting : Stand
  releasing : Stand
  elsewhere : Stand

unfoldable pub stand_of : Place → Stand
stand_of At.Idle = ended
stand_of (At.TryReadLoad _) = elsewhere
stand_of (At.TryReadCas _ _) = elsewhere
stand_of (At.TryWriteOr _) = elsewhere
stand_of (At.ContendLoad _ _) = elsewhere
stand_of (At.ContendCas _ _ _) = elsewhere
stand_of (At.RegisterCas _ _ _) = elsewhere
stand_of (At.CompletedLoad _) = waits
stand_of (At.Park _) = elsewhere
stand_of (At.WalkTail _ _ _) = walks
stand_of (At.WalkNext _ _ _) = elsewhere
stand_of (At.WalkPrev _ _ _ _) = elsewhere
stand_of (At.WalkHead _ _ _) = elsewhere
stand_of (At.QueueCas _ _) = elsewhere
stand_of (At.SplitPrev _ _ _) = elsewhere
stand_of (At.SplitStore _ _ _ _) = elsewhere
stand_of (At.SplitCas _ _ _) = splitting
stand_of (At.SplitRestore _ _ _ _) = elsewhere
stand_of (At.TakeCas _ _ _) = elsewhere
stand_of (At.WakePrev _ _) = wakes
stand_of (At.WakeStore _ _ _) = completing
stand_of At.ReadUnlockLoad = elsewhere
stand_of (At.ReadUnlockCas _) = elsewhere
stand_of (At.Subtract _ _) = elsewhere
stand_of At.WriteUnlockCas = elsewhere
stand_of (At.ReleaseCas _) = releasing
stand_of At.DowngradeCas = elsewhere
stand_of (At.DowngradeSlowCas _) = elsewhere

-- the call has ended
abbrev pub at_end : Stand → Bool
at_end ended = true
at_end walks = false
at_end waits = false
at_end wakes = false
at_end completing = false
at_end splitting = false
at_end releasing = false
at_end elsewhere = false

-- ended, or on to a walk
abbrev pub at_end_or_walk : Stand → Bool
at_end_or_walk ended = true
at_end_or_walk walks = true
at_end_or_walk waits = false
at_end_or_walk wakes = false
at_end_or_walk completing = false
at_end_or_walk splitting = false
at_end_or_walk releasing = false
at_end_or_walk elsewhere = false

-- on to a walk
abbrev pub at_walk : Stand → Bool
at_walk ended = false
at_walk walks = true
at_walk waits = false
at_walk wakes = false
at_walk completing = false
at_walk splitting = false
at_walk releasing = false
at_walk elsewhere = false

-- on to wait, or to the walk that a new waiter makes first
abbrev pub at_wait : Stand → Bool
at_wait ended = false
at_wait walks = true
at_wait waits = true
at_wait wakes = false
at_wait completing = false
at_wait splitting = false
at_wait releasing = false
at_wait elsewhere = false

-- on to complete all
abbrev pub at_wake : Stand → Bool
at_wake ended = false
at_wake walks = false
at_wake waits = false
at_wake wakes = true
at_wake completing = false
at_wake splitting = false
at_wake releasing = false
at_wake elsewhere = false

-- on to complete one node, or still there
abbrev pub at_complete : Stand → Bool
at_complete ended = false
at_complete walks = false
at_complete waits = false
at_complete wakes = false
at_complete completing = true
at_complete splitting = false
at_complete releasing = false
at_complete elsewhere = false

-- on to the compare of a split
abbrev pub at_split : Stand → Bool
at_split ended = false
at_split walks = false
at_split waits = false
at_split wakes = false
at_split completing = false
at_split splitting = true
at_split releasing = false
at_split elsewhere = false

-- ended, or on to release
abbrev pub at_end_or_release : Stand → Bool
at_end_or_release ended = true
at_end_or_release walks = false
at_end_or_release waits = false
at_end_or_release wakes = false
at_end_or_release completing = false
at_end_or_release splitting = false
at_end_or_release releasing = true
at_end_or_release elsewhere = false

-- ── the effect ──

-- whoever releases gives up what it holds; a last reader, which holds nothing any more, released at its subtraction
abbrev pub release_of : Holding → LockEffect
release_of h = pick (ltb 0 (writes_of h)) releases_write (pick (ltb 0 (reads_of h)) releases_read keeps)

-- by the place before, what was held, whether the word changed, and where the thread stands after
unfoldable pub lock_effect : Place → Holding → Bool → Stand → LockEffect
lock_effect At.Idle h changed s = keeps
lock_effect (At.TryReadLoad _) h changed s = keeps
lock_effect (At.TryReadCas _ _) h changed s = pick changed grants_read keeps
lock_effect (At.TryWriteOr _) h changed s = pick changed grants_write keeps
lock_effect (At.ContendLoad _ _) h changed s = keeps
lock_effect (At.ContendCas writer _ _) h changed s = pick (at_end s) (pick writer grants_write grants_read) keeps
lock_effect (At.RegisterCas _ _ _) h changed s = keeps
lock_effect (At.CompletedLoad _) h changed s = keeps
lock_effect (At.Park _) h changed s = keeps
lock_effect (At.WalkTail _ _ _) h changed s = keeps
lock_effect (At.WalkNext _ _ _) h changed s = keeps
lock_effect (At.WalkPrev _ _ _ _) h changed s = keeps
lock_effect (At.WalkHead _ _ _) h changed s = keeps
lock_effect (At.QueueCas _ _) h changed s = keeps
lock_effect (At.SplitPrev _ _ _) h changed s = keeps
lock_effect (At.SplitStore _ _ _ _) h changed s = keeps
lock_effect (At.SplitCas _ _ _) h changed s = keeps
lock_effect (At.SplitRestore _ _ _ _) h changed s = keeps
lock_effect (At.TakeCas _ _ _) h changed s = keeps
lock_effect (At.WakePrev _ _) h changed s = keeps
lock_effect (At.WakeStore _ _ _) h changed s = keeps
lock_effect At.ReadUnlockLoad h changed s = keeps
lock_effect (At.ReadUnlockCas _) h changed s = pick (at_end s) releases_read keeps
lock_effect (At.Subtract _ _) h changed s = pick (at_end_or_release s) releases_read keeps
lock_effect At.WriteUnlockCas h changed s = pick (at_end s) releases_write keeps
lock_effect (At.ReleaseCas _) h changed s = pick (at_end_or_walk s) (release_of h) keeps
lock_effect At.DowngradeCas h changed s = pick (at_end s) downgrades keeps
lock_effect (At.DowngradeSlowCas _) h changed s = pick (at_end_or_walk s) downgrades keeps

-- by the thread, the place before and where the thread stands after
unfoldable pub queue_effect : ThreadNumber → Place → Stand → QueueEffect
queue_effect me At.Idle s = stands
queue_effect me (At.TryReadLoad _) s = stands
queue_effect me (At.TryReadCas _ _) s = stands
queue_effect me (At.TryWriteOr _) s = stands
queue_effect me (At.ContendLoad _ _) s = stands
queue_effect me (At.ContendCas _ _ _) s = stands
queue_effect me (At.RegisterCas _ _ _) s = pick (at_wait s) (registers (node_of me)) stands
queue_effect me (At.CompletedLoad _) s = stands
queue_effect me (At.Park _) s = stands
queue_effect me (At.WalkTail _ _ _) s = stands
queue_effect me (At.WalkNext _ _ _) s = stands
queue_effect me (At.WalkPrev _ _ _ _) s = stands
queue_effect me (At.WalkHead _ _ _) s = stands
queue_effect me (At.QueueCas _ _) s = stands
queue_effect me (At.SplitPrev _ _ _) s = stands
queue_effect me (At.SplitStore _ _ tail _) s = pick (at_split s) (sets_aside tail) stands
queue_effect me (At.SplitCas _ _ tail) s = pick (at_complete s) (takes_tail tail) stands
queue_effect me (At.SplitRestore _ _ tail _) s = pick (at_walk s) (restores tail) stands
queue_effect me (At.TakeCas _ _ _) s = pick (at_wake s) takes_all stands
queue_effect me (At.WakePrev _ _) s = stands
queue_effect me (At.WakeStore _ current _) s = pick (at_complete s) stands (completes current)
queue_effect me At.ReadUnlockLoad s = stands
queue_effect me (At.ReadUnlockCas _) s = stands
queue_effect me (At.Subtract _ _) s = stands
queue_effect me At.WriteUnlockCas s = stands
queue_effect me (At.ReleaseCas _) s = stands
queue_effect me At.DowngradeCas s = stands
queue_effect me (At.DowngradeSlowCas _) s = pick (at_walk s) takes_all stands

abbrev pub word_changed : Machine → Machine → Bool
word_changed m after = not (eqb after.word.0 m.word.0)

-- what an event of thread me did that led from one machine to the other
abbrev pub effect_of : ThreadNumber → Machine → Machine → Effect
effect_of me m after =
    record {
      lock = lock_effect (thread_at m me.0).place
          (thread_at m me.0).holding
          (word_changed m after)
          (stand_of (thread_at after me.0).place);
      queue = queue_effect me (thread_at m me.0).place (stand_of (thread_at after me.0).place);
    }

-- what a thread holds after an effect on the lock
abbrev pub held_after : LockEffect → Holding → Holding
held_after keeps h = h
held_after grants_read h = granted_read h
held_after grants_write h = granted_write h
held_after releases_read h = released_read h
held_after releases_write h = released_write h
held_after downgrades h = downgraded_to h

-- did the effect grant the lock
abbrev pub grants : LockEffect → Bool
grants keeps = false
grants grants_read = true
grants grants_write = true
grants releases_read = false
grants releases_write = false
grants downgrades = false
