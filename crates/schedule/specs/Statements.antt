-- What the theorems speak of: the states that a run of events goes through, its accepted beginnings, and where it ends.
-- Assumes nothing.
use Rattle.std.specs.Prelude.{ℕ, zero, suc, ◌/◌, ◌<◌, ◌≤◌, List, ◌≡◌, length, Err, Option, Some, None, Result, Ok}
use Rattle.word.specs.declared.number.ThreadNumber.{ThreadNumber}
use Rattle.state.specs.Answer.{Reply, accepted_with}
use Rattle.state.specs.declared.machine.Machine.{Machine}
use Rattle.state.specs.declared.answer.Answer.{Answer}
use Rattle.state.specs.declared.answer.Refusal.{Refusal}
use Rattle.schedule.specs.File.{event_width}
use Rattle.schedule.specs.Replay.{code_at, thread_at, event_at, stopped_of, replay_of}
use Rattle.schedule.specs.declared.cursor.Seen.{Seen}

-- the machine after the first k events, one after another
unfoldable pub state_at : Machine → List ℕ → ℕ → Machine
state_at m s zero = m
state_at m s (suc k) = (event_at (state_at m s k) s k).machine

-- what event k answers there
abbrev pub reply_at : Machine → List ℕ → ℕ → Reply
reply_at m s k = (event_at (state_at m s k) s k).reply

pub record Accepts (m : Machine) (s : List ℕ) (k : ℕ) : Type 0 where
  pub answer : Answer
  pub woken : Option ThreadNumber
  pub is : reply_at m s k ≡ accepted_with answer woken

-- the first k events are there, and each is accepted
pub record Beginning (m : Machine) (s : List ℕ) (k : ℕ) : Type 0 where
  pub there : k ≤ length s / event_width
  pub accepted : (i : ℕ) → i < k → Accepts m s i

-- the replay stops after k events: there is no other, or that one is refused
pub data End (m : Machine) (s : List ℕ) (k : ℕ) : Type 0 where
  none_left : length s / event_width ≡ k → replay_of m s ≡ stopped_of (state_at m s k) k (Ok tt) → End m s k
  refused : (refusal : Refusal)
      → k < length s / event_width
      → reply_at m s k ≡ Err refusal
      → replay_of m s ≡ stopped_of (state_at m s k) k (Err refusal)
      → End m s k

-- what a cursor sees where the replay stopped
abbrev pub seen_at : List ℕ → ℕ → Result (Unit {0}) Refusal → Option Seen
seen_at s k (Ok ran) = None
seen_at s k (Err refusal) = Some (record { code = code_at s k; thread = thread_at s k; reply = Err refusal })
