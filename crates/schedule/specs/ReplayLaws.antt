-- One event of the replay, and its end, at any position of the run of events.
-- Assumes nothing.
use Rattle.std.specs.Prelude.{ℕ, suc, ◌+◌, ◌*◌, ◌/◌, ◌<◌, ◌≤◌, List, [], ◌∷◌, ◌≡◌, refl, length, drop, get_or, Err}
use Rattle.std.specs.Prelude.{Option, zero, Ok, take}
use Rattle.std.proofs.Common.{sym, ◌∙◌, arith, length-drop, drop-cons}
use Rattle.std.proofs.Math.Path.{ap}
use Rattle.std.proofs.Math.Seq.{drop-drop}
use Rattle.std.specs.Simd.{first_chunks}
use Rattle.word.specs.Number.{thread}
use Rattle.word.specs.declared.number.ThreadNumber.{ThreadNumber}
use Rattle.state.specs.Answer.{Reply, accepted_with}
use Rattle.state.specs.declared.machine.Machine.{Machine}
use Rattle.state.specs.declared.machine.Outcome.{Outcome}
use Rattle.state.specs.declared.answer.Answer.{Answer}
use Rattle.state.specs.declared.answer.Refusal.{Refusal}
use Rattle.lock.specs.Event.{event_of}
use Rattle.schedule.specs.File.{event_width}
use Rattle.schedule.specs.Replay.{code_at, thread_at, event_at, stopped_of, after, goes_on, replay_of}
use Rattle.schedule.specs.declared.replay.Replayed.{Replayed}

pub after_zero : (r : Replayed Refusal) → after 0 r ≡ r
after_zero r = let e : 0 + r.run ≡ r.run = omega arith in ap (λ (n : ℕ). stopped_of r.machine n r.stop) e

pub after_after : (n k : ℕ) (r : Replayed Refusal) → after n (after k r) ≡ after (n + k) r
after_after n k r =
    let e : n + (k + r.run) ≡ n + k + r.run = omega arith in ap (λ (i : ℕ). stopped_of r.machine i r.stop) e

-- an event's two bytes, and those after it
pub drop_event : (s : List ℕ) (k : ℕ)
    → k < length s / event_width
    → drop (event_width * k) s
    ≡ get_or s (event_width * k) 0 ∷ get_or s (event_width * k + 1) 0 ∷ drop (event_width * (k + 1)) s
drop_event s k h =
    let e : suc (suc (event_width * k)) ≡ event_width * (k + 1) = omega arith in
    let f : suc (event_width * k) ≡ event_width * k + 1 = omega arith in
    drop-cons s (event_width * k) 0 (omega arith)
    ∙ (ap (λ (l : List ℕ). get_or s (event_width * k) 0 ∷ l) (drop-cons s (suc (event_width * k)) 0 (omega arith))
    ∙ rw (e, f))

-- no whole event left
pub replay_end : (m : Machine) (l : List ℕ) → length l < event_width → replay_of m l ≡ stopped_of m 0 (Ok tt)
unfolding replay_of
replay_end m [] h = refl
replay_end m (x ∷ []) h = refl
replay_end m (x ∷ y ∷ l) h = absurd (omega arith)

module _ (m : Machine) (s : List ℕ) (k : ℕ) where
  abbrev here : Replayed Refusal
  here = replay_of m (drop (event_width * k) s)

  pub replay_on : k < length s / event_width
      → here ≡ goes_on m (event_at m s k).reply (replay_of (event_at m s k).machine (drop (event_width * (k + 1)) s))
  unfolding replay_of
  replay_on h = ap (replay_of m) (drop_event s k h)

  -- after k events, none left
  pub ended_here : length s / event_width ≤ k → after k here ≡ stopped_of m k (Ok tt)
  ended_here h =
      ap (after k) (replay_end m (drop (event_width * k) s) (omega (arith, length-drop (event_width * k) s)))
      ∙ (let e : k + 0 ≡ k = omega arith in ap (λ (n : ℕ). stopped_of m n (Ok tt)) e)

  module _ (o : Outcome) (h : k < length s / event_width) (e : o ≡ event_at m s k) where
    by_outcome : here ≡ goes_on m o.reply (replay_of o.machine (drop (event_width * (k + 1)) s))
    by_outcome =
        replay_on h
        ∙ ap (λ (x : Outcome). goes_on m x.reply (replay_of x.machine (drop (event_width * (k + 1)) s))) (sym e)

    -- the k-th event is refused
    pub refused_here : (refusal : Refusal) → o.reply ≡ Err refusal → after k here ≡ stopped_of m k (Err refusal)
    refused_here refusal r =
        let z : k + 0 ≡ k = omega arith in
        ap (after k)
        (by_outcome ∙ ap (λ (x : Reply). goes_on m x (replay_of o.machine (drop (event_width * (k + 1)) s))) r)
        ∙ ap (λ (n : ℕ). stopped_of m n (Err refusal)) z

    -- the k-th event is accepted
    pub accepted_here : (answer : Answer) (woken : Option ThreadNumber)
        → o.reply ≡ accepted_with answer woken
        → after k here ≡ after (k + 1) (replay_of o.machine (drop (event_width * (k + 1)) s))
    accepted_here answer woken r =
        ap (after k)
        (by_outcome ∙ ap (λ (x : Reply). goes_on m x (replay_of o.machine (drop (event_width * (k + 1)) s))) r)
        ∙ after_after k 1 (replay_of o.machine (drop (event_width * (k + 1)) s))

-- the outcome of an event on the bytes that were read
pub event_read : (m : Machine) (s : List ℕ) (k : ℕ) {o : Outcome} {code : ℕ} {t : ThreadNumber}
    → code ≡ code_at s k
    → t ≡ thread_at s k
    → o ≡ event_of m code t
    → o ≡ event_at m s k
event_read m s k p q e = e ∙ rw (p, q)

-- an event of those that follow one another, two bytes each
chunk_at : (n k : ℕ) (s : List ℕ) → k < n
    → get_or (first_chunks event_width n s) k [] ≡ take event_width (drop (event_width * k) s)
chunk_at zero k s h = absurd (omega arith)
chunk_at (suc n) zero s h = refl
chunk_at (suc n) (suc k) s h =
    let e : event_width + event_width * k ≡ event_width * suc k = omega arith in
    chunk_at n k (drop event_width s) (omega arith)
    ∙ ap (take event_width) (drop-drop (event_width * k) event_width s ∙ ap (λ (i : ℕ). drop i s) e)

module _ (s : List ℕ) (k : ℕ) {bytes : List ℕ}
    (h : k < length s / event_width)
    (p : bytes ≡ get_or (first_chunks event_width (length s / event_width) s) k [])
  where
    -- its two bytes, as they were read
    pub bytes_read : bytes ≡ code_at s k ∷ get_or s (event_width * k + 1) 0 ∷ []
    bytes_read = p ∙ chunk_at (length s / event_width) k s h ∙ ap (take event_width) (drop_event s k h)

    -- its outcome
    pub chunk_read : (m : Machine) {o : Outcome}
        → o ≡ event_of m (get_or bytes 0 0) (thread (get_or bytes 1 0))
        → o ≡ event_at m s k
    chunk_read m e = e ∙ ap (λ (l : List ℕ). event_of m (get_or l 0 0) (thread (get_or l 1 0))) bytes_read
