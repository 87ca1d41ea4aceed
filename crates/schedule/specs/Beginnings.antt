-- How far a replay comes, by one induction on the events: what the loop of the code keeps,
-- at each event that it reaches.
-- Assumes nothing.
use Prim.Native.Nat.{ℕ, zero, suc, ◌+◌, ◌*◌, ◌/◌, ◌<◌, ◌≤◌}
use Rattle.std.specs.Prelude.{Bool, true, false, List, ◌≡◌, ltb, length, drop, Err, Ok}
use Rattle.std.proofs.Math.Path.{refl, sym}
use Rattle.std.proofs.Common.{ap, ◌∙◌, ltb-true, ltb-false}
use native.Mathlib.Omega.{arith}
use Rattle.state.specs.Answer.{Reply}
use Rattle.state.specs.declared.machine.Machine.{Machine}
use Rattle.state.specs.declared.answer.Refusal.{Refusal}
use Rattle.schedule.specs.File.{event_width}
use Rattle.schedule.specs.Replay.{event_at, after, replay_of}
use Rattle.schedule.specs.ReplayLaws.{after_zero, ended_here, refused_here, accepted_here}
use Rattle.schedule.specs.Statements.{state_at, reply_at, Accepts, Beginning, End, none_left, refused}
use Rattle.schedule.specs.declared.replay.Replayed.{Replayed}

module _ (m : Machine) (s : List ℕ) where
  -- k events ran, and the replay goes on from there
  record Reaches (k : ℕ) : Type 0 where
    there : k ≤ length s / event_width
    same : after k (replay_of (state_at m s k) (drop (event_width * k) s)) ≡ replay_of m s

  data Way (k : ℕ) : Type 0 where
    ends : End m s k → Way k
    goes : Accepts m s k → Reaches (suc k) → Way k

  by_reply : (k : ℕ) (r : Reply) → r ≡ reply_at m s k → k < length s / event_width → Reaches k → Way k
  unfolding state_at
  by_reply k (Err refusal) e h a =
      ends (refused refusal h (sym e)
      (sym a.same ∙ refused_here (state_at m s k) s k (event_at (state_at m s k) s k) h refl refusal (sym e)))
  by_reply k (Ok told) e h a =
      let f : k + 1 ≡ suc k = omega arith in
      goes (record { answer = told.answer; woken = told.woken; is = sym e })
      (record {
        there = omega arith;
        same =
            rw f at
            (sym
            (accepted_here (state_at m s k) s k (event_at (state_at m s k) s k) h refl told.answer told.woken (sym e))
            ∙ a.same);
      })

  by_length : (k : ℕ) (b : Bool) → ltb k (length s / event_width) ≡ b → Reaches k → Way k
  by_length k true e a = by_reply k (reply_at m s k) refl (ltb-true k (length s / event_width) e) a
  by_length k false e a =
      let h = ltb-false k (length s / event_width) e in
      ends (none_left (omega (arith, a.there)) (sym a.same ∙ ended_here (state_at m s k) s k h))

  way : (k : ℕ) → Reaches k → Way k
  way k = by_length k (ltb k (length s / event_width)) refl

  -- a replay that ends after k events ran k
  pub end_run : (k : ℕ) → End m s k → (replay_of m s).run ≡ k
  end_run k (none_left h e) = ap (λ (r : Replayed Refusal). r.run) e
  end_run k (refused refusal h r e) = ap (λ (r : Replayed Refusal). r.run) e

  step : (k : ℕ) → suc k ≤ (replay_of m s).run → Way k → Reaches (suc k)
  step k h (ends e) = absurd (omega (arith, end_run k e))
  step k h (goes a r) = r

  climb : (k : ℕ) → k ≤ (replay_of m s).run → Reaches k
  unfolding state_at
  climb zero h = record { there = omega arith; same = after_zero (replay_of m s) }
  climb (suc k) h = step k h (way k (climb k (omega arith)))

  stop : Way (replay_of m s).run → End m s (replay_of m s).run
  stop (ends e) = e
  stop (goes a r) = absurd (omega (arith, ap (λ (x : Replayed Refusal). x.run) r.same))

  pub end : End m s (replay_of m s).run
  end = stop (way (replay_of m s).run (climb (replay_of m s).run (omega arith)))

  accepts_by : (k : ℕ) → k < (replay_of m s).run → Way k → Accepts m s k
  accepts_by k h (ends e) = absurd (omega (arith, end_run k e))
  accepts_by k h (goes a r) = a

  -- as far as it ran, each event was accepted
  pub ran_accepted : (k : ℕ) → k ≤ (replay_of m s).run → Beginning m s k
  ran_accepted k h = record {
    there = (climb k h).there;
    accepted = λ i j. accepts_by i (omega arith) (way i (climb i (omega arith)));
  }

  never_both : (k : ℕ) → Accepts m s k → End m s k → k < length s / event_width → ⊥
  never_both k a (none_left h e) j = omega arith
  never_both k a (refused refusal h r e) j = cc (a.is, r)

  longest_by : (k : ℕ) → Beginning m s k → (b : Bool) → ltb (replay_of m s).run k ≡ b → k ≤ (replay_of m s).run
  longest_by k a true e =
      let h = ltb-true (replay_of m s).run k e in
      absurd (never_both (replay_of m s).run (a.accepted (replay_of m s).run h) end (omega (arith, a.there)))
  longest_by k a false e = ltb-false (replay_of m s).run k e

  -- and no longer beginning is
  pub longest : (k : ℕ) → Beginning m s k → k ≤ (replay_of m s).run
  longest k a = longest_by k a (ltb (replay_of m s).run k) refl
