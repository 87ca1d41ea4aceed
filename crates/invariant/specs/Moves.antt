-- How a step's effect on the queue moves the tickets: nothing else moves them. In this order: the moves, one for each
-- effect; the places that make none; the moves of the others.
-- Assumes nothing.
use Rattle.std.specs.Prelude.{ℕ, suc, ◌≤◌, ◌<◌, Bool, true, false, ◌≡◌}
use Rattle.std.proofs.Math.Path.{refl, sym}
use Rattle.std.proofs.Common.{subst, add-one}
use Rattle.word.specs.declared.flags.Word.{Word}
use Rattle.word.specs.declared.number.NodeNumber.{NodeNumber}
use Rattle.word.specs.declared.number.ThreadNumber.{ThreadNumber}
use Rattle.state.specs.declared.place.Who.{Who}
use Rattle.state.specs.declared.place.Walk.{Walk}
use Rattle.state.specs.declared.place.Place.{Place}
use Rattle.state.specs.declared.place.Place.TheVariants as At
use Rattle.lock.specs.Effect.{QueueEffect, stands, registers, sets_aside, restores, takes_tail, takes_all, completes}
use Rattle.lock.specs.Effect.{elsewhere, stand_of, queue_effect}
use Rattle.queue.specs.Tests.{never}
use Rattle.queue.specs.Tickets.{Ghost, registered, asided, restored, took, completed}
use Rattle.queue.specs.Roles.{aside_role}
use Rattle.invariant.specs.Table.{about}

-- ── the moves ──

-- thread t's node gets the next ticket
pub record Registers (g : Ghost) (t k : ℕ) (g' : Ghost) : Type 0 where
  pub node : suc t ≡ k
  pub is : g' ≡ registered g (suc t)

-- the oldest ticket becomes thread t's only one
pub record SetsAside (g : Ghost) (t k : ℕ) (g' : Ghost) : Type 0 where
  pub some : g.lo < g.hi
  pub none : (g.taken t).end ≤ (g.taken t).beg
  pub node : g.log g.lo ≡ k
  pub floor : ℕ
  pub is : g' ≡ asided g t floor

-- it goes back
pub record Restores (g : Ghost) (t k : ℕ) (g' : Ghost) : Type 0 where
  pub one : suc (g.taken t).beg ≡ g.lo
  pub end : (g.taken t).end ≡ g.lo
  pub node : g.log (g.taken t).beg ≡ k
  pub is : g' ≡ restored g t (g.taken t).beg

-- it stays thread t's
pub record TakesTail (g : Ghost) (t k : ℕ) (g' : Ghost) : Type 0 where
  pub one : suc (g.taken t).beg ≡ (g.taken t).end
  pub node : g.log (g.taken t).beg ≡ k
  pub is : g' ≡ g

-- all tickets become thread t's
pub record TakesAll (g : Ghost) (t : ℕ) (g' : Ghost) : Type 0 where
  pub none : (g.taken t).end ≤ (g.taken t).beg
  pub is : g' ≡ took g t

-- thread t's oldest ticket is done
pub record Completes (g : Ghost) (t k : ℕ) (g' : Ghost) : Type 0 where
  pub some : (g.taken t).beg < (g.taken t).end
  pub node : g.log (g.taken t).beg ≡ k
  pub is : g' ≡ completed g t

abbrev pub Moved : QueueEffect → Ghost → ℕ → Ghost → Type 0
Moved stands g t g' = g' ≡ g
Moved (registers k) g t g' = Registers g t k.0 g'
Moved (sets_aside k) g t g' = SetsAside g t k.0 g'
Moved (restores k) g t g' = Restores g t k.0 g'
Moved (takes_tail k) g t g' = TakesTail g t k.0 g'
Moved takes_all g t g' = TakesAll g t g'
Moved (completes k) g t g' = Completes g t k.0 g'

-- what a thread at that place holds is set aside
abbrev pub is_aside : Place → Bool
is_aside p = aside_role (about p).role

-- whether what thread t holds is set aside, before and after
abbrev pub AsideAfter : QueueEffect → Bool → Bool → Type 0
AsideAfter stands a a' = a' ≡ a
AsideAfter (registers k) a a' = (a ≡ false) × (a' ≡ false)
AsideAfter (sets_aside k) a a' = (a ≡ false) × (a' ≡ true)
AsideAfter (restores k) a a' = (a ≡ true) × (a' ≡ false)
AsideAfter (takes_tail k) a a' = (a ≡ true) × (a' ≡ false)
AsideAfter takes_all a a' = (a ≡ false) × (a' ≡ false)
AsideAfter (completes k) a a' = (a ≡ false) × (a' ≡ false)

-- a step of thread me from place p to place p' moves the tickets by its effect
abbrev pub Went : ThreadNumber → Place → Ghost → Place → Ghost → Type 0
Went me p g p' g' =
    Moved (queue_effect me p (stand_of p')) g me.0 g'
    × AsideAfter (queue_effect me p (stand_of p')) (is_aside p) (is_aside p')

-- ── the places that move no ticket ──

abbrev pub moves_no_ticket : Place → Bool
moves_no_ticket At.Idle = true
moves_no_ticket (At.TryReadLoad _) = true
moves_no_ticket (At.TryReadCas _ _) = true
moves_no_ticket (At.TryWriteOr _) = true
moves_no_ticket (At.ContendLoad _ _) = true
moves_no_ticket (At.ContendCas _ _ _) = true
moves_no_ticket (At.RegisterCas _ _ _) = false
moves_no_ticket (At.CompletedLoad _) = true
moves_no_ticket (At.Park _) = true
moves_no_ticket (At.WalkTail _ _ _) = true
moves_no_ticket (At.WalkNext _ _ _) = true
moves_no_ticket (At.WalkPrev _ _ _ _) = true
moves_no_ticket (At.WalkHead _ _ _) = true
moves_no_ticket (At.QueueCas _ _) = true
moves_no_ticket (At.SplitPrev _ _ _) = true
moves_no_ticket (At.SplitStore _ _ _ _) = false
moves_no_ticket (At.SplitCas _ _ _) = false
moves_no_ticket (At.SplitRestore _ _ _ _) = false
moves_no_ticket (At.TakeCas _ _ _) = false
moves_no_ticket (At.WakePrev _ _) = true
moves_no_ticket (At.WakeStore _ _ _) = false
moves_no_ticket At.ReadUnlockLoad = true
moves_no_ticket (At.ReadUnlockCas _) = true
moves_no_ticket (At.Subtract _ _) = true
moves_no_ticket At.WriteUnlockCas = true
moves_no_ticket (At.ReleaseCas _) = true
moves_no_ticket At.DowngradeCas = true
moves_no_ticket (At.DowngradeSlowCas _) = false

module _ (me : ThreadNumber) (g : Ghost) where
  stood_at : (p p' : Place) → moves_no_ticket p ≡ true → is_aside p' ≡ false → Went me p g p' g
  unfolding queue_effect
  stood_at At.Idle p' e f = (refl, f)
  stood_at (At.TryReadLoad _) p' e f = (refl, f)
  stood_at (At.TryReadCas _ _) p' e f = (refl, f)
  stood_at (At.TryWriteOr _) p' e f = (refl, f)
  stood_at (At.ContendLoad _ _) p' e f = (refl, f)
  stood_at (At.ContendCas _ _ _) p' e f = (refl, f)
  stood_at (At.RegisterCas _ _ _) p' e f = never refl e
  stood_at (At.CompletedLoad _) p' e f = (refl, f)
  stood_at (At.Park _) p' e f = (refl, f)
  stood_at (At.WalkTail _ _ _) p' e f = (refl, f)
  stood_at (At.WalkNext _ _ _) p' e f = (refl, f)
  stood_at (At.WalkPrev _ _ _ _) p' e f = (refl, f)
  stood_at (At.WalkHead _ _ _) p' e f = (refl, f)
  stood_at (At.QueueCas _ _) p' e f = (refl, f)
  stood_at (At.SplitPrev _ _ _) p' e f = (refl, f)
  stood_at (At.SplitStore _ _ _ _) p' e f = never refl e
  stood_at (At.SplitCas _ _ _) p' e f = never refl e
  stood_at (At.SplitRestore _ _ _ _) p' e f = never refl e
  stood_at (At.TakeCas _ _ _) p' e f = never refl e
  stood_at (At.WakePrev _ _) p' e f = (refl, f)
  stood_at (At.WakeStore _ _ _) p' e f = never refl e
  stood_at At.ReadUnlockLoad p' e f = (refl, f)
  stood_at (At.ReadUnlockCas _) p' e f = (refl, f)
  stood_at (At.Subtract _ _) p' e f = (refl, f)
  stood_at At.WriteUnlockCas p' e f = (refl, f)
  stood_at (At.ReleaseCas _) p' e f = (refl, f)
  stood_at At.DowngradeCas p' e f = (refl, f)
  stood_at (At.DowngradeSlowCas _) p' e f = never refl e

  module _ {q : Place} where
    pub stood : {p : Place} → q ≡ p → moves_no_ticket p ≡ true → (p' : Place) → is_aside p' ≡ false → Went me q g p' g
    stood {p} here e p' f = subst (λ x. Went me x g p' g) (sym here) (stood_at p p' e f)

    -- ── and those that may ──

    module _ {writer : Bool} {reloads : ℕ} {seen : Word} (here : q ≡ At.RegisterCas writer reloads seen) where
      pub unregistered : (p' : Place) → stand_of p' ≡ elsewhere → is_aside p' ≡ false → Went me q g p' g
      unfolding queue_effect
      unregistered p' e f = rw (here, e) (refl, f)

      pub registers_waits : (w : Bool) → Went me q g (At.CompletedLoad w) (registered g (suc me.0))
      unfolding queue_effect stand_of
      registers_waits w = rw here (record { node = sym (add-one me.0); is = refl }, (refl, refl))

      pub registers_walks : (k : Walk) (to : Word) (current : NodeNumber)
          → Went me q g (At.WalkTail k to current) (registered g (suc me.0))
      unfolding queue_effect stand_of
      registers_walks k to current = rw here (record { node = sym (add-one me.0); is = refl }, (refl, refl))

    module _ {who : Who} {seen : Word} {tail : NodeNumber} where
      pub sets_aside_lem : {prev : NodeNumber} → q ≡ At.SplitStore who seen tail prev → (g' : Ghost)
          → SetsAside g me.0 tail.0 g' → Went me q g (At.SplitCas who seen tail) g'
      unfolding queue_effect stand_of
      sets_aside_lem here g' m = rw here (m, (refl, refl))

      pub takes_tail_lem : (prev : NodeNumber) → q ≡ At.SplitCas who seen tail → TakesTail g me.0 tail.0 g
          → Went me q g (At.WakeStore who tail prev) g
      unfolding queue_effect stand_of
      takes_tail_lem prev here m = rw here (m, (refl, refl))

      pub split_fails : (reported : Word) → q ≡ At.SplitCas who seen tail
          → Went me q g (At.SplitRestore who seen tail reported) g
      unfolding queue_effect stand_of
      split_fails reported here = rw here (refl, refl)

      pub restores_tail : {reported : Word} → q ≡ At.SplitRestore who seen tail reported
          → (k : Walk) (to : Word) (current : NodeNumber) (g' : Ghost) → Restores g me.0 tail.0 g'
          → Went me q g (At.WalkTail k to current) g'
      unfolding queue_effect stand_of
      restores_tail here k to current g' m = rw here (m, (refl, refl))

      pub takes_all_lem : q ≡ At.TakeCas who seen tail → (g' : Ghost) → TakesAll g me.0 g'
          → Went me q g (At.WakePrev who tail) g'
      unfolding queue_effect stand_of
      takes_all_lem here g' m = rw here (m, (refl, refl))

      pub take_fails : q ≡ At.TakeCas who seen tail → (k : Walk) (to : Word) (current : NodeNumber)
          → Went me q g (At.WalkTail k to current) g
      unfolding queue_effect stand_of
      take_fails here k to current = rw here (refl, refl)

    module _ {seen : Word} (here : q ≡ At.DowngradeSlowCas seen) where
      pub downgrade_takes : (k : Walk) (to : Word) (current : NodeNumber) (g' : Ghost)
          → TakesAll g me.0 g' → Went me q g (At.WalkTail k to current) g'
      unfolding queue_effect stand_of
      downgrade_takes k to current g' m = rw here (m, (refl, refl))

      pub downgrade_ends : Went me q g At.Idle g
      unfolding queue_effect stand_of
      downgrade_ends = rw here (refl, refl)

      pub downgrade_fails : (to : Word) → Went me q g (At.DowngradeSlowCas to) g
      unfolding queue_effect stand_of
      downgrade_fails to = rw here (refl, refl)

    module _ {who : Who} {current prev : NodeNumber} (here : q ≡ At.WakeStore who current prev) (g' : Ghost)
        (m : Completes g me.0 current.0 g') where
      pub completes_more : Went me q g (At.WakePrev who prev) g'
      unfolding queue_effect stand_of
      completes_more = rw here (m, (refl, refl))

      pub completes_waits : (writer : Bool) → Went me q g (At.CompletedLoad writer) g'
      unfolding queue_effect stand_of
      completes_waits writer = rw here (m, (refl, refl))

      pub completes_ends : Went me q g At.Idle g'
      unfolding queue_effect stand_of
      completes_ends = rw here (m, (refl, refl))

-- the three places that contend tell nothing of what was done
pub contend_elsewhere : (writer : Bool) (reloads : ℕ) (seen : Word)
    → (stand_of (At.ContendLoad writer reloads) ≡ elsewhere)
    × (stand_of (At.ContendCas writer reloads seen) ≡ elsewhere)
    × (stand_of (At.RegisterCas writer reloads seen) ≡ elsewhere)
unfolding stand_of
contend_elsewhere writer reloads seen = (refl, refl, refl)
