-- Where nobody holds the lock and every thread rests, nobody is asleep:
-- somebody would be responsible for it, and nobody is there to be.
-- Assumes nothing.
use Rattle.std.specs.Prelude.{ℕ, suc, ◌≤◌, ◌<◌, Bool, true, false, ◌⊎◌, ◌≡◌, refl}
use Rattle.std.proofs.Common.{inl, inr, ap, arith}
use Rattle.word.specs.Flags.{locked, queued, queue_locked, downgraded}
use Rattle.state.specs.Holding.{reads_of, writes_of}
use Rattle.state.specs.declared.place.Place.TheVariants.{Idle, Park}
use Rattle.queue.specs.Tests.{never, not_true}
use Rattle.queue.specs.Sums.{sum_zero}
use Rattle.queue.specs.Tickets.{Ghost, Somewhere}
use Rattle.queue.specs.Roles.{none}
use Rattle.invariant.specs.Table.{waiting, about, Lock, about_at, wait_of, Free, weight, leaver}
use Rattle.invariant.specs.Invariant.{readers, writers, leavers, Locked, by_writer, by_readers}
use Rattle.invariant.specs.Invariant.{by_leaver, Responsible, contends, called, wakes, Inv}

-- idle, or asleep without a wake token; nothing is held
pub record Rests (s : Lock) (t : ℕ) : Type 0 where
  pub place : ((s.th t).place ≡ Idle) ⊎ ((w : Bool) × ((s.th t).place ≡ Park w) × ((s.th t).token ≡ false))
  pub holding : Free (s.th t).holding

record Silent (s : Lock) (t : ℕ) : Type 0 where
  pub role : (about_at s t).role ≡ none
  pub owner : (about_at s t).owner ≡ false
  pub leaves : (about_at s t).leaves ≡ false
  pub contends : (about_at s t).contends ≡ false
  pub registered : (about_at s t).registered ≡ true → ((about_at s t).asleep ≡ true) × ((s.th t).token ≡ false)

silent : (s : Lock) (t : ℕ) → Rests s t → Silent s t
silent s t r = by r.place
  where
    by : ((s.th t).place ≡ Idle) ⊎ ((w : Bool) × ((s.th t).place ≡ Park w) × ((s.th t).token ≡ false)) → Silent s t
    by (inl e) = record { role = rw e; owner = rw e; leaves = rw e; contends = rw e; registered = rw e (never refl) }
    by (inr x) = record {
      role = rw x.1;
      owner = rw x.1;
      leaves = rw x.1;
      contends = rw x.1;
      registered = rw x.1 (λ z. (refl, x.2));
    }

module _ (n : ℕ) (s : Lock) (g : Ghost) (i : Inv n s g) (all : (t : ℕ) → Rests s t) where
  -- nobody has taken anything off
  empty_handed : (t : ℕ) → (g.taken t).beg < (g.taken t).end → ⊥
  empty_handed t l = by (rw (silent s t (all t)).role at (i.queue.know t))
    where
      by : (g.taken t).end ≤ (g.taken t).beg → ⊥
      by k = omega arith

  no_readers : readers n s ≡ 0
  no_readers = sum_zero n (λ t. reads_of (s.th t).holding) (λ t l. (all t).holding.reads)

  no_writers : writers n s ≡ 0
  no_writers = sum_zero n (λ t. writes_of (s.th t).holding) (λ t l. (all t).holding.writes)

  no_leavers : leavers n s ≡ 0
  no_leavers = sum_zero n (λ t. leaver (s.th t)) (λ t l. rw (silent s t (all t)).leaves)

  no_owner : queue_locked s.word ≡ false
  no_owner =
      not_true (queue_locked s.word)
      (λ e. omega (
        arith,
        sum_zero n (λ t. weight (about_at s t).owner) (λ t l. rw (silent s t (all t)).owner),
        i.owners,
        ap weight e,
      ))

  -- a thread at park that is completed has a token
  uncalled : (t : ℕ) → (about_at s t).registered ≡ true → (s.nd (suc t)).completed ≡ true → ⊥
  uncalled t r c =
      let x : ((about_at s t).asleep ≡ true) × ((s.th t).token ≡ false) = (silent s t (all t)).registered r in
      never x.1 (i.token t x.0 c)

  nobody_responsible : (t : ℕ) → Responsible s g t → ⊥
  nobody_responsible t (contends e) = never (silent s t (all t)).contends e
  nobody_responsible t (called r c) = uncalled t r c
  nobody_responsible t (wakes l) = empty_handed t l

  unlocked : queued s.word ≡ true → locked s.word ≡ false
  unlocked q = not_true (locked s.word) (λ l. by l (downgraded s.word) refl)
    where
      no_holder : Locked (readers n s) (writers n s) (leavers n s) → ⊥
      no_holder (by_writer h) = omega (arith, no_writers, h.writes)
      no_holder (by_readers r h) = omega (arith, no_readers)
      no_holder (by_leaver h) = omega (arith, no_leavers, h.leaves)

      by : locked s.word ≡ true → (d : Bool) → downgraded s.word ≡ d → ⊥
      by l true e = omega (arith, no_readers, (i.count.handed q l e).reads)
      by l false e = no_holder (i.count.held q l e)

  pub nobody_asleep : (t : ℕ) (w : Bool) → (s.th t).place ≡ Park w → ⊥
  nobody_asleep t w e = by (i.queue.parts.cover (suc t) waits).1
    where
      is : about_at s t ≡ waiting true
      is = ap about e

      waits : wait_of s.th s.nd (suc t) ≡ true
      waits = rw (is, not_true (s.nd (suc t)).completed (uncalled t (rw is refl)))

      no_queue : g.lo < g.hi → (q : Bool) → queued s.word ≡ q → ⊥
      no_queue l false z = omega (arith, i.nobody z)
      no_queue l true z =
          let x : (u : ℕ) × Responsible s g u = i.seen_to z (unlocked z) no_owner in nobody_responsible x.0 x.1

      by : Somewhere g (g.tk (suc t)) → ⊥
      by (inl x) = no_queue (omega arith) (queued s.word) refl
      by (inr x) = empty_handed x.0 (omega arith)
