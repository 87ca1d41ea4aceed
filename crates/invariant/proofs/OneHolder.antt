-- Where a writer holds, or a last reader leaves, nobody else holds, and the word says so.
-- Assumes nothing.
use Rattle.std.specs.Prelude.{ℕ, ◌+◌, ◌≤◌, Bool, true, false, ◌≡◌, refl}
use Rattle.std.proofs.Common.{arith}
use Rattle.word.specs.Flags.{LOCKED, locked, queued, downgraded}
use Rattle.queue.specs.Tests.{not_true, not_false}
use Rattle.queue.specs.Tickets.{Ghost}
use Rattle.invariant.specs.Table.{Lock}
use Rattle.invariant.specs.Invariant.{readers, writers, leavers, Unqueued, empty, written, read, Locked}
use Rattle.invariant.specs.Invariant.{by_writer, by_readers, by_leaver, Inv, CountedAs}

module _ {n : ℕ} {s : Lock} {g : Ghost} (i : Inv n s g) (some : 1 ≤ writers n s + leavers n s) where
  pub one_holder_bare : queued s.word ≡ false
      → (s.word.0 ≡ LOCKED) × (readers n s ≡ 0) × (writers n s ≡ 1) × (leavers n s ≡ 0)
  one_holder_bare q = by (i.count.bare q)
    where
      by : CountedAs (Unqueued s.word) n s
          → (s.word.0 ≡ LOCKED) × (readers n s ≡ 0) × (writers n s ≡ 1) × (leavers n s ≡ 0)
      by (empty z h) = absurd (omega (arith, h.writes, h.leaves))
      by (written z h) = (z, h.reads, h.writes, h.leaves)
      by (read z r h) = absurd (omega (arith, h.writes, h.leaves))

  pub one_holder_locked : queued s.word ≡ true → locked s.word ≡ true
  one_holder_locked q =
      not_false (locked s.word)
      (λ e. omega (arith, (i.count.unlocked q e).writes, (i.count.unlocked q e).leaves))

  pub one_holder_plain : queued s.word ≡ true → downgraded s.word ≡ false
  one_holder_plain q =
      not_true (downgraded s.word)
      (λ e. omega (
        arith,
        (i.count.handed q (one_holder_locked q) e).writes,
        (i.count.handed q (one_holder_locked q) e).leaves,
      ))

  pub one_holder : (readers n s ≡ 0) × (writers n s + leavers n s ≡ 1)
  one_holder = by (queued s.word) refl
    where
      of : CountedAs Locked n s → (readers n s ≡ 0) × (writers n s + leavers n s ≡ 1)
      of (by_writer h) = (h.reads, omega (arith, h.writes, h.leaves))
      of (by_readers r h) = absurd (omega (arith, h.writes, h.leaves))
      of (by_leaver h) = (h.reads, omega (arith, h.writes, h.leaves))

      by : (q : Bool) → queued s.word ≡ q → (readers n s ≡ 0) × (writers n s + leavers n s ≡ 1)
      by false q = ((one_holder_bare q).1, omega (arith, one_holder_bare q))
      by true q = of (i.count.held q (one_holder_locked q) (one_holder_plain q))
