-- Who excludes whom: one queue owner; beside an owner that changes the queue nobody else stands on it; real readers and
-- a changing owner exclude each other. Where nobody writes and nobody leaves, nobody needs the queue to stay.
-- Assumes nothing.
use Rattle.std.specs.Prelude.{ℕ, zero, suc, ◌+◌, ◌≤◌, ◌<◌, Bool, true, false, ◌≢◌, ◌⊎◌, ◌≡◌, refl, eqb}
use Rattle.std.proofs.Common.{inl, inr, ap, ◌∙◌, subst, arith}
use Rattle.std.proofs.Math.Decide.{dec_lt}
use Rattle.word.specs.Flags.{locked, queued, queue_locked}
use Rattle.state.specs.Holding.{reads_of, writes_of}
use Rattle.state.specs.declared.machine.Thread.{Thread}
use Rattle.state.specs.declared.place.Place.TheVariants.{Idle}
use Rattle.queue.specs.Tests.{never, not_true, not_false}
use Rattle.queue.specs.Sums.{sum_le, sum_two}
use Rattle.queue.specs.Tickets.{Ghost, tickets_of, taken_by}
use Rattle.queue.specs.Reads.{on_some}
use Rattle.queue.specs.Roles.{on_queue, changing}
use Rattle.queue.specs.Invariant as Q
use Rattle.invariant.specs.Table.{hands_off, writes, not_read, About, about, Lock, about_at, links_of, role_of}
use Rattle.invariant.specs.Table.{Reads, Allowed, weight, leaver}
use Rattle.invariant.specs.Invariant.{readers, writers, leavers, Real, queue_of, Inv}
use Rattle.invariant.specs.TableFacts.{row_facts}

module _ {n : ℕ} {s : Lock} {g : Ghost} (i : Inv n s g) where
  -- a thread of which anything is told is within the count
  pub inside : (t : ℕ) (f : About → Bool) → f (about Idle) ≡ false → f (about_at s t) ≡ true → t < n
  inside t f e h = go (dec_lt t n)
    where
      go : Dec (t < n) → t < n
      go (yes l) = l
      go (no k) = never (ap (λ p. f (about p)) (i.outside t (omega arith)) ∙ e) h

  weight_le : (b : Bool) → weight b ≤ 1
  weight_le true = omega arith
  weight_le false = omega arith

  -- one owner
  pub one_owner : (t u : ℕ) → (about_at s t).owner ≡ true → (about_at s u).owner ≡ true → t ≢ u → ⊥
  one_owner t u a b ne = go (dec_lt t u)
    where
      w : ℕ → ℕ
      w j = weight (about_at s j).owner

      both : (j k : ℕ) → j < k → k < n → w j ≡ 1 → w k ≡ 1 → ⊥
      both j k x y p q = omega (arith, sum_two n w j k x y, i.owners, weight_le (queue_locked s.word))

      go : Dec (t < u) → ⊥
      go (yes l) = both t u l (inside u (λ x. x.owner) refl b) (rw a) (rw b)
      go (no k) = both u t (omega arith) (inside t (λ x. x.owner) refl a) (rw b) (rw a)

  -- an owner has QUEUE_LOCKED set
  pub owned : (t : ℕ) → (about_at s t).owner ≡ true → queue_locked s.word ≡ true
  owned t e =
      not_false (queue_locked s.word)
      λ z. omega (
        arith,
        sum_le n (λ u. weight (about_at s u).owner) t (inside t (λ x. x.owner) refl e),
        ap weight e,
        i.owners,
        ap weight z,
      )

  pub unowned : queue_locked s.word ≡ false → (u : ℕ) → (about_at s u).owner ≡ false
  unowned z u = not_true (about_at s u).owner (λ e. never z (owned u e))

  -- a contended reader holds read
  pub reader_reads : (u : ℕ) → (about_at s u).reader ≡ true → Reads (s.th u).holding
  reader_reads u e = subst (λ m. Allowed m (s.th u).holding) ((row_facts (s.th u).place).reading e) (i.holding u)

  pub reading : (u : ℕ) → (about_at s u).reader ≡ true → 1 ≤ readers n s
  reading u e =
      omega (
        arith,
        sum_le n (λ t. reads_of (s.th t).holding) u (inside u (λ x. x.reader) refl e),
        (reader_reads u e).reads,
      )

  -- where somebody waits, the word says so
  pub is_queued : g.lo < g.hi → queued s.word ≡ true
  is_queued l = not_false (queued s.word) (λ z. omega (arith, i.nobody z))

  -- a contended reader's readers are real
  pub real : (u : ℕ) → (about_at s u).reader ≡ true → g.lo < g.hi → Real n s
  real u e l = record { some = reading u e; queue = is_queued l; plain = i.plain u e }

  -- who stands on the queue finds it not empty
  pub on_queue_lem : (u : ℕ) → on_queue (role_of s.th u) ≡ true → g.lo < g.hi
  on_queue_lem u e = on_some (tickets_of g) (taken_by g u) (links_of s.nd) u (role_of s.th u) e (i.queue.know u)

  -- beside an owner that changes the queue nobody stands on it
  pub lonely : (t : ℕ) → (about_at s t).owner ≡ true → hands_off (about_at s t).seen ≡ false → Q.Lonely (queue_of s) t
  lonely t o h u ne =
      not_true (on_queue (role_of s.th u)) (λ e. go (on_queue_lem u e) ((row_facts (s.th u).place).stands e))
    where
      go : g.lo < g.hi → ((about_at s u).owner ≡ true) ⊎ ((about_at s u).reader ≡ true) → ⊥
      go l (inl e) = one_owner u t e o ne
      go l (inr e) = never h (i.calm (real u e l) t o)

  -- beside an owner, or a contended reader, nobody else changes it
  pub quiet_owner : (t : ℕ) → (about_at s t).owner ≡ true → Q.Quiet (queue_of s) t
  quiet_owner t o u ne =
      not_true (changing (role_of s.th u))
      (λ e. one_owner u t ((row_facts (s.th u).place).changing e (i.fits u)).0 o ne)

  pub quiet_reader : (t : ℕ) → (about_at s t).reader ≡ true → g.lo < g.hi → Q.Quiet (queue_of s) t
  quiet_reader t o l u ne =
      not_true (changing (role_of s.th u)) (λ e. go ((row_facts (s.th u).place).changing e (i.fits u)))
    where
      go : ((about_at s u).owner ≡ true) × (hands_off (about_at s u).seen ≡ false) → ⊥
      go x = never x.1 (i.calm (real t o l) u x.0)

  -- who needs the queue to stay counts as a writer or as a leaver
  pub needs_some : (u : ℕ) → (about_at s u).needs_queue ≡ true → 1 ≤ writes_of (s.th u).holding + leaver (s.th u)
  needs_some u e = go ((row_facts (s.th u).place).leaving e)
    where
      by_holding : (x : Thread) → reads_of x.holding ≡ 0 → (about x.place).leaves ≡ true
          → 1 ≤ writes_of x.holding + leaver x
      by_holding x r l = rw (l, r) (by (writes_of x.holding))
        where
          by : (w : ℕ) → 1 ≤ w + weight (eqb w 0)
          by zero = omega arith
          by (suc w) = omega arith

      go : ((about_at s u).may ≡ writes) ⊎ (((about_at s u).may ≡ not_read) × ((about_at s u).leaves ≡ true))
          → 1 ≤ writes_of (s.th u).holding + leaver (s.th u)
      go (inl m) =
          let x : Allowed writes (s.th u).holding = subst (λ k. Allowed k (s.th u).holding) m (i.holding u) in
          omega (arith, x.writes)
      go (inr m) = by_holding (s.th u) (subst (λ k. Allowed k (s.th u).holding) m.0 (i.holding u)) m.1

  -- where nobody writes and nobody leaves, nobody needs it
  pub nobody_needs : writers n s ≡ 0 → leavers n s ≡ 0 → (u : ℕ) → (about_at s u).needs_queue ≡ true → ⊥
  nobody_needs w0 l0 u e =
      let within : u < n = inside u (λ a. a.needs_queue) refl e in
      omega (
        arith,
        sum_le n (λ t. writes_of (s.th t).holding) u within,
        sum_le n (λ t. leaver (s.th t)) u within,
        needs_some u e,
      )

  -- real readers keep LOCKED set
  pub real_hands_off : Real n s → hands_off s.word ≡ true
  real_hands_off r =
      rw (
        not_false (locked s.word) (λ e. omega (arith, r.some, (i.count.unlocked r.queue e).reads)),
        r.plain,
      )
