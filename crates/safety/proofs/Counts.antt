-- The readers' number: grants of read and downgrades less releases, along a run; where it sits in the machine;
-- and that the traced count agrees.
-- Assumes nothing.
use Rattle.std.specs.Prelude.{ℕ, zero, suc, ◌+◌, ◌-◌, ◌*◌, ◌≤◌, ◌<◌, true, false, List, [], ◌∷◌, ◌≡◌, refl, eqb, Ok}
use Rattle.std.specs.Prelude.{Result}
use Rattle.std.proofs.Common.{sym, ap, ◌∙◌, subst, arith, eqb-true, eq-eqb}
use Rattle.std.proofs.lemmas.Bool.{eqb-false}
use Rattle.word.specs.Cases.{pick_both, pick_yes}
use Rattle.word.specs.Flags.{LOCKED, SINGLE, queued, downgraded}
use Rattle.word.specs.declared.number.NodeNumber.{NodeNumber}
use Rattle.state.specs.Holding.{reads_of, writes_of}
use Rattle.state.specs.Machine.{good_count, thread_at}
use Rattle.state.specs.declared.answer.Refusal.{Refusal}
use Rattle.state.specs.declared.holding.Holding.{Holding}
use Rattle.state.specs.declared.holding.Holding.TheVariants.{Nothing, Read, Write}
use Rattle.state.specs.declared.machine.Machine.{Machine}
use Rattle.lock.specs.Effect.{LockEffect, keeps, grants_read, grants_write, releases_read, releases_write, downgrades}
use Rattle.lock.specs.Event.{event_of}
use Rattle.listing.specs.Listing.{Listed, lost, listed, node_by, listed_of}
use Rattle.listing.specs.ReaderCount.{reads_below, oldest, in_oldest_by, held_of, readers_of}
use Rattle.listing.specs.declared.reader_count.Readers.{Readers}
use Rattle.queue.specs.Updates.{upd, upd_same}
use Rattle.queue.specs.Sums.{sum, sum_upd}
use Rattle.queue.specs.Tickets.{Ghost}
use Rattle.invariant.specs.Invariant.{readers, writers, leavers, Unqueued, empty, written, read, Newest, Inv}
use Rattle.invariant.specs.Bridge.{lock_of}
use Rattle.invariant.proofs.Events.{Sound, event_safe}
use Rattle.safety.specs.Held.{listing_is}
use Rattle.safety.specs.Intervals.{down, node_by_lem}
use Rattle.safety.specs.Members.{oldest_down}
use Rattle.safety.proofs.Plain.{within, event_allowed}
use Rattle.safety.specs.Runs.{same_count}
use Rattle.safety.specs.Statements.{Event, after, effect_in, ran_by, ran, Holders, holders_of, Allows, gained}
use Rattle.safety.specs.Statements.{given_up, tally, Counted}

-- ── along a run ──

abbrev pub readers_in : Machine → ℕ
readers_in m = readers m.count (lock_of m)

module _ (m : Machine) (ok : Sound m) (e : Event) where
  -- the readers after it, by who holds what
  as_holders : (h : Holders) → holders_of (after m e) ≡ h → readers_in (after m e) ≡ sum m.count (λ u. reads_of (h u))
  as_holders h z =
      ap (λ n. sum n (λ u. reads_of (holders_of (after m e) u))) (same_count m e)
      ∙ ap (λ f. sum m.count (λ u. reads_of (f u))) z

  -- the thread's holding becomes x
  becomes : (x : Holding) → e.thread.0 < m.count → holders_of (after m e) ≡ upd (holders_of m) e.thread.0 x
      → readers_in (after m e) + reads_of (holders_of m e.thread.0) ≡ readers_in m + reads_of x
  becomes x l z =
      ap (λ r. r + reads_of (holders_of m e.thread.0)) (as_holders _ z)
      ∙ sum_upd m.count reads_of (holders_of m) e.thread.0 x l

  holds_within : 1 ≤ reads_of (holders_of m e.thread.0) + writes_of (holders_of m e.thread.0)
      → e.thread.0 < m.count
  holds_within = within m.count (lock_of m) ok.ghost ok.inv e.thread.0

  held_within : 1 ≤ reads_of (holders_of (after m e) e.thread.0) + writes_of (holders_of (after m e) e.thread.0)
      → e.thread.0 < m.count
  held_within l =
      let safe = event_safe m ok e.thread e.code in
      omega (
        arith,
        within (after m e).count (lock_of (after m e)) safe.ok.ghost safe.ok.inv e.thread.0 l,
        same_count m e,
      )

  own : (x : Holding)
      → holders_of (after m e) ≡ upd (holders_of m) e.thread.0 x
      → holders_of (after m e) e.thread.0 ≡ x
  own x z = ap (λ h. h e.thread.0) z ∙ upd_same (holders_of m) e.thread.0 x

  counts_on : gained (effect_in m e).lock + readers_in m ≡ readers_in (after m e) + given_up (effect_in m e).lock
  counts_on = by (effect_in m e).lock (event_allowed m ok e)
    where
      by : (f : LockEffect)
          → Allows f (holders_of m) e.thread.0 (holders_of (after m e))
          → gained f + readers_in m ≡ readers_in (after m e) + given_up f
      by keeps z = omega (arith, as_holders (holders_of m) z)
      by grants_read z =
          omega (
            arith,
            becomes Read (held_within (omega (arith, ap reads_of (own Read z.2)))) z.2,
            ap reads_of z.0,
          )
      by grants_write z =
          omega (
            arith,
            becomes Write (held_within (omega (arith, ap writes_of (own Write z.1)))) z.1,
            ap reads_of (z.0 e.thread.0),
          )
      by releases_read z =
          omega (arith, becomes Nothing (holds_within (omega (arith, ap reads_of z.0))) z.1, ap reads_of z.0)
      by releases_write z =
          omega (arith, becomes Nothing (holds_within (omega (arith, ap writes_of z.0))) z.1, ap reads_of z.0)
      by downgrades z =
          omega (arith, becomes Read (holds_within (omega (arith, ap writes_of z.0))) z.1, ap reads_of z.0)

pub tallied : (m : Machine) → Sound m → (es : List Event)
    → tally event_of gained m es + readers_in m ≡ readers_in (ran m es) + tally event_of given_up m es
unfolding tally ran_by
tallied m ok [] = omega arith
tallied m ok (e ∷ es) =
    omega (arith, counts_on m ok e, tallied (after m e) (event_safe m ok e.thread e.code).ok es)

-- ── where it sits ──

reads_below_lem : (n : ℕ) (m : Machine) → reads_below n m ≡ sum n (λ t. reads_of (thread_at m t).holding)
unfolding reads_below
reads_below_lem zero m = refl
reads_below_lem (suc n) m = omega (arith, reads_below_lem n m)

module _ (m : Machine) (ok : Sound m) where
  abbrev g : Ghost
  g = ok.ghost

  abbrev i : Inv m.count (lock_of m) ok.ghost
  i = ok.inv

  in_word_lem : 1 ≤ readers_in m → queued m.word ≡ false → m.word.0 ≡ SINGLE * readers_in m + LOCKED
  in_word_lem some q = by (i.count.bare q)
    where
      by : Unqueued m.word (readers_in m) (writers m.count (lock_of m)) (leavers m.count (lock_of m))
          → m.word.0 ≡ SINGLE * readers_in m + LOCKED
      by (empty z h) = absurd (omega (arith, h.reads))
      by (written z h) = absurd (omega (arith, h.reads))
      by (read z r h) = z

  in_downgrade : queued m.word ≡ true → downgraded m.word ≡ true → readers_in m ≡ 1
  in_downgrade q d = (i.count.handed q (i.handed q d).1 d).reads

  in_oldest : 1 ≤ readers_in m
      → queued m.word ≡ true
      → downgraded m.word ≡ false
      → (ns : List NodeNumber)
      → listed_of m ≡ listed ns
      → (node_by m (oldest ns)).next.0 ≡ SINGLE * readers_in m
  in_oldest some q d ns is =
      let v : Newest g m.word = i.newest q in
      let size : g.hi - g.lo ≡ suc (v.ticket - g.lo) = omega arith in
      let same : ns ≡ down g.log g.lo (suc (v.ticket - g.lo)) =
      cc (sym is ∙ listing_is m ok ∙ ap (λ k. listed (down g.log g.lo k)) size) in
      ap (λ l. (node_by m (oldest l)).next.0) same
      ∙ ap (λ k. (node_by m k).next.0) (oldest_down g.log g.lo (v.ticket - g.lo))
      ∙ ap (λ y. y.next.0)
      (node_by_lem m (g.log g.lo) (i.queue.parts.queued g.lo (omega arith) (omega arith)).some)
      ∙ i.counted (record { some = some; queue = q; plain = d })

  -- ── the traced count ──

  record Traced (x : Result Readers Refusal) : Type 0 where
    pub found : Readers
    pub fine : x ≡ Ok found
    pub readers : found.readers ≡ readers_in m
    pub agrees : found.agrees ≡ true

  traced : Traced (readers_of m)
  traced =
      subst Traced (pick_yes (good_count m.count) _ _ _ ok.good refl)
      (subst (λ r. Traced (held_of m r)) (sym (reads_below_lem m.count m)) held)
    where
      oldest_agrees : 1 ≤ readers_in m
          → queued m.word ≡ true
          → downgraded m.word ≡ false
          → (l : Listed)
          → listed_of m ≡ l
          → Traced (in_oldest_by m (readers_in m) l)
      oldest_agrees some q d lost e = absurd (cc (listing_is m ok))
      oldest_agrees some q d (listed ns) e = record {
        found = _;
        fine = refl;
        readers = refl;
        agrees = eq-eqb _ _ (in_oldest some q d ns e);
      }

      held : Traced (held_of m (readers_in m))
      held = pick_both Traced (eqb (readers_in m) 0) _ _
          (λ z. record { found = _; fine = refl; readers = sym (eqb-true (readers_in m) 0 z); agrees = refl })
          (λ z. let some : 1 ≤ readers_in m = omega (arith, eqb-false (readers_in m) 0 z) in
          pick_both Traced (queued m.word) _ _
          (λ q. pick_both Traced (downgraded m.word) _ _
          (λ d. record {
            found = _;
            fine = refl;
            readers = refl;
            agrees = eq-eqb 1 (readers_in m) (sym (in_downgrade q d));
          })
          (λ d. oldest_agrees some q d (listed_of m) refl))
          (λ q. record {
            found = _;
            fine = refl;
            readers = refl;
            agrees = eq-eqb m.word.0 (SINGLE * readers_in m + LOCKED) (in_word_lem some q);
          }))

  pub counted : Counted m (readers_in m)
  counted = record {
    word = in_word_lem;
    downgrade = λ _. in_downgrade;
    next = in_oldest;
    found = traced.found;
    fine = traced.fine;
    traced = traced.readers;
    agrees = traced.agrees;
  }
