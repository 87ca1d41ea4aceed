-- The trace's lines fit, with their ends, on every machine: the listing's nodes and the queue's waiters are numbered up
-- to the thread limit, and every other number has at most twenty digits.
-- In order: the waiters; the readers; an event's line; a thread's line.
-- Not here: that document 01's part of a line fits (crate print, Shown.antt).
-- Assumes nothing.
use Prim.Native.Nat.{ℕ, zero, suc, ◌+◌, ◌*◌, ◌<◌, ◌≤◌}
use Rattle.std.specs.Prelude.{Bool, true, List, [], ◌++◌, ◌≡◌, refl, length, get_or, Err, Ok, Option, Result}
use Rattle.std.proofs.Math.Bool.{false}
use Rattle.std.proofs.lemmas.Bool.{false≢true}
use Rattle.std.proofs.Common.{sym, ap, ◌∙◌}
use Rattle.std.proofs.Math.Decide.{dec_lt}
use native.Mathlib.Omega.{arith}
use borrow.Author.Tests.{ne_eqb}
use Rattle.std.proofs.Math.Dec.{eqb}
use Rattle.std.proofs.Math.ListN.{length-append}
use Rattle.word.specs.Base.{pick}
use Rattle.word.specs.Cases.{pick_both}
use Rattle.word.specs.Number.{none, is_none, thread, node_of}
use Rattle.word.specs.declared.number.ThreadNumber.{ThreadNumber}
use Rattle.word.specs.declared.number.NodeNumber.{NodeNumber}
use Rattle.state.specs.Answer.{refusal_number}
use Rattle.state.specs.Machine.{thread_limit, good_count}
use Rattle.state.specs.declared.answer.Answer.{Answer}
use Rattle.state.specs.declared.answer.Refusal.{Refusal}
use Rattle.state.specs.declared.answer.Refusal.TheVariants.{Damaged}
use Rattle.state.specs.declared.holding.Holding.{Holding}
use Rattle.state.specs.declared.holding.Holding.TheVariants as Holds
use Rattle.state.specs.declared.machine.Machine.{Machine}
use Rattle.state.specs.declared.machine.Thread.{Thread}
use Rattle.listing.specs.Listing.{waiters_of}
use Rattle.listing.specs.Laws.{in_range, waiters_bad_count, waiters_within, waiters_others, few_threads}
use Rattle.listing.specs.ReaderCount.{readers_of}
use Rattle.listing.specs.declared.listing.Waiters.{Waiters}
use Rattle.listing.specs.declared.reader_count.Readers.{Readers}
use Rattle.listing.specs.declared.reader_count.Sits.{Sits}
use Rattle.standing.specs.Look.{completed_of, record_of}
use Rattle.standing.specs.Part.{registered_of}
use Rattle.standing.specs.Rouses.{rouses_of}
use Rattle.standing.specs.Stands.{aside_in, in_list_of, part_at, held_below, in_queue_of, waiting_of, standing_of}
use Rattle.standing.specs.declared.stands.Standing.{Standing}
use Rattle.standing.specs.declared.stands.Standing.TheVariants as Stands
use Rattle.print.specs.Text.{ascii, decimal}
use Rattle.print.specs.Replayed.{event_text}
use Rattle.print.specs.Shown.{digits_few, digit_one, event_text_short}
use Rattle.traced.specs.Event.{node_text, nodes_text, refusal_text, listed_text, waiters_by, waiters_text, sits_text}
use Rattle.traced.specs.Event.{raw_text, counted_text, readers_by, readers_text, state_text}
use Rattle.traced.specs.Laws.{name_fits}
use Rattle.traced.specs.Place.{place_text}
use Rattle.traced.specs.Thread.{holding_text, token_text, rouser_text, rousers_text, standing_text, record_text}
use Rattle.traced.specs.Thread.{thread_text}
use Rattle.traced.specs.Whole.{trace_line}

-- a number below ten, after a space
spaced_digit : (n : ℕ) → n < 10 → length (ascii " " ++ decimal n) ≤ 2
spaced_digit n h = omega (arith, digit_one n h, length-append (ascii " ") (decimal n))

-- a text and any number
numbered : (xs : List ℕ) (n : ℕ) → length (xs ++ decimal n) ≤ length xs + 20
numbered xs n = omega (arith, digits_few 20 n, length-append xs (decimal n))

refusal_short : (refusal : Refusal) → length (refusal_text refusal) ≤ 29
refusal_short refusal = numbered (ascii " refused ") (refusal_number refusal)

-- ── the waiters ──

module _ (ns : List NodeNumber) (small : (k : ℕ) → (get_or ns k none).0 < 10) where
  node_short : (k : ℕ) → length (node_text (get_or ns k none)) ≤ 2
  node_short k =
      let n = get_or ns k none in
      pick_both (λ (text : List ℕ). length text ≤ 2) (is_none n) [] (ascii " " ++ decimal n.0)
      (λ _. omega arith)
      (λ _. spaced_digit n.0 (small k))

  nodes_short : (k : ℕ) → length (nodes_text k ns) ≤ 2 * k
  unfolding nodes_text
  nodes_short zero = omega arith
  nodes_short (suc k) =
      omega (arith, nodes_short k, node_short k, length-append (nodes_text k ns) (node_text (get_or ns k none)))

module _ (m : Machine) where
  -- a count is below ten, and so each node of a listing; past its length its array has none
  node_small : (w : Waiters)
      → waiters_of m ≡ Ok w
      → m.count ≤ thread_limit
      → (k : ℕ)
      → (get_or w.nodes k none).0 < 10
  node_small w is few k = by (dec_lt k w.length)
    where
      by : Dec (k < w.length) → (get_or w.nodes k none).0 < 10
      by (yes h) = omega (arith, in_range (get_or w.nodes k none).0 m.count (waiters_within m w is k h))
      by (no h) =
          let e : get_or w.nodes k none ≡ none = waiters_others m w is k (omega arith) in
          omega (arith, ap (λ (n : NodeNumber). n.0) e)

  listed_short : (w : Waiters) → waiters_of m ≡ Ok w → m.count ≤ thread_limit → length (listed_text w) ≤ 16
  listed_short w is few =
      pick_both (λ (text : List ℕ). length text ≤ 16) (eqb w.length 0) (ascii " -") (nodes_text thread_limit w.nodes)
      (λ _. omega arith)
      (λ _. omega (arith, nodes_short w.nodes (node_small w is few) thread_limit))

  waiters_by_short : good_count m.count ≡ true
      → (waiters : Result Waiters Refusal)
      → waiters_of m ≡ waiters
      → length (waiters_by waiters) ≤ 29
  waiters_by_short good (Err refusal) is = refusal_short refusal
  waiters_by_short good (Ok w) is = omega (arith, listed_short w is (few_threads m.count good))

  waiters_short_by : (b : Bool) → good_count m.count ≡ b → length (waiters_text (waiters_of m)) ≤ 39
  waiters_short_by true good =
      let all = length-append (ascii " | waiters") (waiters_by (waiters_of m)) in
      omega (arith, all, waiters_by_short good (waiters_of m) refl)
  waiters_short_by false bad = rw (waiters_bad_count m bad) (omega (arith, refusal_short Damaged))

  waiters_short : length (waiters_text (waiters_of m)) ≤ 39
  waiters_short = waiters_short_by (good_count m.count) refl

-- ── the readers ──

sits_short : (sits : Sits) → length (sits_text sits) ≤ 29
sits_short Sits.Nowhere = omega arith
sits_short Sits.Word = omega arith
sits_short Sits.Downgrade = omega arith
sits_short (Sits.Node n) = numbered (ascii " in node ") n.0

raw_short : (r : Readers) → length (raw_text r) ≤ 29
raw_short r =
    pick_both (λ (text : List ℕ). length text ≤ 29) r.agrees [] (ascii ", wrong: " ++ decimal r.raw)
    (λ _. omega arith)
    (λ _. numbered (ascii ", wrong: ") r.raw)

counted_short : (r : Readers) → length (counted_text r) ≤ 79
counted_short r =
    let count = ascii " " ++ decimal r.readers in
    let placed = length-append count (sits_text r.sits) in
    let all = length-append (count ++ sits_text r.sits) (raw_text r) in
    let text = count ++ sits_text r.sits ++ raw_text r in
    pick_both (λ (text : List ℕ). length text ≤ 79) (eqb r.readers 0) (ascii " -") text
    (λ _. omega arith)
    (λ _. omega (arith, numbered (ascii " ") r.readers, sits_short r.sits, raw_short r, placed, all))

readers_by_short : (readers : Result Readers Refusal) → length (readers_by readers) ≤ 79
readers_by_short (Err refusal) = omega (arith, refusal_short refusal)
readers_by_short (Ok r) = counted_short r

readers_short : (readers : Result Readers Refusal) → length (readers_text readers) ≤ 89
readers_short readers =
    omega (arith, readers_by_short readers, length-append (ascii " | readers") (readers_by readers))

-- ── an event's line ──

pub trace_line_short :
    (at : ℕ) (t : ThreadNumber) (answer : Answer) (woken : Option ThreadNumber) (m : Machine)
    → length (trace_line at t answer woken m) ≤ 217
trace_line_short at t answer woken m =
    let told = event_text at t answer woken m.word in
    let state = length-append (waiters_text (waiters_of m)) (readers_text (readers_of m)) in
    let all = length-append told (state_text m) in
    let first = event_text_short at t answer woken m.word in
    omega (arith, first, waiters_short m, readers_short (readers_of m), state, all)

-- ── a thread's line ──

holding_short : (h : Holding) → length (holding_text h) ≤ 15
holding_short Holds.Nothing = omega arith
holding_short Holds.Read = omega arith
holding_short Holds.Write = omega arith

token_short : (token : Bool) → length (token_text token) ≤ 10
token_short true = omega arith
token_short false = omega arith

record_short : (t : ThreadNumber) (r : Thread) → length (record_text t r) ≤ 72
record_short t r =
    let named = ascii "thread " ++ decimal t.0 in
    let spaced = length-append named (ascii " ") in
    let placed = length-append (named ++ ascii " ") (place_text r.place) in
    let held = length-append (named ++ ascii " " ++ place_text r.place) (holding_text r.holding) in
    let front = named ++ ascii " " ++ place_text r.place ++ holding_text r.holding in
    let all = length-append front (token_text r.token) in
    let number = numbered (ascii "thread ") t.0 in
    let place = name_fits r.place in
    let holding = holding_short r.holding in
    omega (arith, number, spaced, placed, place, held, holding, all, token_short r.token)

module _ (m : Machine) where
  rouser_short : (k : ℕ) → k < 10 → length (rouser_text m k) ≤ 2
  rouser_short k h =
      pick_both (λ (text : List ℕ). length text ≤ 2) (rouses_of m (thread k)) (ascii " " ++ decimal k) []
      (λ _. spaced_digit k h)
      (λ _. omega arith)

  rousers_short : (k : ℕ) → k ≤ 10 → length (rousers_text k m) ≤ 2 * k
  unfolding rousers_text
  rousers_short zero h = omega arith
  rousers_short (suc k) h =
      omega (arith, rousers_short k (omega arith), rouser_short k h, length-append (rousers_text k m) (rouser_text m k))

  -- nobody is in the queue of a machine with a bad count
  none_queued : (n : NodeNumber) → 0 < n.0 → good_count m.count ≡ false → in_queue_of m n ≡ false
  none_queued n some bad =
      let other : is_none n ≡ false = ne_eqb n.0 0 (λ e. omega arith) in
      rw (waiters_bad_count m bad) other

  abbrev Short : Standing → Type 0
  Short standing = length (standing_text m standing) ≤ 45

  aside_short : (by : ThreadNumber) → Short (Stands.SetAside by)
  aside_short by = omega (arith, numbered (ascii ", set aside by ") by.0)

  list_short : (by : ThreadNumber) → Short (Stands.InList by)
  list_short by = omega (arith, numbered (ascii ", in the list of ") by.0)

  held_short : (k : ℕ) (n : NodeNumber) → Short (held_below k m n)
  unfolding held_below
  held_short zero n = omega arith
  held_short (suc k) n =
      let part = part_at m k in
      let other = pick (in_list_of m part n) (Stands.InList (thread k)) (held_below k m n) in
      pick_both Short (aside_in part n) (Stands.SetAside (thread k)) other
      (λ _. aside_short (thread k))
      (λ _. pick_both Short (in_list_of m part n) (Stands.InList (thread k)) (held_below k m n)
      (λ _. list_short (thread k))
      (λ _. held_short k n))

  queue_short_by :
      (n : NodeNumber) (b : Bool)
      → good_count m.count ≡ b
      → 0 < n.0
      → in_queue_of m n ≡ true
      → Short Stands.InQueue
  queue_short_by n true good some met =
      let few = few_threads m.count good in
      let all = length-append (ascii ", in the queue, waits for") (rousers_text m.count m) in
      omega (arith, few, all, rousers_short m.count (omega (arith, few)))
  queue_short_by n false bad some met = absurd (false≢true (sym (none_queued n some bad) ∙ met))

  standing_short : (t : ThreadNumber) → Short (standing_of m t)
  standing_short t =
      let n = node_of t in
      let queued = pick (in_queue_of m n) Stands.InQueue (held_below m.count m n) in
      pick_both Short (registered_of (part_at m t.0)) (waiting_of m t) Stands.NotWaiting
      (λ _. pick_both Short (completed_of m t.0) Stands.Completed queued
      (λ _. omega arith)
      (λ _. pick_both Short (in_queue_of m n) Stands.InQueue (held_below m.count m n)
      (λ met. queue_short_by n (good_count m.count) refl (omega arith) met)
      (λ _. held_short m.count n)))
      (λ _. omega arith)

  pub thread_text_short : (t : ThreadNumber) → length (thread_text m t) ≤ 117
  thread_text_short t =
      let its = record_text t (record_of m t.0) in
      let all = length-append its (standing_text m (standing_of m t)) in
      omega (arith, record_short t (record_of m t.0), standing_short t, all)
