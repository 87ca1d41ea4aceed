-- `prints_whole` for the trace: its definition satisfies what Statements.antt says, and any two traces that do are
-- equal (`only_one_trace`).
-- Not here: the print's (crate print, Theorems.antt).
-- Assumes nothing.
use Prim.Native.Nat.{ℕ, zero, suc, ◌+◌, ◌-◌, ◌<◌}
use mathlib.Core.List.{List, [], ◌∷◌, ◌++◌}
use Rattle.std.specs.Prelude.{Result, Ok, Err, ◌≡◌, length, drop, get_or}
use Rattle.std.proofs.Math.Path.{refl, ap}
use Rattle.std.proofs.Common.{sym, subst, ◌∙◌, ext_get_or, get_or-append-add}
use Rattle.std.proofs.Math.Decide.{dec_lt}
use native.Mathlib.Omega.{arith}
use Rattle.std.proofs.Math.ListN.{length-append, get_or-append}
use Rattle.std.proofs.Math.Seq.{get_or_at}
use Rattle.word.specs.Number.{thread}
use Rattle.state.specs.Machine.{fresh_of}
use Rattle.state.specs.declared.machine.Machine.{Machine}
use Rattle.schedule.specs.File.{header_length, file_number, checked_of}
use Rattle.schedule.specs.Replay.{replay_of}
use Rattle.schedule.specs.Whole.{file_replay_by}
use Rattle.schedule.specs.declared.file.FileRefusal.{FileRefusal}
use Rattle.schedule.specs.declared.file.Head.{Head}
use Rattle.print.specs.Replayed.{refused_text}
use Rattle.print.specs.Whole.{event_lines, file_lines_by}
use Rattle.print.specs.WholeLaws.{lines_count, lines_tell, tells_same}
use Rattle.print.specs.Statements.{Print}
use Rattle.traced.specs.Thread.{thread_text}
use Rattle.traced.specs.Whole.{trace_line, thread_lines, end_lines_by, trace_lines}
use Rattle.traced.specs.Statements.{TellsAll, TracesWhole}

-- ── the threads' lines ──

module _ (m : Machine) where
  threads_count : (k : ℕ) → length (thread_lines k m) ≡ k
  unfolding thread_lines
  threads_count zero = refl
  threads_count (suc k) =
      omega (arith, threads_count k, length-append (thread_lines k m) (thread_text m (thread k) ∷ []))

  abbrev IsAt : ℕ → ℕ → Type 0
  IsAt n k = get_or (thread_lines n m) k [] ≡ thread_text m (thread k)

  one_more : (n k : ℕ) → (k < n → IsAt n k) → Dec (k < n) → k < suc n → IsAt (suc n) k
  unfolding thread_lines
  one_more n k before (yes l) h =
      get_or-append (thread_lines n m) (thread_text m (thread n) ∷ []) [] k (omega (arith, threads_count n)) ∙ before l
  one_more n k before (no l) h =
      let e : n ≡ k = omega arith in
      get_or_at (thread_lines n m) (thread_text m (thread n)) [] [] k (threads_count n ∙ e)
      ∙ ap (λ (i : ℕ). thread_text m (thread i)) e

  thread_at_lem : (n k : ℕ) → k < n → IsAt n k
  thread_at_lem zero k h = absurd (omega (arith, h))
  thread_at_lem (suc n) k h = one_more n k (thread_at_lem n k) (dec_lt k n) h

-- ── the trace's definition ──

module _ (m : Machine) (s : List ℕ) where
  abbrev told : List (List ℕ)
  told = event_lines trace_line 0 m s

  abbrev end : Machine
  end = (replay_of m s).machine

  lines_tell_all : TellsAll m s (told ++ thread_lines end.count end)
  lines_tell_all =
      record {
        events = lines_tell trace_line m s (thread_lines end.count end);
        threads = λ k h. at k h;
        count = counted;
      }
    where
      many : length told ≡ (replay_of m s).run + 1
      many = lines_count trace_line m s

      at :
          (k : ℕ) → k < end.count
          → get_or (told ++ thread_lines end.count end) ((replay_of m s).run + 1 + k) [] ≡ thread_text end (thread k)
      at k h =
          rw (← many) (get_or-append-add told (thread_lines end.count end) k [] ∙ thread_at_lem end end.count k h)

      counted : length (told ++ thread_lines end.count end) ≡ (replay_of m s).run + 1 + end.count
      counted = length-append told (thread_lines end.count end) ∙ rw (many, threads_count end end.count)

abbrev trace_by : Result Head FileRefusal → List ℕ → List (List ℕ)
trace_by c s = file_lines_by trace_line c s ++ end_lines_by c (file_replay_by c s).machine

pub prints_whole : TracesWhole trace_lines
prints_whole =
    record {
      refused = λ s refusal e. alone s refusal e;
      accepted = λ s head e. tells s head e;
    }
  where
    alone :
        (s : List ℕ) (refusal : FileRefusal) → checked_of s ≡ Err refusal
        → trace_lines s ≡ refused_text (file_number refusal) ∷ []
    alone s refusal e = ap (λ (c : Result Head FileRefusal). trace_by c s) e

    tells :
        (s : List ℕ) (head : Head) → checked_of s ≡ Ok head
        → TellsAll (fresh_of head.threads).machine (drop header_length s) (trace_lines s)
    tells s head e =
        subst
        (TellsAll (fresh_of head.threads).machine (drop header_length s))
        (ap (λ (c : Result Head FileRefusal). trace_by c s) (sym e))
        (lines_tell_all (fresh_of head.threads).machine (drop header_length s))

-- ── no other trace does ──

module _ (m : Machine) (s : List ℕ) (xs ys : List (List ℕ)) (a : TellsAll m s xs) (b : TellsAll m s ys) where
  same_line : (k : ℕ) → k < length xs → Dec (k < (replay_of m s).run + 1) → get_or xs k [] ≡ get_or ys k []
  same_line k h (yes l) = tells_same trace_line m s xs ys a.events b.events k l
  same_line k h (no l) =
      let i = k - ((replay_of m s).run + 1) in
      let e : k ≡ (replay_of m s).run + 1 + i = omega arith in
      let few : i < (replay_of m s).machine.count = omega (arith, a.count) in
      rw e (a.threads i few ∙ sym (b.threads i few))

  same_lines : xs ≡ ys
  same_lines =
      ext_get_or [] xs ys (a.count ∙ sym b.count) (λ k h. same_line k h (dec_lt k ((replay_of m s).run + 1)))

module _ (p q : Print) (right : TracesWhole p) (other : TracesWhole q) (s : List ℕ) where
  equal_by : (c : Result Head FileRefusal) → checked_of s ≡ c → p s ≡ q s
  equal_by (Err refusal) e = right.refused s refusal e ∙ sym (other.refused s refusal e)
  equal_by (Ok head) e =
      same_lines (fresh_of head.threads).machine
      (drop header_length s)
      (p s)
      (q s)
      (right.accepted s head e)
      (other.accepted s head e)

  pub only_one_trace : p s ≡ q s
  only_one_trace = equal_by (checked_of s) refl
