-- `prints_whole`: the print's definition satisfies what Statements.antt says; any two prints that do are equal
-- (`only_one_print`); and document 01's own file prints the three lines that stand there.
-- Not here: the trace's (crate traced); prints that break the statement (WrongPrint.antt).
-- Assumes nothing.
use Rattle.std.specs.Prelude.{ℕ, ◌+◌, List, [], ◌∷◌, Result, Ok, Err, ◌≡◌, refl, length, drop}
use Rattle.std.proofs.Common.{append-nil, sym, ap, subst, ◌∙◌, arith, ext_get_or}
use Rattle.state.specs.Access.{access_of}
use Rattle.state.specs.Machine.{fresh_of}
use Rattle.lock.specs.Advance.{advance_of}
use Rattle.lock.specs.Event.{event_of}
use Rattle.lock.specs.Step.{step_of, marked_of}
use Rattle.schedule.specs.File.{header_length, file_number, checked_of}
use Rattle.schedule.specs.Replay.{replay_of}
use Rattle.schedule.specs.Whole.{file_replay_by, file_replay_of}
use Rattle.schedule.specs.declared.file.FileRefusal.{FileRefusal}
use Rattle.schedule.specs.declared.file.Head.{Head}
use Rattle.print.specs.Text.{ascii, decimal_by}
use Rattle.print.specs.Replayed.{refused_text}
use Rattle.print.specs.Whole.{EventLine, event_lines, file_lines_by, file_lines, bytes_of}
use Rattle.print.specs.Whole.{print_line, print_lines, print_bytes}
use Rattle.print.specs.WholeLaws.{lines_count, lines_tell, tells_same}
use Rattle.print.specs.Statements.{TellsRun, Print, PrintsWhole}

-- ── the print's definition ──

module _ (line : EventLine) (s : List ℕ) where
  pub file_refused :
      (refusal : FileRefusal) → checked_of s ≡ Err refusal
      → file_lines line s ≡ refused_text (file_number refusal) ∷ []
  file_refused refusal e = ap (λ (c : Result Head FileRefusal). file_lines_by line c s) e

  pub file_accepted :
      (head : Head) → checked_of s ≡ Ok head
      → file_lines line s ≡ event_lines line 0 (fresh_of head.threads).machine (drop header_length s)
  file_accepted head e = ap (λ (c : Result Head FileRefusal). file_lines_by line c s) e

  count_by : (c : Result Head FileRefusal) → length (file_lines_by line c s) ≡ (file_replay_by c s).run + 1
  count_by (Err refusal) = refl
  count_by (Ok head) = lines_count line (fresh_of head.threads).machine (drop header_length s)

  pub file_count : length (file_lines line s) ≡ (file_replay_of s).run + 1
  file_count = count_by (checked_of s)

pub prints_whole : PrintsWhole print_lines
prints_whole =
    record {
      refused = λ s refusal e. file_refused print_line s refusal e;
      accepted = λ s head e. tells s head e;
      count = λ s. file_count print_line s;
    }
  where
    tells :
        (s : List ℕ) (head : Head) → checked_of s ≡ Ok head
        → TellsRun print_line (fresh_of head.threads).machine (drop header_length s) (print_lines s)
    tells s head e =
        let m = (fresh_of head.threads).machine in
        let lines = event_lines print_line 0 m (drop header_length s) in
        subst
        (TellsRun print_line m (drop header_length s))
        (append-nil lines ∙ sym (file_accepted print_line s head e))
        (lines_tell print_line m (drop header_length s) [])

-- ── no other print does ──

module _ (p q : Print) (right : PrintsWhole p) (other : PrintsWhole q) (s : List ℕ) where
  abbrev events_of : List ℕ
  events_of = drop header_length s

  equal_by : (c : Result Head FileRefusal) → checked_of s ≡ c → p s ≡ q s
  equal_by (Err refusal) e = right.refused s refusal e ∙ sym (other.refused s refusal e)
  equal_by (Ok head) e =
      let m = (fresh_of head.threads).machine in
      let runs : (file_replay_of s).run ≡ (replay_of m events_of).run =
      ap (λ (c : Result Head FileRefusal). (file_replay_by c s).run) e in
      let told = right.accepted s head e in
      let also = other.accepted s head e in
      ext_get_or []
      (p s)
      (q s)
      (right.count s ∙ sym (other.count s))
      (λ k h. tells_same print_line m events_of (p s) (q s) told also k (omega (arith, right.count s, runs)))

  pub only_one_print : p s ≡ q s
  only_one_print = equal_by (checked_of s) refl

-- ── document 01's file ──

abbrev example : List ℕ
example = 1 ∷ 0 ∷ 0 ∷ 0 ∷ 5 ∷ 1 ∷ 3 ∷ 0 ∷ 16 ∷ 0 ∷ []

pub example_prints : print_bytes example ≡ ascii "0 0 begun - 0\n1 0 yes - 1\nend 2\n"
unfolding checked_of event_lines bytes_of decimal_by event_of step_of advance_of access_of marked_of
example_prints = refl
