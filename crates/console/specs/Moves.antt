-- One move of a cursor, by what it saw: the line that it prints, what is left to print and to run, and how far it came.
-- In order: no event is left; by the reply; any move; that every line fits.
-- Not here: a move by itself (crate schedule, CursorLaws.antt); one event's lines (crate print, WholeLaws.antt).
-- Assumes nothing.
use Rattle.std.specs.Prelude.{ℕ, ◌+◌, ◌/◌, ◌<◌, ◌≤◌, List, [], ◌++◌, ◌≡◌, refl, length, Err, Ok, Option, Some, None}
use Rattle.std.proofs.Math.Path.{ap}
use Rattle.std.proofs.Common.{◌∙◌, arith}
use Rattle.std.proofs.Math.Decide.{dec_lt}
use Rattle.word.specs.declared.number.ThreadNumber.{ThreadNumber}
use Rattle.state.specs.Answer.{Reply, accepted_with}
use Rattle.state.specs.declared.answer.Answer.{Answer}
use Rattle.state.specs.declared.answer.Refusal.{Refusal}
use Rattle.state.specs.declared.machine.Machine.{Machine}
use Rattle.state.specs.declared.machine.Outcome.{Outcome}
use Rattle.schedule.specs.File.{event_width}
use Rattle.schedule.specs.Replay.{event_at}
use Rattle.schedule.specs.ReplayLaws.{ended_here, refused_here, accepted_here}
use Rattle.schedule.specs.Whole.{file_ran_of}
use Rattle.schedule.specs.Cursor.{moved_to, moved_of, seen_of}
use Rattle.schedule.specs.CursorLaws.{moved_ended, moved_refused, moved_accepted}
use Rattle.schedule.specs.declared.cursor.Cursor.{Cursor}
use Rattle.schedule.specs.declared.cursor.Moved.{Moved}
use Rattle.schedule.specs.declared.cursor.Seen.{Seen}
use Rattle.schedule.specs.declared.whole.FileStop.TheVariants as Stop
use Rattle.print.specs.Text.{ascii}
use Rattle.print.specs.Line.{line_width}
use Rattle.print.specs.Replayed as Print
use Rattle.print.specs.Shown.{event_text_short, stop_text_short}
use Rattle.print.specs.Whole.{bytes_of}
use Rattle.print.specs.WholeLaws.{lines_on, lines_ended, lines_on_lem}
use Rattle.traced.specs.Event as Trace
use Rattle.traced.specs.Fits.{trace_line_short}
use Rattle.console.specs.Pages.{line_for, move_text, going_of, to_print, to_run, print_by, run_by, Further}
use Rattle.console.specs.declared.pages.Lines.{Lines}
use Rattle.console.specs.declared.pages.Lines.TheVariants.{Plain, Traced}

-- what one move does
pub record Moves (which : Lines) (c : Cursor) (s : List ℕ) (moved : Moved) : Type 0 where
  pub prints :
      to_print which c s
      ≡ move_text which c.at moved ++ ascii "\n" ++ print_by which (going_of moved.seen) moved.cursor s
  pub runs : to_run c s ≡ run_by (going_of moved.seen) moved.cursor s
  pub further : Further (going_of moved.seen) c moved.cursor s

module _ (c : Cursor) (s : List ℕ) where
  -- ── no event is left ──

  ended_prints :
      (which : Lines) → length s / event_width ≤ c.at
      → to_print which c s ≡ move_text which c.at (moved_to c None) ++ ascii "\n" ++ []
  unfolding bytes_of
  ended_prints Traced h = ap bytes_of (lines_ended (line_for Traced) c.machine s c.at h)
  ended_prints Plain h = ap bytes_of (lines_ended (line_for Plain) c.machine s c.at h)

  ended : (which : Lines) → length s / event_width ≤ c.at → Moves which c s (moved_of c s)
  ended which h =
      let runs = ap file_ran_of (ended_here c.machine s c.at h) in
      rw (moved_ended c s h) (record { prints = ended_prints which h; runs = runs; further = tt })

  -- ── by the reply ──

  module _ (h : c.at < length s / event_width) where
    abbrev o : Outcome
    o = event_at c.machine s c.at

    abbrev on : Cursor
    on = record { machine = o.machine; at = c.at + 1 }

    abbrev bytes_by : Lines → Reply → List ℕ
    bytes_by which reply = bytes_of (lines_on (line_for which) c.machine s c.at reply)

    told : (which : Lines) → to_print which c s ≡ bytes_by which o.reply
    told which = ap bytes_of (lines_on_lem (line_for which) c.machine s c.at h)

    module _ (refusal : Refusal) (r : o.reply ≡ Err refusal) where
      refused_prints :
          (which : Lines)
          → to_print which c s ≡ move_text which c.at (moved_to c (seen_of c s (Err refusal))) ++ ascii "\n" ++ []
      unfolding bytes_of
      refused_prints Traced = told Traced ∙ ap (bytes_by Traced) r
      refused_prints Plain = told Plain ∙ ap (bytes_by Plain) r

      refused : (which : Lines) → Moves which c s (moved_of c s)
      refused which =
          let moved = moved_refused c s o h refl refusal r ∙ ap (λ (x : Reply). moved_to c (seen_of c s x)) r in
          let runs = ap file_ran_of (refused_here c.machine s c.at o h refl refusal r) in
          rw moved (record { prints = refused_prints which; runs = runs; further = tt })

    module _ (answer : Answer) (woken : Option ThreadNumber) (r : o.reply ≡ accepted_with answer woken) where
      accepted_prints :
          (which : Lines)
          → to_print which c s
          ≡ move_text which c.at (moved_to on (seen_of c s (accepted_with answer woken)))
          ++ ascii "\n" ++ to_print which on s
      unfolding bytes_of
      accepted_prints Traced = told Traced ∙ ap (bytes_by Traced) r
      accepted_prints Plain = told Plain ∙ ap (bytes_by Plain) r

      accepted : (which : Lines) → Moves which c s (moved_of c s)
      accepted which =
          let moved = moved_accepted c s o h refl answer woken r ∙ ap (λ (x : Reply). moved_to on (seen_of c s x)) r in
          let runs = ap file_ran_of (accepted_here c.machine s c.at o h refl answer woken r) in
          rw moved (record { prints = accepted_prints which; runs = runs; further = (omega arith, omega arith) })

    by_reply : (which : Lines) (reply : Reply) → o.reply ≡ reply → Moves which c s (moved_of c s)
    by_reply which (Err refusal) r = refused refusal r which
    by_reply which (Ok told) r = accepted told.answer told.woken r which

  -- ── any move ──

  by_place : (which : Lines) → Dec (c.at < length s / event_width) → Moves which c s (moved_of c s)
  by_place which (yes h) = by_reply h which (event_at c.machine s c.at).reply refl
  by_place which (no h) = ended which (omega arith)

  pub moves : (which : Lines) {moved : Moved} → moved ≡ moved_of c s → Moves which c s moved
  moves which e = rw e (by_place which (dec_lt c.at (length s / event_width)))

-- ── every line fits, with its end ──

print_short : (at : ℕ) (seen : Option Seen) (m : Machine) → length (Print.seen_text at seen m.word) < line_width
print_short at None m = omega (arith, stop_text_short at (Ok tt))
print_short at (Some seen) m = by seen.reply
  where
    by : (reply : Reply) → length (Print.replied_text at seen.thread reply m.word) < line_width
    by (Err refusal) = omega (arith, stop_text_short at (Err (Stop.Refused refusal)))
    by (Ok told) = omega (arith, event_text_short at seen.thread told.answer told.woken m.word)

trace_short : (at : ℕ) (seen : Option Seen) (m : Machine) → length (Trace.seen_text at seen m) < line_width
trace_short at None m = omega (arith, stop_text_short at (Ok tt))
trace_short at (Some seen) m = by seen.reply
  where
    by : (reply : Reply) → length (Trace.replied_text at seen.thread reply m) < line_width
    by (Err refusal) = omega (arith, stop_text_short at (Err (Stop.Refused refusal)))
    by (Ok told) = omega (arith, trace_line_short at seen.thread told.answer told.woken m)

pub move_short : (which : Lines) (at : ℕ) (moved : Moved) → length (move_text which at moved) < line_width
move_short Traced at moved = trace_short at moved.seen moved.cursor.machine
move_short Plain at moved = print_short at moved.seen moved.cursor.machine
