-- What the pages come to: of a run of events, and of a file, accepted or refused.
-- Not here: page after page (Paging.antt); the answers (Runs.antt).
-- Assumes nothing.
use Rattle.std.specs.Prelude.{ℕ, ◌+◌, ◌*◌, ◌≤◌, List, Result, Ok, Err, ◌≡◌, length, drop}
use Rattle.std.proofs.Common.{append-nil, sym, ap, subst, ◌∙◌, arith, length-append, length-drop}
use Rattle.std.specs.declared.ops.ControlFlow.TheVariants.{Break}
use Rattle.state.specs.Machine.{fresh_of}
use Rattle.state.specs.declared.machine.Fresh.{Fresh}
use Rattle.state.specs.declared.machine.Machine.{Machine}
use Rattle.schedule.specs.Cursor.{start_of}
use Rattle.schedule.specs.File.{header_length, event_width, event_limit, checked_of}
use Rattle.schedule.specs.Judged.{Judged, accepted, judged}
use Rattle.schedule.specs.Replay.{replay_of}
use Rattle.schedule.specs.ReplayLaws.{after_zero}
use Rattle.schedule.specs.Whole.{file_ran_of}
use Rattle.schedule.specs.declared.cursor.Cursor.{Cursor}
use Rattle.schedule.specs.declared.file.FileRefusal.{FileRefusal}
use Rattle.schedule.specs.declared.file.Head.{Head}
use Rattle.schedule.specs.declared.replay.Replayed.{Replayed}
use Rattle.schedule.specs.declared.whole.FileStop.{FileStop}
use Rattle.print.specs.Whole.{event_lines, bytes_of}
use Rattle.print.specs.WholeLaws.{bytes_append}
use Rattle.console.specs.Pages.{line_for, to_print, to_run, run_by}
use Rattle.console.specs.Runs.{end_lines, ran_bytes, ran_printed, refused_bytes, refused_printed}
use Rattle.console.specs.Runs.{file_bytes, file_printed}
use Rattle.console.specs.declared.pages.Lines.{Lines}
use Rattle.console.specs.declared.pages.Lines.TheVariants.{Plain, Traced}
use Rattle.console.specs.declared.runs.Printed.{Printed}

-- ── a run of events ──

module _ (which : Lines) (m : Machine) (s : List ℕ) where
  -- how many bytes a trace's last lines are
  abbrev ends : Machine → ℕ
  ends x = length (bytes_of (end_lines which x))

  pub run_printed :
      (c : Cursor) (stop : Result (Unit {0}) FileStop) (bytes more : ℕ)
      → run_by (Break stop) c s ≡ to_run (start_of m) s
      → bytes ≡ length (to_print which (start_of m) s)
      → more ≡ length (bytes_of (end_lines which c.machine))
      → record { replayed = run_by (Break stop) c s; bytes = bytes + more } ≡ ran_printed which m s
  run_printed c stop bytes more e p q =
      let whole = after_zero (replay_of m s) in
      let replayed : run_by (Break stop) c s ≡ file_ran_of (replay_of m s) = e ∙ ap file_ran_of whole in
      let last = q ∙ ap (λ (r : Replayed FileStop). ends r.machine) replayed in
      let lines = bytes_of (event_lines (line_for which) 0 m s) in
      let all = length-append lines (bytes_of (end_lines which (replay_of m s).machine)) in
      let size : bytes + more ≡ length (ran_bytes which m s) = omega (arith, p, last, all) in
      rw (replayed, size)

-- ── a refused file ──

module _ (s : List ℕ) (refusal : FileRefusal) (e : checked_of s ≡ Err refusal) where
  refused_bytes_lem : (which : Lines) → refused_bytes refusal ≡ file_bytes which s
  refused_bytes_lem Traced = rw e
  refused_bytes_lem Plain = rw e

  pub file_refused : (which : Lines) → refused_printed refusal ≡ file_printed which s
  file_refused which = rw (← refused_bytes_lem which, e)

-- ── an accepted file ──

module _ (s : List ℕ) (head : Head) (e : checked_of s ≡ Ok head) where
  -- how many events it has at the most
  pub events_most : length (drop header_length s) ≤ event_width * event_limit
  events_most = by head (subst (Judged s) e (judged s))
    where
      by : (x : Head) → Judged s (Ok x) → length (drop header_length s) ≤ event_width * event_limit
      by x (accepted p h) = omega (arith, h, p.measured.whole, length-drop header_length s)

  abbrev m : Machine
  m = (fresh_of head.threads).machine

  abbrev l : List ℕ
  l = drop header_length s

  accepted_bytes : (which : Lines) → ran_bytes which m l ≡ file_bytes which s
  unfolding bytes_of
  accepted_bytes Traced =
      rw e (sym (bytes_append (event_lines (line_for Traced) 0 m l) (end_lines Traced (replay_of m l).machine)))
  accepted_bytes Plain = rw e (append-nil (bytes_of (event_lines (line_for Plain) 0 m l)))

  -- of the machine and the events that were made of it
  pub file_accepted :
      (which : Lines) {fresh : Fresh} {part : List ℕ} {r : Printed} → fresh ≡ fresh_of head.threads
      → part ≡ drop header_length s
      → r ≡ ran_printed which fresh.machine part
      → r ≡ file_printed which s
  file_accepted which {fresh} {part} p q given =
      given
      ∙ ap (λ (x : Fresh). ran_printed which x.machine part) p
      ∙ ap (ran_printed which m) q
      ∙ rw (← accepted_bytes which, e)
