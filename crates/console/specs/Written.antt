-- How many bytes are written: of a page, of one line by itself, and of a refused file's line.
-- Assumes nothing.
use Rattle.std.specs.Prelude.{ℕ, ◌+◌, ◌<◌, ◌≤◌, List, [], ◌++◌, ◌≡◌, refl, length, replicate}
use Rattle.std.proofs.Common.{sym, ap, ◌∙◌, arith, lt-ltb, le-ltb, length-append}
use Rattle.std.proofs.Math.Decide.{dec_lt}
use Rattle.word.specs.Cases.{pick_yes, pick_no, pick_both}
use Rattle.schedule.specs.File.{file_number}
use Rattle.schedule.specs.declared.file.FileRefusal.{FileRefusal}
use Rattle.print.specs.Text.{ascii}
use Rattle.print.specs.Line.{line_width, line_of}
use Rattle.print.specs.Page.{fits_of, laid_of, after_of}
use Rattle.print.specs.PageLaws.{fits_room, laid_length, laid_after}
use Rattle.print.specs.Replayed.{refused_text}
use Rattle.print.specs.Shown.{refused_text_short}
use Rattle.print.specs.Whole.{bytes_of}
use Rattle.print.specs.declared.line.Line.{Line}
use Rattle.console.specs.Output.{ended_of, written_of, line_written}
use Rattle.console.specs.Runs.{refused_bytes}

-- what lies within a page is written
pub written_all : (size at : ℕ) → at ≤ size → written_of size at ≡ at
written_all size at h = by (dec_lt at size)
  where
    by : Dec (at < size) → written_of size at ≡ at
    by (yes l) = sym (pick_yes _ _ _ _ (lt-ltb at size l) refl)
    by (no l) = sym (pick_no _ _ _ _ (le-ltb at size (omega arith)) (omega arith))

-- what is laid on a page of one line is all written
module _ (line : Line) where
  line_within : line_written line ≤ line_width
  line_within =
      let n = (ended_of line).length in
      pick_both (λ (k : ℕ). k ≤ line_width) (fits_of line_width 0 n) (0 + n) 0
      (λ fits. (fits_room line_width 0 n fits).1)
      (λ _. omega arith)

  pub line_written_lem :
      (first : List ℕ) {page : List ℕ} {at r : ℕ} → length first ≡ line_width
      → at ≡ after_of (length first) 0 (ended_of line)
      → page ≡ laid_of first 0 (ended_of line)
      → r ≡ written_of (length page) at
      → r ≡ line_written line
  line_written_lem first {page} {at} {r} e p q w =
      let size : length page ≡ line_width = ap length q ∙ laid_length first 0 (ended_of line) ∙ e in
      let start : at ≡ line_written line = p ∙ ap (λ (n : ℕ). after_of n 0 (ended_of line)) e in
      w
      ∙ ap (λ (n : ℕ). written_of n at) size
      ∙ ap (written_of line_width) start
      ∙ written_all line_width (line_written line) line_within

-- a refused file's line
pub refused_written :
    (refusal : FileRefusal)
    → line_written (line_of (refused_text (file_number refusal))) ≡ length (refused_bytes refusal)
unfolding bytes_of
refused_written refusal =
    let text = refused_text (file_number refusal) in
    let short : length text < line_width = omega (arith, refused_text_short (file_number refusal)) in
    let after = laid_after (replicate line_width 0) 0 text (omega arith) short in
    let all = length-append (text ++ ascii "\n") [] in
    omega (arith, after, all, length-append text (ascii "\n"))
