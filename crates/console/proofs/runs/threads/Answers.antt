-- `console::runs::threads` meets its contract: the loop keeps that the first threads' lines are laid. Assumes nothing.
use Rattle.std.proofs.Common.{◌+◌, ◌<◌, ◌≤◌, ◌++◌, List, ℕ, ap, ◌∙◌, arith, length}
use Rattle.word.specs.Number.{thread}
use Rattle.print.specs.Text.{ascii}
use Rattle.print.specs.Line.{line_width}
use Rattle.traced.specs.Fits.{thread_text_short}
use Rattle.traced.specs.Thread.{thread_text}
use Rattle.console.specs.Filling.{lays}
use Rattle.console.specs.ThreadLines.{threads_more}
use Rattle.console.proofs.runs.threads.Goals as goal

pub loop-k-preserved : goal.loop-k-preserved
loop-k-preserved c =
    let l = c.loop-k in
    let m = c.args.m in
    let text = thread_text m (thread l.k) in
    let short : length text < line_width = omega (arith, thread_text_short m (thread l.k)) in
    let room : l.at + line_width ≤ length l.page = omega (arith, l.invariant.within) in
    let done = c.lay_line-at.ensures in
    let laid = lays {page = l.page} {at = l.at} room short c.thread_line.ensures done.value done.page_after in
    record {
      within = omega (arith, laid.after, l.invariant.within);
      bytes = laid.shows ∙ ap (λ (p : List ℕ). p ++ (text ++ ascii "\n")) l.invariant.bytes ∙ threads_more l.k m;
    }
