-- `console::runs::run` meets its contract: what is written, and then what is left, stays what was to be printed.
-- Assumes nothing.
use Rattle.std.proofs.Common.{arith, length, ap, ◌∙◌}
use Rattle.schedule.specs.declared.cursor.Cursor.{Cursor}
use Rattle.console.specs.Pages.{to_print, to_run}
use Rattle.console.specs.Paging.{paging_most, paging_over}
use Rattle.console.specs.Printing.{run_printed}
use Rattle.console.proofs.runs.run.Goals as goal

pub overflow_add-bytes : goal.overflow_add-bytes
overflow_add-bytes g c =
    let most = paging_most c.loop-stop.invariant c.fill-filled.ensures c.flush-bytes.ensures in
    omega (arith, most, c.requires)

pub overflow_add-result : goal.overflow_add-result
overflow_add-result g c =
    let most = paging_most c.loop-stop.invariant c.fill-filled.ensures c.flush-bytes.ensures in
    omega (arith, most, c.requires, c.last.ensures.upper_bound)

pub returns-in-Break : goal.returns-in-Break
returns-in-Break g c =
    let which = c.args.which in
    let s = c.args.s.now in
    let start = c.start-cursor.ensures in
    let stop = c.in-Break.stop in
    let over = paging_over c.loop-stop.invariant c.fill-filled.ensures c.flush-bytes.ensures stop c.in-Break.is in
    let bytes = over.0 ∙ ap (λ (k : Cursor). length (to_print which k s)) start in
    let replay = over.1 ∙ ap (λ (k : Cursor). to_run k s) start in
    run_printed which c.args.first s c.fill-filled.result.cursor stop _ _ replay bytes c.last.ensures.value
