-- Page after page: what is written, and what the loop that writes the pages keeps.
-- In order: at most a line's width for each event and one; what is kept; one page more, by whether the replay goes on.
-- Not here: how one page is filled (Filling.antt); what a run or a file comes to (Printing.antt).
-- Assumes nothing.
use Rattle.std.specs.Prelude.{ℕ, ◌+◌, ◌-◌, ◌*◌, ◌/◌, ◌<◌, ◌≤◌, List, ◌≡◌, length, take, drop, Option, Result}
use Rattle.std.proofs.Common.{ap, subst, ◌∙◌, arith, length-append, length-drop, length-take-le}
use Rattle.std.specs.declared.ops.ControlFlow.TheVariants.{Continue, Break}
use Rattle.word.specs.declared.number.ThreadNumber.{ThreadNumber}
use Rattle.state.specs.declared.answer.Answer.{Answer}
use Rattle.state.specs.declared.machine.Machine.{Machine}
use Rattle.schedule.specs.File.{event_width}
use Rattle.schedule.specs.declared.cursor.Cursor.{Cursor}
use Rattle.schedule.specs.declared.whole.FileStop.{FileStop}
use Rattle.print.specs.Line.{line_width}
use Rattle.print.specs.Shown.{event_text_short}
use Rattle.print.specs.WholeLaws.{bytes_most}
use Rattle.traced.specs.Fits.{trace_line_short}
use Rattle.console.specs.Output.{written_of}
use Rattle.console.specs.Pages.{line_for, to_print, to_run, print_by, run_by, Fills, Further, Going}
use Rattle.console.specs.Written.{written_all}
use Rattle.console.specs.declared.pages.Filled.{Filled}
use Rattle.console.specs.declared.pages.Lines.{Lines}
use Rattle.console.specs.declared.pages.Lines.TheVariants.{Plain, Traced}

-- ── how many bytes at the most ──

short :
    (which : Lines) (at : ℕ) (t : ThreadNumber) (a : Answer) (w : Option ThreadNumber) (m : Machine)
    → length (line_for which at t a w m) < line_width
short Traced at t a w m = omega (arith, trace_line_short at t a w m)
short Plain at t a w m = omega (arith, event_text_short at t a w m.word)

print_most :
    (which : Lines) (c : Cursor) (s : List ℕ)
    → length (to_print which c s) ≤ line_width * (length s / event_width + 1)
print_most which c s =
    let rest = drop (event_width * c.at) s in
    let most = bytes_most (line_for which) (short which) c.at c.machine rest in
    omega (arith, most, length-drop (event_width * c.at) s)

-- ── what the loop keeps ──

-- so many bytes are written, and what is left from the cursor on
pub record Paging (which : Lines) (from : Cursor) (s : List ℕ) (c : Cursor) (bytes : ℕ) : Type 0 where
  pub written : bytes + length (to_print which c s) ≡ length (to_print which from s)
  pub replay : to_run c s ≡ to_run from s

-- one page more is filled and written
module _
    {which : Lines} {from : Cursor} {s : List ℕ} {c : Cursor} {bytes : ℕ}
    {later : List ℕ} {r : Filled} {more : ℕ}
    (kept : Paging which from s c bytes)
    (fills : Fills which c s later r)
    (w : more ≡ written_of (length later) r.at)
  where
    abbrev Sum : Going → Type 0
    Sum g = bytes + more + length (print_by which g r.cursor s) ≡ length (to_print which from s)

    sum : Sum r.going
    sum =
        let left = print_by which r.going r.cursor s in
        let all = w ∙ written_all (length later) r.at fills.within in
        let page = length-take-le r.at later fills.within in
        omega (arith, all, page, length-append (take r.at later) left, ap length fills.bytes, kept.written)

    abbrev Runs : Going → Type 0
    Runs g = run_by g r.cursor s ≡ to_run from s

    runs : Runs r.going
    runs = fills.replay ∙ kept.replay

    pub paging_most : bytes + more ≤ line_width * (length s / event_width + 1)
    paging_most = omega (arith, sum, print_most which from s)

    -- fewer events are left
    pub paging_less :
        r.going ≡ Continue tt → length s / event_width - r.cursor.at < length s / event_width - c.at
    paging_less on =
        let further = subst (λ (g : Going). Further g c r.cursor s) on fills.further in
        omega (arith, further.0, further.1)

    pub paging_over :
        (stop : Result (Unit {0}) FileStop) → r.going ≡ Break stop
        → (bytes + more ≡ length (to_print which from s)) × (run_by (Break stop) r.cursor s ≡ to_run from s)
    paging_over stop over =
        let all = subst Sum over sum in
        (omega (arith, all), subst Runs over runs)
