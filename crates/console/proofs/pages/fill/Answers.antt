-- `console::pages::fill` meets its contract: what is laid, and then what is left, stays what was to be printed.
-- Assumes nothing.
use Rattle.std.proofs.Common.{◌≡◌, ap, sym, ◌∙◌, arith, length}
use Rattle.console.specs.Output.{has_room}
use Rattle.console.specs.Filling.{fills_up, goes_on_lem, is_over}
use Rattle.console.proofs.pages.fill.Goals as goal

pub returns-then-is_break : goal.returns-then-is_break
returns-then-is_break c =
    let l = c.loop-which in
    let e : length l.page ≡ 65536 = omega arith in
    let room = ap (λ n. has_room n l.at) e ∙ sym c.has_room.ensures ∙ c.loop-which-test.true in
    let laid = c.lay_line-at.ensures in
    is_over c.loop-which.invariant room c.next-moved.ensures c.of_move.ensures laid.value laid.page_after
    c.going_of-going.ensures
    (sym c.is_break.ensures ∙ c.if-is_break.true)

pub loop-which-smaller : goal.loop-which-smaller
loop-which-smaller c =
    let l = c.loop-which in
    let e : length l.page ≡ 65536 = omega arith in
    let room = ap (λ n. has_room n l.at) e ∙ sym c.has_room.ensures ∙ c.loop-which-test.true in
    let laid = c.lay_line-at.ensures in
    fills_up c.loop-which.invariant room c.next-moved.ensures c.of_move.ensures laid.value laid.page_after

pub loop-which-preserved : goal.loop-which-preserved
loop-which-preserved c =
    let l = c.loop-which in
    let e : length l.page ≡ 65536 = omega arith in
    let room = ap (λ n. has_room n l.at) e ∙ sym c.has_room.ensures ∙ c.loop-which-test.true in
    let laid = c.lay_line-at.ensures in
    goes_on_lem c.loop-which.invariant room c.next-moved.ensures c.of_move.ensures laid.value laid.page_after
    c.going_of-going.ensures
    (sym c.is_break.ensures ∙ c.if-is_break.false)
