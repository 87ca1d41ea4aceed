-- `schedule::replay::replay` meets its contract: by the laws of a refused event, an accepted one, and of none left.
-- Assumes nothing.
use Rattle.std.proofs.Common.{sym, ◌∙◌, arith, [], Ok, ◌/◌, ◌<◌, ◌≡◌, ap, get_or, length}
use Rattle.schedule.specs.File.{event_width}
use Rattle.schedule.specs.Replay.{stopped_of}
use Rattle.schedule.specs.ReplayLaws.{ended_here, refused_here, accepted_here, chunk_read}
use Rattle.schedule.proofs.replay.replay.Goals as goal

pub returns-in-Err : goal.returns-in-Err
returns-in-Err c =
    let l = c.loop-run in
    let s = c.args.s.now in
    let h : l.run < length s / event_width = omega arith in
    let e = chunk_read s l.run h (ap (λ b. get_or b l.run []) c.as_chunks.ensures.front) l.machine c.event-o.ensures in
    sym (refused_here l.machine s l.run _ h e c.in-Err.refusal c.in-Err.is) ∙ l.invariant

pub loop-run-preserved : goal.loop-run-preserved
loop-run-preserved c =
    let l = c.loop-run in
    let s = c.args.s.now in
    let h : l.run < length s / event_width = omega arith in
    let e = chunk_read s l.run h (ap (λ b. get_or b l.run []) c.as_chunks.ensures.front) l.machine c.event-o.ensures in
    let t = c.in_default in
    sym (accepted_here l.machine s l.run _ h e t.field-0.answer t.field-0.woken t.is) ∙ l.invariant

pub returns : goal.returns
returns c =
    let l = c.loop-run in
    let s = c.args.s.now in
    let e : length c.as_chunks.result.0.now ≡ l.run = omega arith in
    ap (λ n. stopped_of l.machine n (Ok tt)) e ∙ (sym (ended_here l.machine s l.run (omega arith)) ∙ l.invariant)
