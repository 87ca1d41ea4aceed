-- `schedule::cursor::next` meets its contract: by the laws of a move past an event that was accepted, or refused.
-- Assumes nothing.
use Rattle.std.proofs.Common.{[], ◌/◌, ◌<◌, ap, ◌∙◌, arith, get_or, length}
use Rattle.schedule.specs.File.{event_width}
use Rattle.schedule.specs.CursorLaws.{read_accepted, read_refused}
use Rattle.schedule.proofs.cursor.next.Goals as goal

pub returns-in-Ok : goal.returns-in-Ok
returns-in-Ok c =
    let at = c.args.c.at in
    let found = c.in-Some.ensures.lookup.3 in
    let h : at < length c.args.s.now / event_width = omega (arith, found.0) in
    let p = found.1 [] ∙ ap (λ b. get_or b at []) c.as_chunks.ensures.front in
    read_accepted c.args.c c.args.s.now h p c.event-o.ensures _ _ c.in-Ok.is

pub returns-in-Err : goal.returns-in-Err
returns-in-Err c =
    let at = c.args.c.at in
    let found = c.in-Some.ensures.lookup.3 in
    let h : at < length c.args.s.now / event_width = omega (arith, found.0) in
    let p = found.1 [] ∙ ap (λ b. get_or b at []) c.as_chunks.ensures.front in
    read_refused c.args.c c.args.s.now h p c.event-o.ensures _ c.in-Err.is
