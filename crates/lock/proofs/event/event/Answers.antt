-- `lock::event::event` meets its contract: an event is what it decides by what it looks at, stored.
-- Assumes nothing.
use Rattle.std.proofs.Common.{sym}
use Rattle.lock.specs.EventDecides.{event_decides}
use Rattle.lock.proofs.event.event.Goals as goal

pub returns : goal.returns
returns c =
    let s = c.args in
    simp (c.land.ensures, c.decide.ensures, c.look_at-look.ensures) (sym (event_decides s.m s.me s.code))
