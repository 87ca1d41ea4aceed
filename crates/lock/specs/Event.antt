-- One event, with the refusals in document 01's order: 8 for the count, 1, 2, then those of a begin or of a step.
-- Assumes nothing.
use Rattle.std.specs.Prelude.{ℕ, Bool, true, false, leb, Option, Some, None}
use Rattle.word.specs.Base.{pick}
use Rattle.word.specs.declared.number.ThreadNumber.{ThreadNumber}
use Rattle.state.specs.Machine.{good_count, refused_of}
use Rattle.state.specs.declared.answer.Refusal.TheVariants.{UnknownCode, NoThread, Damaged}
use Rattle.state.specs.declared.machine.Machine.{Machine}
use Rattle.state.specs.declared.machine.Outcome.{Outcome}
use Rattle.lock.specs.declared.code.Call.{Call}
use Rattle.lock.specs.declared.code.Code.{Code}
use Rattle.lock.specs.declared.code.Code.TheVariants.{Begin, Step, Fail}
use Rattle.lock.specs.Code.{code_of}
use Rattle.lock.specs.Begin.{begin_of}
use Rattle.lock.specs.Step.{step_of}

-- 2: thread not below the machine's count
abbrev pub called_of : Machine → ThreadNumber → Call → Outcome
called_of m me call = pick (leb m.count me.0) (refused_of m NoThread) (begin_of m me.0 call)

abbrev pub stepped_of : Machine → ThreadNumber → Bool → Outcome
stepped_of m me fails = pick (leb m.count me.0) (refused_of m NoThread) (step_of m me fails)

-- 1: code unknown
abbrev pub event_by : Machine → Option Code → ThreadNumber → Outcome
event_by m None me = refused_of m UnknownCode
event_by m (Some (Begin call)) me = called_of m me call
event_by m (Some Step) me = stepped_of m me false
event_by m (Some Fail) me = stepped_of m me true

-- 8: thread count outside 1..thread_limit
unfoldable pub event_of : Machine → ℕ → ThreadNumber → Outcome
event_of m code me = pick (good_count m.count) (event_by m (code_of code) me) (refused_of m Damaged)
