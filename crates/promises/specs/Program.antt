-- A program is what makes an outcome of a machine, a code and a thread, as `event_of` does. The statements of this
-- crate are over any program, so that a wrong one is a definition like any other; the theorems are their instances at
-- `event_of`.
-- Here: the program, where a thread stands, the access that it makes there. Not here: the statements (Statements.antt).
-- Assumes nothing.
use Rattle.std.specs.Prelude.{ℕ}
use Rattle.word.specs.declared.number.ThreadNumber.{ThreadNumber}
use Rattle.state.specs.Access.{access_of}
use Rattle.state.specs.Machine.{thread_at}
use Rattle.state.specs.declared.access.Access.{Access}
use Rattle.state.specs.declared.machine.Machine.{Machine}
use Rattle.state.specs.declared.machine.Outcome.{Outcome}
use Rattle.state.specs.declared.place.Place.{Place}

abbrev pub Program : Type 0
Program = Machine → ℕ → ThreadNumber → Outcome

-- where thread t stands
abbrev pub place_of : Machine → ThreadNumber → Place
place_of m t = (thread_at m t.0).place

-- the access that it makes there
abbrev pub access_at : Machine → ThreadNumber → Access
access_at m t = access_of t (place_of m t)
