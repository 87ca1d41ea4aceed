-- What a thread holds, as two numbers, and what a grant, a release and a downgrade make of it.
-- Assumes nothing.
use Rattle.std.specs.Prelude.{ℕ}
use Rattle.state.specs.declared.holding.Holding.{Holding}
use Rattle.state.specs.declared.holding.Holding.TheVariants.{Nothing, Read, Write}

abbrev pub reads_of : Holding → ℕ
reads_of Nothing = 0
reads_of Read = 1
reads_of Write = 0

abbrev pub writes_of : Holding → ℕ
writes_of Nothing = 0
writes_of Read = 0
writes_of Write = 1

abbrev pub granted_read : Holding → Holding
granted_read h = Read

abbrev pub granted_write : Holding → Holding
granted_write h = Write

abbrev pub released_read : Holding → Holding
released_read h = Nothing

abbrev pub released_write : Holding → Holding
released_write h = Nothing

abbrev pub downgraded_to : Holding → Holding
downgraded_to h = Read
