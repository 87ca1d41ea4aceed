-- try_write: one fetch-or of LOCKED. write makes that attempt first, then contends.
-- Assumes nothing.
use Rattle.std.specs.Prelude.{Bool, true}
use Rattle.word.specs.Base.{pick}
use Rattle.word.specs.Flags.{locked, set_locked}
use Rattle.state.specs.Holding.{granted_write}
use Rattle.state.specs.View.{at, end, granted, stays, writes, Stepped}
use Rattle.state.specs.declared.answer.Answer.TheVariants.{No}
use Rattle.state.specs.declared.place.Place.TheVariants.{ContendLoad}
use Rattle.state.specs.declared.view.View.{View}
use Rattle.state.specs.declared.view.Next.{Next}

-- write contends; try_write ends with no
abbrev pub try_write_refused : Bool → Next
try_write_refused blocking = pick blocking (at (ContendLoad true 0)) (end No)

-- LOCKED was set: refused, and the word is as it was; else it is set, and the lock granted
abbrev pub try_write_or_of : View → Bool → Stepped
try_write_or_of v blocking =
    pick (locked v.word)
    (stays v (try_write_refused blocking))
    (writes v (set_locked v.word) (granted_write v.holding) (granted blocking))
