-- write_unlock: strong compare 1 to 0, else release.
-- Assumes nothing.
use Rattle.std.specs.Prelude.{eqb}
use Rattle.word.specs.Base.{pick}
use Rattle.word.specs.Flags.{word, LOCKED}
use Rattle.state.specs.Holding.{released_write}
use Rattle.state.specs.View.{at, end, stays, writes, Stepped}
use Rattle.state.specs.declared.answer.Answer.TheVariants.{Done}
use Rattle.state.specs.declared.place.Place.TheVariants.{ReleaseCas}
use Rattle.state.specs.declared.view.View.{View}

abbrev pub write_unlock_cas_of : View → Stepped
write_unlock_cas_of v =
    pick (eqb v.word.0 LOCKED)
    (writes v (word 0) (released_write v.holding) (end Done))
    (stays v (at (ReleaseCas v.word)))
