-- Load completed: set, start again with reloads at 0; clear, park and load again.
-- Assumes nothing.
use Rattle.std.specs.Prelude.{Bool, false}
use Rattle.word.specs.Base.{pick}
use Rattle.state.specs.View.{at, stays, parks, Stepped}
use Rattle.state.specs.declared.place.Place.TheVariants.{ContendLoad, CompletedLoad, Park}
use Rattle.state.specs.declared.view.View.{View}

abbrev pub completed_load_of : View → Bool → Stepped
completed_load_of v writer =
    pick v.node.completed (stays v (at (ContendLoad writer 0))) (stays v (at (Park writer)))

-- park consumes the token; made to fail, it returns with its token kept
abbrev pub park_of : View → Bool → Stepped
park_of v writer =
    pick v.fails (parks v v.token (at (CompletedLoad writer))) (parks v false (at (CompletedLoad writer)))
