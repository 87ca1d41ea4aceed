-- Release: with QUEUE_LOCKED set, weak compare clearing LOCKED; else weak compare clearing LOCKED and setting
-- QUEUE_LOCKED, then unlock queue.
-- Assumes nothing.
use Rattle.word.specs.Base.{pick}
use Rattle.word.specs.Flags.{queue_locked, clear_locked, set_queue_locked}
use Rattle.word.specs.declared.flags.Word.{Word}
use Rattle.state.specs.Holding.{released_write}
use Rattle.state.specs.View.{at, end, walk_from, agrees_of, stays, writes, Stepped}
use Rattle.state.specs.declared.answer.Answer.TheVariants.{Done}
use Rattle.state.specs.declared.place.Who.TheVariants.{Leaver}
use Rattle.state.specs.declared.place.Walk.TheVariants.{Queue}
use Rattle.state.specs.declared.place.Place.TheVariants.{ReleaseCas}
use Rattle.state.specs.declared.view.View.{View}
use Rattle.state.specs.declared.view.Next.{Next}

abbrev pub released_to : Word → Word
released_to seen = pick (queue_locked seen) (clear_locked seen) (set_queue_locked (clear_locked seen))

abbrev pub after_release : Word → Word → Next
after_release seen to = pick (queue_locked seen) (end Done) (walk_from (Queue Leaver) to)

abbrev pub release_cas_of : View → Word → Stepped
release_cas_of v seen =
    pick (agrees_of v seen)
    (writes v (released_to seen) (released_write v.holding) (after_release seen (released_to seen)))
    (stays v (at (ReleaseCas v.word)))
