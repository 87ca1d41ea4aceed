-- downgrade: strong compare 1 to 17. Else with QUEUE_LOCKED set, weak compare setting DOWNGRADED; otherwise weak
-- compare to 17, then find tail and complete all of the old queue.
-- Assumes nothing.
use Rattle.std.specs.Prelude.{◌+◌, eqb}
use Rattle.word.specs.Base.{pick}
use Rattle.word.specs.Flags.{word, LOCKED, SINGLE, queue_locked, set_downgraded}
use Rattle.word.specs.declared.flags.Word.{Word}
use Rattle.state.specs.Holding.{downgraded_to}
use Rattle.state.specs.View.{at, end, walk_from, agrees_of, stays, writes, Stepped}
use Rattle.state.specs.declared.answer.Answer.TheVariants.{Done}
use Rattle.state.specs.declared.place.Walk.TheVariants.{Downgrade}
use Rattle.state.specs.declared.place.Place.TheVariants.{DowngradeSlowCas}
use Rattle.state.specs.declared.view.View.{View}
use Rattle.state.specs.declared.view.Next.{Next}

abbrev pub downgrade_cas_of : View → Stepped
downgrade_cas_of v =
    pick (eqb v.word.0 LOCKED)
    (writes v (word (SINGLE + LOCKED)) (downgraded_to v.holding) (end Done))
    (stays v (at (DowngradeSlowCas v.word)))

abbrev pub downgraded_word : Word → Word
downgraded_word seen = pick (queue_locked seen) (set_downgraded seen) (word (SINGLE + LOCKED))

abbrev pub after_downgrade : Word → Next
after_downgrade seen = pick (queue_locked seen) (end Done) (walk_from Downgrade seen)

abbrev pub downgrade_slow_cas_of : View → Word → Stepped
downgrade_slow_cas_of v seen =
    pick (agrees_of v seen)
    (writes v (downgraded_word seen) (downgraded_to v.holding) (after_downgrade seen))
    (stays v (at (DowngradeSlowCas v.word)))
