-- Contend: load; if the lock rule permits, weak compare; else reload or fill the node, and register it.
-- Assumes nothing.
use Rattle.std.specs.Prelude.{ℕ, ◌+◌, Bool, ltb, Option, Some, None}
use Rattle.word.specs.Base.{pick}
use Rattle.word.specs.Flags.{queued, queue_locked}
use Rattle.word.specs.Rules.{read_lock_of, write_lock_of, registered_of}
use Rattle.word.specs.declared.flags.Word.{Word}
use Rattle.state.specs.Holding.{granted_read, granted_write}
use Rattle.state.specs.Node.{filled_of}
use Rattle.state.specs.View.{at, end, walk_from, agrees_of, stays, writes, links, Stepped}
use Rattle.state.specs.declared.answer.Answer.TheVariants.{Done}
use Rattle.state.specs.declared.holding.Holding.{Holding}
use Rattle.state.specs.declared.place.Who.TheVariants.{Waiter}
use Rattle.state.specs.declared.place.Walk.TheVariants.{Queue}
use Rattle.state.specs.declared.place.Place.TheVariants.{ContendLoad, ContendCas, RegisterCas, CompletedLoad}
use Rattle.state.specs.declared.view.View.{View}
use Rattle.state.specs.declared.view.Next.{Next}

-- reloads before a thread queues
abbrev pub spin_count : ℕ
spin_count = 7

-- what each rule answers, as it is
abbrev pub by_read : Option Word → Option Word
by_read r = r

abbrev pub by_write : Option Word → Option Word
by_write r = r

-- the lock rule, by the call
abbrev pub permitted_of : Bool → Word → Option Word
permitted_of writer seen = pick writer (by_write (write_lock_of seen)) (by_read (read_lock_of seen))

abbrev pub granted_of : Bool → Holding → Holding
granted_of writer h = pick writer (granted_write h) (granted_read h)

-- fill the node
abbrev pub fill_of : View → Bool → ℕ → Word → Stepped
fill_of v writer reloads seen = links v (filled_of v.me writer seen) (at (RegisterCas writer reloads seen))

-- QUEUED clear and fewer than 7 reloads so far: reload. Else fill the node
abbrev pub reload_or_fill : View → Bool → ℕ → Word → Stepped
reload_or_fill v writer reloads seen =
    pick (queued seen)
    (fill_of v writer reloads seen)
    (pick (ltb reloads spin_count) (stays v (at (ContendLoad writer (reloads + 1)))) (fill_of v writer reloads seen))

abbrev pub contend_by : View → Bool → ℕ → Word → Option Word → Stepped
contend_by v writer reloads seen (Some to) = stays v (at (ContendCas writer reloads seen))
contend_by v writer reloads seen None = reload_or_fill v writer reloads seen

-- by the word last loaded or reported: if the lock rule permits, weak compare
abbrev pub contend_judged : View → Bool → ℕ → Word → Stepped
contend_judged v writer reloads seen = contend_by v writer reloads seen (permitted_of writer seen)

-- load
abbrev pub contend_load_of : View → Bool → ℕ → Stepped
contend_load_of v writer reloads = contend_judged v writer reloads v.word

abbrev pub contend_cas_by : View → Bool → ℕ → Option Word → Stepped
contend_cas_by v writer reloads (Some to) = writes v to (granted_of writer v.holding) (end Done)
contend_cas_by v writer reloads None = contend_judged v writer reloads v.word

-- weak compare by the lock rule
abbrev pub contend_cas_of : View → Bool → ℕ → Word → Stepped
contend_cas_of v writer reloads seen =
    pick (agrees_of v seen)
    (contend_cas_by v writer reloads (permitted_of writer seen))
    (contend_judged v writer reloads v.word)

-- whoever turned QUEUE_LOCKED on runs unlock queue; then load completed
abbrev pub after_register : Bool → Word → Word → Next
after_register writer seen to =
    pick (queued seen)
    (pick (queue_locked seen) (at (CompletedLoad writer)) (walk_from (Queue (Waiter writer)) to))
    (at (CompletedLoad writer))

-- weak compare registers the node
abbrev pub register_cas_of : View → Bool → ℕ → Word → Stepped
register_cas_of v writer reloads seen =
    pick (agrees_of v seen)
    (writes v (registered_of seen v.me) v.holding (after_register writer seen (registered_of seen v.me)))
    (contend_judged v writer reloads v.word)
