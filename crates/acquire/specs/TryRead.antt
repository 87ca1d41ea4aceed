-- try_read: load, then weak compare to read_lock; a refusal by read_lock ends it with no.
-- read makes that attempt first, then contends.
-- Assumes nothing.
use Rattle.std.specs.Prelude.{Bool, false, Option, Some, None}
use Rattle.word.specs.Base.{pick}
use Rattle.word.specs.Rules.{read_lock_of}
use Rattle.word.specs.declared.flags.Word.{Word}
use Rattle.state.specs.Holding.{granted_read}
use Rattle.state.specs.View.{at, end, granted, agrees_of, stays, writes, Stepped}
use Rattle.state.specs.declared.answer.Answer.TheVariants.{No}
use Rattle.state.specs.declared.place.Place.TheVariants.{TryReadCas, ContendLoad}
use Rattle.state.specs.declared.view.View.{View}
use Rattle.state.specs.declared.view.Next.{Next}

-- read contends; try_read ends with no
abbrev pub try_read_refused : Bool → Next
try_read_refused blocking = pick blocking (at (ContendLoad false 0)) (end No)

abbrev pub try_read_by : View → Bool → Word → Option Word → Stepped
try_read_by v blocking seen (Some to) = stays v (at (TryReadCas blocking seen))
try_read_by v blocking seen None = stays v (try_read_refused blocking)

-- by the word last loaded or reported
abbrev pub try_read_judged : View → Bool → Word → Stepped
try_read_judged v blocking seen = try_read_by v blocking seen (read_lock_of seen)

-- load
abbrev pub try_read_load_of : View → Bool → Stepped
try_read_load_of v blocking = try_read_judged v blocking v.word

abbrev pub try_read_cas_by : View → Bool → Option Word → Stepped
try_read_cas_by v blocking (Some to) = writes v to (granted_read v.holding) (granted blocking)
try_read_cas_by v blocking None = try_read_judged v blocking v.word

-- weak compare to read_lock; a failed one is judged again on the word it reports
abbrev pub try_read_cas_of : View → Bool → Word → Stepped
try_read_cas_of v blocking seen =
    pick (agrees_of v seen) (try_read_cas_by v blocking (read_lock_of seen)) (try_read_judged v blocking v.word)
