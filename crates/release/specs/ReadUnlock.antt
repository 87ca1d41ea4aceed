-- read_unlock: by the word, or find tail and subtract 16 from its next; a result of 0 goes on to release.
-- Assumes nothing.
use Rattle.std.specs.Prelude.{ℕ, ◌-◌, ltb, eqb, Err}
use Rattle.word.specs.Base.{pick}
use Rattle.word.specs.Flags.{word, SINGLE}
use Rattle.word.specs.Rules.{read_unlock_of}
use Rattle.word.specs.declared.flags.Word.{Word}
use Rattle.word.specs.declared.number.NodeNumber.{NodeNumber}
use Rattle.word.specs.declared.rules.ReadUnlocked.{ReadUnlocked}
use Rattle.word.specs.declared.rules.ReadUnlocked.TheVariants.{To, Contended, Refused}
use Rattle.state.specs.Holding.{released_read}
use Rattle.state.specs.Node.{with_next}
use Rattle.state.specs.View.{at, end, walk_from, agrees_of, stays, writes, subtracts, Stepped}
use Rattle.state.specs.declared.answer.Answer.TheVariants.{Done}
use Rattle.state.specs.declared.answer.Refusal.TheVariants.{Damaged}
use Rattle.state.specs.declared.place.Walk.TheVariants.{ReadUnlock}
use Rattle.state.specs.declared.place.Place.TheVariants.{ReadUnlockCas, ReleaseCas}
use Rattle.state.specs.declared.view.View.{View}
use Rattle.state.specs.declared.view.Next.{Next}

abbrev pub read_unlock_by : View → Word → ReadUnlocked → Stepped
read_unlock_by v seen (To to) = stays v (at (ReadUnlockCas seen))
read_unlock_by v seen Contended = stays v (walk_from ReadUnlock seen)
read_unlock_by v seen Refused = Err Damaged

-- by the word last loaded or reported
abbrev pub read_unlock_judged : View → Word → Stepped
read_unlock_judged v seen = read_unlock_by v seen (read_unlock_of seen)

-- load
abbrev pub read_unlock_load_of : View → Stepped
read_unlock_load_of v = read_unlock_judged v v.word

abbrev pub read_unlock_cas_by : View → ReadUnlocked → Stepped
read_unlock_cas_by v (To to) = writes v to (released_read v.holding) (end Done)
read_unlock_cas_by v Contended = read_unlock_judged v v.word
read_unlock_cas_by v Refused = read_unlock_judged v v.word

-- weak compare
abbrev pub read_unlock_cas_of : View → Word → Stepped
read_unlock_cas_of v seen =
    pick (agrees_of v seen) (read_unlock_cas_by v (read_unlock_of seen)) (read_unlock_judged v v.word)

-- a result of 0 goes on to release, by the word that read_unlock last loaded or was reported
abbrev pub after_subtract : Word → ℕ → Next
after_subtract seen left = pick (eqb left 0) (at (ReleaseCas seen)) (end Done)

-- subtract 16 from the tail's next; 8 from a next below 16
abbrev pub subtract_of : View → Word → NodeNumber → Stepped
subtract_of v seen tail =
    pick (ltb v.node.next.0 SINGLE)
    (Err Damaged)
    (subtracts v
    (with_next v.node (word (v.node.next.0 - SINGLE)))
    (released_read v.holding)
    (after_subtract seen (v.node.next.0 - SINGLE)))
