-- The trace's line of a thread as text (docs/TRACE.md). Assumes nothing.
use Rattle.std.specs.Prelude.{ℕ, zero, suc, Bool, List, [], ◌++◌}
use Rattle.word.specs.Base.{pick}
use Rattle.word.specs.Number.{thread}
use Rattle.word.specs.declared.number.ThreadNumber.{ThreadNumber}
use Rattle.state.specs.declared.holding.Holding.{Holding}
use Rattle.state.specs.declared.holding.Holding.TheVariants.{Nothing, Read, Write}
use Rattle.state.specs.declared.machine.Machine.{Machine}
use Rattle.state.specs.declared.machine.Thread.{Thread}
use Rattle.standing.specs.Look.{record_of}
use Rattle.standing.specs.Stands.{standing_of}
use Rattle.standing.specs.Rouses.{rouses_of}
use Rattle.standing.specs.declared.stands.Standing.{Standing}
use Rattle.standing.specs.declared.stands.Standing.TheVariants.{NotWaiting, Completed, InQueue, SetAside, InList}
use Rattle.standing.specs.declared.stands.Standing.TheVariants.{Nowhere}
use Rattle.print.specs.Text.{ascii, decimal}
use Rattle.traced.specs.Place.{place_text}

abbrev pub holding_text : Holding → List ℕ
holding_text Nothing = ascii ", holds nothing"
holding_text Read = ascii ", holds read"
holding_text Write = ascii ", holds write"

abbrev pub token_text : Bool → List ℕ
token_text token = pick token (ascii ", token") (ascii ", no token")

abbrev pub rouser_text : Machine → ℕ → List ℕ
rouser_text m k = pick (rouses_of m (thread k)) (ascii " " ++ decimal k) []

-- those of the first k threads whose steps have to come before the queue's waiters are woken
unfoldable pub rousers_text : ℕ → Machine → List ℕ
rousers_text zero m = []
rousers_text (suc k) m = rousers_text k m ++ rouser_text m k

abbrev pub standing_text : Machine → Standing → List ℕ
standing_text m NotWaiting = []
standing_text m Completed = ascii ", completed"
standing_text m InQueue = ascii ", in the queue, waits for" ++ rousers_text m.count m
standing_text m (SetAside by) = ascii ", set aside by " ++ decimal by.0
standing_text m (InList by) = ascii ", in the list of " ++ decimal by.0
standing_text m Nowhere = ascii ", in no list"

abbrev pub record_text : ThreadNumber → Thread → List ℕ
record_text t r =
    ascii "thread " ++ decimal t.0 ++ ascii " " ++ place_text r.place
    ++ holding_text r.holding ++ token_text r.token

abbrev pub thread_text : Machine → ThreadNumber → List ℕ
thread_text m t = record_text t (record_of m t.0) ++ standing_text m (standing_of m t)
