-- The trace's lines as text (docs/TRACE.md): an event's line, the waiters newest first, the reader count and where it
-- sits.
-- Assumes nothing.
use Rattle.std.specs.Prelude.{ℕ, zero, suc, List, [], ◌++◌, eqb, get_or, Err, Ok, Option, Some, None, Result}
use Rattle.word.specs.Base.{pick}
use Rattle.word.specs.Number.{none, is_none}
use Rattle.word.specs.declared.number.ThreadNumber.{ThreadNumber}
use Rattle.word.specs.declared.number.NodeNumber.{NodeNumber}
use Rattle.state.specs.Answer.{refusal_number, Reply}
use Rattle.state.specs.Machine.{thread_limit}
use Rattle.state.specs.declared.answer.Refusal.{Refusal}
use Rattle.state.specs.declared.machine.Machine.{Machine}
use Rattle.listing.specs.Listing.{waiters_of}
use Rattle.listing.specs.ReaderCount.{readers_of}
use Rattle.listing.specs.declared.listing.Waiters.{Waiters}
use Rattle.listing.specs.declared.reader_count.Sits.{Sits}
use Rattle.listing.specs.declared.reader_count.Sits.TheVariants.{Nowhere, Word as InWord, Downgrade, Node as InNode}
use Rattle.listing.specs.declared.reader_count.Readers.{Readers}
use Rattle.schedule.specs.declared.cursor.Moved.{Moved}
use Rattle.schedule.specs.declared.cursor.Seen.{Seen}
use Rattle.print.specs.Text.{ascii, decimal}
use Rattle.print.specs.Replayed.{event_text, end_text, refused_text}

-- ── the waiters ──

abbrev pub node_text : NodeNumber → List ℕ
node_text n = pick (is_none n) [] (ascii " " ++ decimal n.0)

-- the first k of an array of nodes; past the waiters' length it has none
unfoldable pub nodes_text : ℕ → List NodeNumber → List ℕ
nodes_text zero ns = []
nodes_text (suc k) ns = nodes_text k ns ++ node_text (get_or ns k none)

abbrev pub refusal_text : Refusal → List ℕ
refusal_text refusal = ascii " refused " ++ decimal (refusal_number refusal)

abbrev pub listed_text : Waiters → List ℕ
listed_text w = pick (eqb w.length 0) (ascii " -") (nodes_text thread_limit w.nodes)

abbrev pub waiters_by : Result Waiters Refusal → List ℕ
waiters_by (Err refusal) = refusal_text refusal
waiters_by (Ok w) = listed_text w

abbrev pub waiters_text : Result Waiters Refusal → List ℕ
waiters_text waiters = ascii " | waiters" ++ waiters_by waiters

-- ── the readers ──

abbrev pub sits_text : Sits → List ℕ
sits_text Nowhere = []
sits_text InWord = ascii " in word"
sits_text Downgrade = ascii " in DOWNGRADED"
sits_text (InNode n) = ascii " in node " ++ decimal n.0

-- the raw number, where it is not the one that is due
abbrev pub raw_text : Readers → List ℕ
raw_text r = pick r.agrees [] (ascii ", wrong: " ++ decimal r.raw)

abbrev pub counted_text : Readers → List ℕ
counted_text r =
    pick (eqb r.readers 0) (ascii " -") (ascii " " ++ decimal r.readers ++ sits_text r.sits ++ raw_text r)

abbrev pub readers_by : Result Readers Refusal → List ℕ
readers_by (Err refusal) = refusal_text refusal
readers_by (Ok r) = counted_text r

abbrev pub readers_text : Result Readers Refusal → List ℕ
readers_text readers = ascii " | readers" ++ readers_by readers

-- ── the line ──

abbrev pub state_text : Machine → List ℕ
state_text m = waiters_text (waiters_of m) ++ readers_text (readers_of m)

abbrev pub replied_text : ℕ → ThreadNumber → Reply → Machine → List ℕ
replied_text at thread (Ok told) m = event_text at thread told.answer told.woken m.word ++ state_text m
replied_text at thread (Err refusal) m = refused_text (refusal_number refusal)

abbrev pub seen_text : ℕ → Option Seen → Machine → List ℕ
seen_text at None m = end_text at
seen_text at (Some seen) m = replied_text at seen.thread seen.reply m

-- the line of one step of a cursor that stood at event `at`
abbrev pub traced_text : ℕ → Moved → List ℕ
traced_text at moved = seen_text at moved.seen moved.cursor.machine
