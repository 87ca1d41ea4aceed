-- The traced reader count of a machine: how many threads hold read, where document 01 has their number, the number that
-- is there, and whether it is the one that is due.
-- Assumes nothing.
use Rattle.std.specs.Prelude.{ℕ, zero, suc, ◌+◌, ◌-◌, ◌*◌, List, eqb, length, get_or, Result, Ok, Err}
use Rattle.word.specs.Base.{pick}
use Rattle.word.specs.Number.{none}
use Rattle.word.specs.Flags.{LOCKED, SINGLE, queued, downgraded}
use Rattle.word.specs.declared.number.NodeNumber.{NodeNumber}
use Rattle.state.specs.Holding.{reads_of}
use Rattle.state.specs.Machine.{good_count, thread_at}
use Rattle.state.specs.declared.answer.Refusal.{Refusal}
use Rattle.state.specs.declared.answer.Refusal.TheVariants.{Damaged}
use Rattle.state.specs.declared.machine.Machine.{Machine}
use Rattle.listing.specs.Listing.{Listed, lost, listed, node_by, listed_of}
use Rattle.listing.specs.declared.reader_count.Sits.{Sits}
use Rattle.listing.specs.declared.reader_count.Sits.TheVariants.{Nowhere, Word as InWord}
use Rattle.listing.specs.declared.reader_count.Sits.TheVariants.{Downgrade, Node as InNode}
use Rattle.listing.specs.declared.reader_count.Readers.{Readers}

-- how many of the threads below n hold read
unfoldable pub reads_below : ℕ → Machine → ℕ
reads_below zero m = 0
reads_below (suc n) m = reads_below n m + reads_of (thread_at m n).holding

-- the raw number at each place where it may sit; a pending downgrade stands for one reader
abbrev pub raw_at : Machine → Sits → ℕ
raw_at m Nowhere = 0
raw_at m InWord = m.word.0
raw_at m Downgrade = 1
raw_at m (InNode n) = (node_by m n).next.0

-- what r readers are there: unqueued, the word is 16r + 1; queued with DOWNGRADED, r is 1;
-- else the oldest waiter's next is 16r
abbrev pub due_at : ℕ → Sits → ℕ
due_at r Nowhere = 0
due_at r InWord = SINGLE * r + LOCKED
due_at r Downgrade = r
due_at r (InNode n) = SINGLE * r

abbrev pub report_of : ℕ → Sits → ℕ → ℕ → Readers
report_of r sits raw due = record { readers = r; sits = sits; raw = raw; agrees = eqb raw due }

abbrev pub traced_of : Machine → ℕ → Sits → Readers
traced_of m r sits = report_of r sits (raw_at m sits) (due_at r sits)

abbrev pub refused_of : Result Readers Refusal
refused_of = Err Damaged

-- the last of the listing
abbrev pub oldest : List NodeNumber → NodeNumber
oldest ns = get_or ns (length ns - 1) none

-- 8 where the listing is
abbrev pub in_oldest_by : Machine → ℕ → Listed → Result Readers Refusal
in_oldest_by m r lost = refused_of
in_oldest_by m r (listed ns) = Ok (traced_of m r (InNode (oldest ns)))

abbrev pub in_oldest_of : Machine → ℕ → Result Readers Refusal
in_oldest_of m r = in_oldest_by m r (listed_of m)

-- nowhere where nobody reads, whatever a next holds; else where document 01 has the number
abbrev pub held_of : Machine → ℕ → Result Readers Refusal
held_of m r =
    pick (eqb r 0)
    (Ok (traced_of m 0 Nowhere))
    (pick (queued m.word)
    (pick (downgraded m.word) (Ok (traced_of m r Downgrade)) (in_oldest_of m r))
    (Ok (traced_of m r InWord)))

-- the thread count is tested first
abbrev pub readers_of : Machine → Result Readers Refusal
readers_of m = pick (good_count m.count) (held_of m (reads_below m.count m)) refused_of
