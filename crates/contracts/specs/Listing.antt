-- The contracts of crate listing: each public function's result is determined, and wrong answers that its contract
-- rules out. The waiter listing, then the reader count. Assumes nothing.
use Rattle.std.specs.Prelude.{ℕ, refl, [], ◌∷◌, get_or, Result, Ok, Err}
use Rattle.word.specs.Flags.{word}
use Rattle.word.specs.Number.{node, none}
use Rattle.word.specs.declared.number.NodeNumber.{NodeNumber}
use Rattle.state.specs.Node.{blank_node, with_next, with_tail}
use Rattle.state.specs.declared.answer.Refusal.{Refusal}
use Rattle.state.specs.declared.holding.Holding.TheVariants as Holds
use Rattle.state.specs.declared.machine.Machine.{Machine}
use Rattle.state.specs.declared.node.Node.{Node}
use Rattle.state.specs.declared.place.Place.TheVariants as At
use Rattle.listing.specs.Listing.{listed, padded, waiters_by, to_tail, to_set}
use Rattle.listing.specs.ReaderCount.{report_of, reads_below}
use Rattle.listing.specs.declared.listing.Waiters.{Waiters}
use Rattle.listing.specs.declared.reader_count.Readers.{Readers}
use Rattle.listing.specs.declared.reader_count.Sits.{Sits}
use Rattle.listing.specs.declared.reader_count.Sits.TheVariants as Sitting
use Rattle.listing.proofs.listing.from_head.Reads as from_head
use Rattle.listing.proofs.listing.listing.Reads as listing
use Rattle.listing.proofs.reader_count.reader_count.Reads as reader_count
use Rattle.contracts.specs.Allowed.{Determined, ◌&◌, Allows, apart_by, apart_in, clash, determined}
use Rattle.contracts.specs.Examples.{machine_of, thread_of}

-- a waiting node by its next and its tail
abbrev waits : ℕ → ℕ → Node
waits next tail = with_tail (with_next blank_node (word next)) (node tail)

-- thread 0 reads, and threads 1 and 2 wait: node 3 the newest, node 2 the oldest, with the count in it
abbrev queue : ℕ → Machine
queue w = machine_of 3 w (blank_node ∷ waits 16 2 ∷ waits 32 0 ∷ []) (thread_of At.Idle Holds.Read ∷ [])

-- two nodes in a ring, and the tail met is the node come from
abbrev ring : Machine
ring = machine_of 2 35 (waits 32 2 ∷ waits 16 0 ∷ []) []

abbrev listed_at : ℕ → Result Waiters Refusal → ℕ
listed_at k (Ok w) = (get_or w.nodes k none).0
listed_at k (Err r) = 0

abbrev how_many : Result Waiters Refusal → ℕ
how_many (Ok w) = w.length
how_many (Err r) = 0

-- ── the waiter listing ──

pub listing_determined : (m : Machine) → Determined (Allows listing.Post (m & tt))
listing_determined m = determined

pub listing_oldest_first : Allows listing.Post (queue 55 & tt) (waiters_by (listed (node 2 ∷ node 3 ∷ []))) → ⊥
unfolding to_set to_tail
listing_oldest_first = apart_by (listed_at 0) refl

pub listing_leaves_the_oldest_out : Allows listing.Post (queue 55 & tt) (waiters_by (listed (node 3 ∷ []))) → ⊥
unfolding to_set to_tail
listing_leaves_the_oldest_out = apart_by how_many refl

pub listing_visits_one_too_many :
    Allows listing.Post (ring & tt) (waiters_by (listed (node 2 ∷ node 1 ∷ node 2 ∷ []))) → ⊥
unfolding to_set to_tail
listing_visits_one_too_many = apart_by how_many refl

pub listing_of_an_unqueued_word : Allows listing.Post (queue 17 & tt) (waiters_by (listed (node 1 ∷ []))) → ⊥
unfolding to_set to_tail
listing_of_an_unqueued_word = apart_by how_many refl

-- two waiters, and a third node behind them
pub listing_keeps_a_node_past_its_length :
    Allows listing.Post (queue 55 & tt) (Ok (record { nodes = padded (node 3 ∷ node 2 ∷ node 1 ∷ []); length = 2 })) → ⊥
unfolding to_set to_tail
listing_keeps_a_node_past_its_length = apart_by (listed_at 2) refl

pub from_head_determined : (m : Machine) (head : NodeNumber) → Determined (Allows from_head.Post (m & head & tt))
from_head_determined m head = determined

pub from_head_starts_at_the_word :
    Allows from_head.Post (queue 55 & node 2 & tt) (waiters_by (listed (node 3 ∷ node 2 ∷ []))) → ⊥
unfolding to_set to_tail
from_head_starts_at_the_word = apart_by how_many refl

pub from_head_of_none_is_empty : Allows from_head.Post (queue 55 & none & tt) (waiters_by (listed [])) → ⊥
unfolding to_set to_tail
from_head_of_none_is_empty e = clash (cc)

-- ── the reader count ──

abbrev sits_in : Result Readers Refusal → Sits
sits_in (Ok r) = r.sits
sits_in (Err r) = Sitting.Nowhere

abbrev sit_number : Sits → ℕ
sit_number Sitting.Nowhere = 0
sit_number Sitting.Word = 0
sit_number Sitting.Downgrade = 0
sit_number (Sitting.Node n) = n.0

pub reader_count_determined : (m : Machine) → Determined (Allows reader_count.Post (m & tt))
reader_count_determined m = determined

pub reader_count_in_the_newest :
    Allows reader_count.Post (queue 55 & tt) (Ok (report_of 1 (Sitting.Node (node 3)) 32 16)) → ⊥
unfolding to_set to_tail reads_below
reader_count_in_the_newest = apart_by (λ r. sit_number (sits_in r)) refl

pub reader_count_in_the_word_while_queued :
    Allows reader_count.Post (queue 55 & tt) (Ok (report_of 1 Sitting.Word 55 17)) → ⊥
unfolding to_set to_tail reads_below
reader_count_in_the_word_while_queued = apart_in sits_in (λ e. clash (cc))

pub reader_count_of_nobody :
    Allows reader_count.Post (machine_of 1 0 [] [] & tt) (Ok (report_of 0 Sitting.Word 0 1)) → ⊥
unfolding reads_below
reader_count_of_nobody = apart_in sits_in (λ e. clash (cc))

pub reader_count_of_a_downgrade_in_a_node :
    Allows reader_count.Post (queue 63 & tt) (Ok (report_of 1 (Sitting.Node (node 2)) 16 16)) → ⊥
unfolding to_set to_tail reads_below
reader_count_of_a_downgrade_in_a_node = apart_in sits_in (λ e. clash (cc))
