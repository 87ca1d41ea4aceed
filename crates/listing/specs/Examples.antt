-- Listings and reader counts of written machines: document 01's, and damaged ones, on both sides of an edge.
-- Assumes nothing.
use Rattle.std.specs.Prelude.{ℕ, ◌+◌, Bool, true, false, [], ◌∷◌, ◌≡◌, refl, Result, Ok}
use Rattle.word.specs.Number.{node, none}
use Rattle.word.specs.Flags.{word, DOWNGRADED}
use Rattle.state.specs.Machine.{thread_limit}
use Rattle.state.specs.declared.answer.Refusal.{Refusal}
use Rattle.state.specs.declared.holding.Holding.{Holding}
use Rattle.state.specs.declared.holding.Holding.TheVariants.{Nothing, Read, Write}
use Rattle.state.specs.declared.machine.Machine.{Machine}
use Rattle.state.specs.declared.machine.Thread.{Thread}
use Rattle.state.specs.declared.node.Node.{Node}
use Rattle.state.specs.declared.place.Place.TheVariants.{Idle}
use Rattle.listing.specs.Listing.{lost, listed, to_tail, to_set, listed_of}
use Rattle.listing.specs.ReaderCount.{reads_below, refused_of, readers_of}
use Rattle.listing.specs.declared.reader_count.Sits.{Sits}
use Rattle.listing.specs.declared.reader_count.Sits.TheVariants.{Nowhere, Word as InWord}
use Rattle.listing.specs.declared.reader_count.Sits.TheVariants.{Downgrade, Node as InNode}
use Rattle.listing.specs.declared.reader_count.Readers.{Readers}

-- a node by its next and its tail
abbrev waits : ℕ → ℕ → Node
waits next tail = record { next = word next; prev = none; tail = node tail; writer = true; completed = false }

abbrev holds : Holding → Thread
holds h = record { place = Idle; token = false; holding = h }

-- three nodes, and what three threads hold
abbrev machine : ℕ → ℕ → Node → Node → Node → Holding → Holding → Holding → Machine
machine count w n₁ n₂ n₃ h₀ h₁ h₂ =
    record {
      count = count;
      word = word w;
      nodes = n₁ ∷ n₂ ∷ n₃ ∷ [];
      threads = holds h₀ ∷ holds h₁ ∷ holds h₂ ∷ [];
    }

-- thread 0 writes, and threads 1 and 2 wait: nodes 3, 2, before the walk and after it
abbrev queue : ℕ → ℕ → Machine
queue w tail = machine 3 w (waits 0 0) (waits 0 2) (waits 32 tail) Write Nothing Nothing

pub unwalked : listed_of (queue 55 0) ≡ listed (node 3 ∷ node 2 ∷ [])
unfolding to_tail to_set
unwalked = refl

pub walked : listed_of (queue 51 2) ≡ listed (node 3 ∷ node 2 ∷ [])
unfolding to_tail to_set
walked = refl

-- the oldest waiter is set aside
pub set_aside : listed_of (queue 51 3) ≡ listed (node 3 ∷ [])
unfolding to_tail to_set
set_aside = refl

-- as many visits as the count, and one more
abbrev chain : ℕ → ℕ → Machine
chain count tail = machine count 51 (waits 48 tail) (waits 16 0) (waits 32 0) Read Nothing Nothing

pub every_node : listed_of (chain 3 1) ≡ listed (node 3 ∷ node 2 ∷ node 1 ∷ [])
unfolding to_tail to_set
every_node = refl

pub ring : listed_of (chain 3 0) ≡ lost
unfolding to_tail to_set
ring = refl

pub out_of_range : listed_of (chain 2 1) ≡ lost
unfolding to_tail to_set
out_of_range = refl

-- the thread count is tested first
abbrev unqueued : ℕ → ℕ → Machine
unqueued count w = machine count w (waits 0 0) (waits 0 0) (waits 0 0) Read Read Nothing

pub no_queue : listed_of (unqueued 3 0) ≡ listed []
no_queue = refl

pub no_threads : listed_of (unqueued 0 0) ≡ lost
no_threads = refl

pub threads_past_the_limit : listed_of (unqueued (thread_limit + 1) 0) ≡ lost
threads_past_the_limit = refl

abbrev found : ℕ → Sits → ℕ → Bool → Result Readers Refusal
found r sits raw agrees = Ok (record { readers = r; sits = sits; raw = raw; agrees = agrees })

-- two readers, and the word that they make
pub in_word_lem : readers_of (unqueued 3 33) ≡ found 2 InWord 33 true
unfolding reads_below
in_word_lem = refl

pub not_in_word : readers_of (unqueued 3 17) ≡ found 2 InWord 17 false
unfolding reads_below
not_in_word = refl

-- one of them is beyond the count
pub below_the_count : readers_of (unqueued 1 17) ≡ found 1 InWord 17 true
unfolding reads_below
below_the_count = refl

-- one reader, one queued writer
abbrev behind : ℕ → ℕ → Machine
behind w next = machine 3 w (waits 0 0) (waits next 2) (waits 0 0) Read Nothing Nothing

pub in_oldest : readers_of (behind 35 16) ≡ found 1 (InNode (node 2)) 16 true
unfolding to_tail to_set reads_below
in_oldest = refl

pub next_with_a_flag : readers_of (behind 35 17) ≡ found 1 (InNode (node 2)) 17 false
unfolding to_tail to_set reads_below
next_with_a_flag = refl

pub pending_downgrade : readers_of (behind (35 + DOWNGRADED) 0) ≡ found 1 Downgrade 1 true
unfolding to_tail to_set reads_below
pending_downgrade = refl

-- refused with the listing, where somebody reads; where nobody does, a stale link is no count
pub lost_readers : readers_of (chain 3 0) ≡ refused_of
unfolding to_tail to_set reads_below
lost_readers = refl

pub stale_link : readers_of (queue 51 3) ≡ found 0 Nowhere 0 true
unfolding reads_below
stale_link = refl
