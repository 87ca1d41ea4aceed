-- What one event may do, in the words of document 01 and demands 1 and 2: the statements alone, each over any program.
-- m is any machine value, code any byte, t any thread number; `event m code t` is the event's outcome. That `event_of`
-- satisfies each is in proofs/Theorems.antt; programs that do not are in Wrong.antt.
-- In order: demand 1, refusals; demand 2, how calls begin and end, what an access reads, what it writes, where it goes,
-- what is filled, the word gone by, the token, wakes, one access; grants, releases and downgrades; last, all together,
-- and that only one program satisfies them.
-- Not here: the tables that the statements cite (Refusals.antt, Shared.antt, Tables.antt, Goes.antt); statements over
-- whole runs (crate safety); replays and files (crate schedule).
-- Assumes nothing.
use Rattle.std.specs.Prelude.{ℕ, ◌+◌, Bool, true, false, not, ◌⊎◌, ◌≢◌, ◌≡◌, eqb, Err, Option, Some, None}
use Rattle.word.specs.Base.{pick}
use Rattle.word.specs.Flags.{locked, downgraded}
use Rattle.word.specs.Number.{thread, node_of}
use Rattle.word.specs.declared.flags.Word.{Word}
use Rattle.word.specs.declared.number.NodeNumber.{NodeNumber}
use Rattle.word.specs.declared.number.ThreadNumber.{ThreadNumber}
use Rattle.state.specs.Answer.{accepted_with}
use Rattle.state.specs.Access.{access, touched_of}
use Rattle.state.specs.Machine.{Sized, thread_at, node_at}
use Rattle.state.specs.Node.{filled_of}
use Rattle.state.specs.declared.access.Kind.TheVariants.{WeakCompare, Complete, Park}
use Rattle.state.specs.declared.access.Location.{Location}
use Rattle.state.specs.declared.access.Location.TheVariants.{Completed}
use Rattle.state.specs.declared.answer.Answer.{Answer}
use Rattle.state.specs.declared.answer.Answer.TheVariants.{Begun}
use Rattle.state.specs.declared.answer.Refusal.{Refusal}
use Rattle.state.specs.declared.machine.Machine.{Machine}
use Rattle.state.specs.declared.machine.Outcome.{Outcome}
use Rattle.state.specs.declared.place.Place.TheVariants.{WalkHead}
use Rattle.state.specs.declared.place.Walk.TheVariants.{Queue}
use Rattle.state.specs.declared.place.Who.{Who}
use Rattle.lock.specs.Begin.{is_idle}
use Rattle.lock.specs.Effect.{effect_of, keeps, stands, held_after, grants, word_changed}
use Rattle.promises.specs.Program.{Program, place_of, access_at}
use Rattle.promises.specs.Refusals.{and, begins, steps, number_given, first_of, refusal_rows}
use Rattle.promises.specs.Shared.{Unless, writes_word, takes_token, kept_but, fills, tries, acquires}
use Rattle.promises.specs.Shared.{is_went, is_done, is_yes, is_no, ends, took_all}
use Rattle.promises.specs.Tables.{value_at, writer_of, in_word, begins_at, Seen, saw, goes_by, restores_at, left_by}
use Rattle.promises.specs.Tables.{subtracting, asserted}
use Rattle.promises.specs.Goes.{goes_to, node_for}

-- ── demand 1: refusals ──

-- each number is given exactly on its condition, the first of the table that holds
abbrev pub RefusalTable : Program → Type 0
RefusalTable event =
    (m : Machine) (code : ℕ) (t : ThreadNumber)
    → number_given (event m code t).reply ≡ first_of (refusal_rows m code t)

-- a refusal leaves the machine unchanged
abbrev pub RefusedUnchanged : Program → Type 0
RefusedUnchanged event =
    (m : Machine) (code : ℕ) (t : ThreadNumber) (r : Refusal)
    → (event m code t).reply ≡ Err r
    → (event m code t).machine ≡ m

-- ── demand 2: how calls begin and end ──

-- how a step of t that answered a leaves it
pub record Ended (m : Machine) (t : ThreadNumber) (a : Answer) (m' : Machine) : Type 0 where
  -- idle exactly if the answer is done, yes or no
  pub idle : is_idle (place_of m' t) ≡ ends a
  -- went exactly if it is not
  pub went : is_went a ≡ not (is_idle (place_of m' t))
  -- done exactly where a call that is no try ends
  pub done : is_done a ≡ and (not (tries (place_of m t))) (is_idle (place_of m' t))
  -- no exactly at an ungranted end of a try
  pub no : is_no a ≡ and (tries (place_of m t)) (and (is_idle (place_of m' t)) (not (grants (effect_of t m m').lock)))

-- how a begin of t leaves it: at the first place of that very call, blocking exactly for read and write
pub record Began (code : ℕ) (t : ThreadNumber) (a : Answer) (w : Option ThreadNumber) (m' : Machine) : Type 0 where
  pub answer : a ≡ Begun
  pub woken : w ≡ None
  pub place : place_of m' t ≡ begins_at code

pub record EndsExactly (event : Program) : Type 0 where
  pub step : (m : Machine) (code : ℕ) (t : ThreadNumber) (a : Answer) (w : Option ThreadNumber)
      → Sized m
      → steps code ≡ true
      → (event m code t).reply ≡ accepted_with a w
      → Ended m t a (event m code t).machine
  pub begin : (m : Machine) (code : ℕ) (t : ThreadNumber) (a : Answer) (w : Option ThreadNumber)
      → Sized m
      → begins code ≡ true
      → (event m code t).reply ≡ accepted_with a w
      → Began code t a w (event m code t).machine

-- ── demand 2: what an access reads ──

-- unlock queue reads the tail's writer mark, unless it saw LOCKED without DOWNGRADED
abbrev pub reads_mark : Word → Bool
reads_mark seen = pick (locked seen) (downgraded seen) true

-- two machines alike as far as t's event may look. Of t's own record the token is left out: it is shared, and read at
-- park alone
pub record Alike (t : ThreadNumber) (m m' : Machine) : Type 0 where
  pub count : m.count ≡ m'.count
  pub place : place_of m t ≡ place_of m' t
  pub holding : (thread_at m t.0).holding ≡ (thread_at m' t.0).holding
  -- the word; that node's field; the token
  pub value : value_at m (access_at m t).location ≡ value_at m' (access_at m t).location
  -- at a walk's end for unlock queue also the tail's writer mark
  pub mark : (who : Who) (seen : Word) (tail : NodeNumber)
      → place_of m t ≡ WalkHead (Queue who) seen tail
      → reads_mark seen ≡ true
      → writer_of m tail ≡ writer_of m' tail

-- two outcomes of t's event, from m and from m', whose access lies at location l
pub record DoSame (t : ThreadNumber) (l : Location) (m m' : Machine) (o o' : Outcome) : Type 0 where
  pub reply : o.reply ≡ o'.reply
  pub place : place_of o.machine t ≡ place_of o'.machine t
  pub holding : (thread_at o.machine t.0).holding ≡ (thread_at o'.machine t.0).holding
  pub value : value_at o.machine l ≡ value_at o'.machine l
  -- the own node kept in both, or filled alike
  pub own : in_word l ≡ true
      → ((node_at o.machine t.0 ≡ node_at m t.0) × (node_at o'.machine t.0 ≡ node_at m' t.0))
      ⊎ (node_at o.machine t.0 ≡ node_at o'.machine t.0)

abbrev pub ReadsOneAccess : Program → Type 0
ReadsOneAccess event =
    (m m' : Machine) (code : ℕ) (t : ThreadNumber)
    → Sized m
    → Sized m'
    → Alike t m m'
    → DoSame t (access_at m t).location m m' (event m code t) (event m' code t)

-- ── demand 2: what an access writes, where it goes, what is filled ──

-- the value left at the access is the one of table `left_by`; code 17 makes the step fail
abbrev pub WritesExactly : Program → Type 0
WritesExactly event =
    (m : Machine) (code : ℕ) (t : ThreadNumber) (a : Answer) (w : Option ThreadNumber)
    → Sized m
    → steps code ≡ true
    → (event m code t).reply ≡ accepted_with a w
    → value_at (event m code t).machine (access_at m t).location
    ≡ left_by t (place_of m t) (eqb code 17) (value_at m (access_at m t).location)

-- the place gone on to is the one of table `goes_to`
abbrev pub GoesExactly : Program → Type 0
GoesExactly event =
    (m : Machine) (code : ℕ) (t : ThreadNumber) (a : Answer) (w : Option ThreadNumber)
    → Sized m
    → steps code ≡ true
    → (event m code t).reply ≡ accepted_with a w
    → place_of (event m code t).machine t
    ≡ goes_to t (place_of m t) (eqb code 17) (value_at m (access_at m t).location) (writer_of m)

-- at an access to the word the own node is the one of table `node_for`: filled exactly before registering. (At any
-- other access one_access leaves no node but the one accessed.)
abbrev pub FillsExactly : Program → Type 0
FillsExactly event =
    (m : Machine) (code : ℕ) (t : ThreadNumber) (a : Answer) (w : Option ThreadNumber)
    → Sized m
    → steps code ≡ true
    → (event m code t).reply ≡ accepted_with a w
    → in_word (access_at m t).location ≡ true
    → node_at (event m code t).machine t.0 ≡ node_for t (place_of (event m code t).machine t) (node_at m t.0)

-- ── demand 2: the word gone by ──

-- the last word: where the access lies in the word, the one that it left, loaded or reported, which is the word after
-- it; else the one carried before. One exception: a compare that takes the whole queue off, as the slow downgrade's,
-- after which a word is still carried, hands on the word that it replaced
abbrev pub last_by : Machine → ThreadNumber → Machine → Seen
last_by m t m' =
    pick (took_all (effect_of t m m').queue)
    (saw m.word)
    (pick (in_word (access_at m t).location) (saw m'.word) (goes_by (place_of m t)))

-- a word that the place after goes by is the last word; one that a restore stores to is the one that the failed compare
-- went by
abbrev pub SeenIsTheLastWord : Program → Type 0
SeenIsTheLastWord event =
    (m : Machine) (code : ℕ) (t : ThreadNumber) (a : Answer) (w : Option ThreadNumber)
    → Sized m
    → steps code ≡ true
    → (event m code t).reply ≡ accepted_with a w
    → (x : Word)
    → (goes_by (place_of (event m code t).machine t) ≡ saw x → saw x ≡ last_by m t (event m code t).machine)
    × (restores_at (place_of (event m code t).machine t) ≡ saw x → saw x ≡ goes_by (place_of m t))

-- ── demand 2: the token, and wakes ──

-- the token after park: clear on code 16, as it was on 17
pub record ParkTakesTheToken (event : Program) : Type 0 where
  pub clears : (m : Machine) (t : ThreadNumber) (a : Answer) (w : Option ThreadNumber)
      → Sized m
      → (access_at m t).kind ≡ Park
      → (event m 16 t).reply ≡ accepted_with a w
      → (thread_at (event m 16 t).machine t.0).token ≡ false
  pub leaves : (m : Machine) (t : ThreadNumber) (a : Answer) (w : Option ThreadNumber)
      → Sized m
      → (access_at m t).kind ≡ Park
      → (event m 17 t).reply ≡ accepted_with a w
      → (thread_at (event m 17 t).machine t.0).token ≡ (thread_at m t.0).token

-- the owner of node n is the thread reported woken, and has its token, set before or not
pub record Owned (n : NodeNumber) (w : Option ThreadNumber) (m' : Machine) : Type 0 where
  pub owner : ThreadNumber
  pub owns : node_of owner ≡ n
  pub reported : w ≡ Some owner
  pub token : (thread_at m' owner.0).token ≡ true

-- woken is the owner of the node that this step completes; nobody otherwise
pub record WokenIsTheOwner (event : Program) : Type 0 where
  pub completing : (m : Machine) (code : ℕ) (t : ThreadNumber) (a : Answer) (w : Option ThreadNumber) (n : NodeNumber)
      → Sized m
      → (event m code t).reply ≡ accepted_with a w
      → access_at m t ≡ access Complete (Completed n)
      → Owned n w (event m code t).machine
  pub otherwise : (m : Machine) (code : ℕ) (t : ThreadNumber) (a : Answer) (w : Option ThreadNumber)
      → (event m code t).reply ≡ accepted_with a w
      → (access_at m t).kind ≢ Complete
      → w ≡ None

-- ── demand 2: one access a step ──

-- how node j stands after a step of t: as before; or it is the node accessed, changed at the accessed field alone; or
-- it is t's own, filled with the word
pub data NodeAfter (m : Machine) (t : ThreadNumber) (m' : Machine) (j : ℕ) : Type 0 where
  same : node_at m' j ≡ node_at m j → NodeAfter m t m' j
  accessed : (touched_of (access_at m t) t).0 ≡ j + 1
      → node_at m' j ≡ kept_but (access_at m t) (node_at m' j) (node_at m j)
      → NodeAfter m t m' j
  filled : j ≡ t.0
      → fills (place_of m t) ≡ true
      → (writer : Bool)
      → node_at m' j ≡ filled_of t writer m.word
      → NodeAfter m t m' j

-- how thread u's token stands after an event of t that woke w: as before; or u is t, at park, where
-- park_takes_the_token gives its value; or u is woken
pub data TokenAfter (m : Machine) (t : ThreadNumber) (w : Option ThreadNumber) (m' : Machine) (u : ℕ) : Type 0 where
  kept : (thread_at m' u).token ≡ (thread_at m u).token → TokenAfter m t w m' u
  taken : u ≡ t.0 → takes_token (access_at m t).kind ≡ true → TokenAfter m t w m' u
  set : w ≡ Some (thread u) → (thread_at m' u).token ≡ true → TokenAfter m t w m' u

-- the shared part changed at the place's access alone
pub record AtAccess (m : Machine) (t : ThreadNumber) (w : Option ThreadNumber) (m' : Machine) : Type 0 where
  pub word : Unless (writes_word (access_at m t).kind) (m'.word ≡ m.word)
  pub nodes : (j : ℕ) → NodeAfter m t m' j
  pub tokens : (u : ℕ) → TokenAfter m t w m' u

-- an accepted step changes the shared part of the machine at its access alone, apart from its own unregistered node
-- being filled
abbrev pub OneAccess : Program → Type 0
OneAccess event =
    (m : Machine) (code : ℕ) (t : ThreadNumber) (a : Answer) (w : Option ThreadNumber)
    → steps code ≡ true
    → (event m code t).reply ≡ accepted_with a w
    → AtAccess m t w (event m code t).machine

-- a begin changes nothing shared
pub record NothingShared (m m' : Machine) : Type 0 where
  pub word : m'.word ≡ m.word
  pub nodes : m'.nodes ≡ m.nodes
  pub tokens : (u : ℕ) → (thread_at m' u).token ≡ (thread_at m u).token

abbrev pub BeginSharesNothing : Program → Type 0
BeginSharesNothing event =
    (m : Machine) (code : ℕ) (t : ThreadNumber) (a : Answer) (w : Option ThreadNumber)
    → begins code ≡ true
    → (event m code t).reply ≡ accepted_with a w
    → NothingShared m (event m code t).machine

-- code 17 on a weak compare leaves the word, and every node but the own unregistered one, as they are
abbrev pub FailureWritesNothing : Program → Type 0
FailureWritesNothing event =
    (m : Machine) (t : ThreadNumber) (a : Answer) (w : Option ThreadNumber)
    → (access_at m t).kind ≡ WeakCompare
    → (event m 17 t).reply ≡ accepted_with a w
    → ((event m 17 t).machine.word ≡ m.word)
    × ((j : ℕ) → (node_at (event m 17 t).machine j ≡ node_at m j) ⊎ ((j ≡ t.0) × (fills (place_of m t) ≡ true)))

-- an event changes at most the word, one node, its own thread's record and the token of the thread it wakes
pub record Little (m : Machine) (t : ThreadNumber) (w : Option ThreadNumber) (m' : Machine) : Type 0 where
  pub count : m'.count ≡ m.count
  pub node : ℕ
  pub nodes : (j : ℕ) → (j ≡ node → ⊥) → node_at m' j ≡ node_at m j
  pub places : (u : ℕ) → (u ≡ t.0 → ⊥) → (thread_at m' u).place ≡ (thread_at m u).place
  pub holdings : (u : ℕ) → (u ≡ t.0 → ⊥) → (thread_at m' u).holding ≡ (thread_at m u).holding
  pub tokens : (u : ℕ) → (u ≡ t.0 → ⊥) → (w ≡ Some (thread u) → ⊥) → (thread_at m' u).token ≡ (thread_at m u).token

abbrev pub ChangesLittle : Program → Type 0
ChangesLittle event =
    (m : Machine) (code : ℕ) (t : ThreadNumber) (a : Answer) (w : Option ThreadNumber)
    → (event m code t).reply ≡ accepted_with a w
    → Little m t w (event m code t).machine

-- the arrays keep their length
abbrev pub StaysSized : Program → Type 0
StaysSized event = (m : Machine) (code : ℕ) (t : ThreadNumber) → Sized m → Sized (event m code t).machine

-- ── demand 2: grants, releases and downgrades ──

-- an accepted event makes of its thread's holding what its effect says; a refused one has no effect
abbrev pub HoldingFollowsEffect : Program → Type 0
HoldingFollowsEffect event =
    (m : Machine) (code : ℕ) (t : ThreadNumber)
    → Sized m
    → (thread_at (event m code t).machine t.0).holding
    ≡ held_after (effect_of t m (event m code t).machine).lock (thread_at m t.0).holding

-- the machine that a refusal hands back is the one before
abbrev pub RefusedHasNoEffect : Type 0
RefusedHasNoEffect =
    (m : Machine) (t : ThreadNumber) → ((effect_of t m m).lock ≡ keeps) × ((effect_of t m m).queue ≡ stands)

-- a holding changes only at an access that writes the word, or at a contended reader's subtraction
abbrev pub HoldingChangesAtTheWord : Program → Type 0
HoldingChangesAtTheWord event =
    (m : Machine) (code : ℕ) (t : ThreadNumber) (a : Answer) (w : Option ThreadNumber)
    → Sized m
    → (event m code t).reply ≡ accepted_with a w
    → (u : ℕ)
    → ((thread_at (event m code t).machine u).holding ≡ (thread_at m u).holding)
    ⊎ ((u ≡ t.0) × ((writes_word (access_at m t).kind ≡ true) ⊎ (subtracting (place_of m t) ≡ true)))

-- and there the word does change, wherever queue.rs's own assertions hold
abbrev pub HoldingChangesWithTheWord : Program → Type 0
HoldingChangesWithTheWord event =
    (m : Machine) (code : ℕ) (t : ThreadNumber) (a : Answer) (w : Option ThreadNumber)
    → Sized m
    → asserted (place_of m t) ≡ true
    → (event m code t).reply ≡ accepted_with a w
    → (u : ℕ)
    → ((thread_at (event m code t).machine u).holding ≡ (thread_at m u).holding)
    ⊎ ((u ≡ t.0) × ((word_changed m (event m code t).machine ≡ true) ⊎ (subtracting (place_of m t) ≡ true)))

-- yes is answered exactly at the grant of a try, done of read and write exactly at the call's grant
abbrev pub AnsweredAtTheGrant : Program → Type 0
AnsweredAtTheGrant event =
    (m : Machine) (code : ℕ) (t : ThreadNumber) (a : Answer) (w : Option ThreadNumber)
    → Sized m
    → (event m code t).reply ≡ accepted_with a w
    → (is_yes a ≡ and (tries (place_of m t)) (grants (effect_of t m (event m code t).machine).lock))
    × (Unless (not (acquires (place_of m t))) (is_done a ≡ grants (effect_of t m (event m code t).machine).lock))

-- ── all together ──

-- the statements that leave no choice. A reader who believes them has to believe what they cite: refusal_rows
-- (Refusals.antt); tries, acquires, fills, writes_word, takes_token and kept_but (Shared.antt); value_at, begins_at and
-- left_by (Tables.antt); goes_to and node_for (Goes.antt); access_of and filled_of (state); lock_effect, stand_of,
-- held_after and grants (lock, Effect.antt); the words of the lock's rules (word, Rules.antt), by the call permitted_of
-- (acquire)
pub record Right (event : Program) : Type 0 where
  pub table : RefusalTable event
  pub unchanged : RefusedUnchanged event
  pub calls : EndsExactly event
  pub writes : WritesExactly event
  pub goes : GoesExactly event
  pub fills : FillsExactly event
  pub woken : WokenIsTheOwner event
  pub at_access : OneAccess event
  pub begin : BeginSharesNothing event
  pub little : ChangesLittle event
  pub sized : StaysSized event
  pub holding : HoldingFollowsEffect event
  pub answers : AnsweredAtTheGrant event

-- any two programs that satisfy them are equal on every machine whose arrays have their declared length, as the code's
-- always have: a value stored past the end of a shorter array would be lost, and nothing could be said of it
abbrev pub OnlyOne : Type 0
OnlyOne =
    (event event' : Program)
    → Right event
    → Right event'
    → (m : Machine) (code : ℕ) (t : ThreadNumber)
    → Sized m
    → event m code t ≡ event' m code t

-- so a program that satisfies them is the one that is known to
abbrev pub NoOther : Program → Type 0
NoOther event =
    (other : Program)
    → Right other
    → (m : Machine) (code : ℕ) (t : ThreadNumber)
    → Sized m
    → other m code t ≡ event m code t
