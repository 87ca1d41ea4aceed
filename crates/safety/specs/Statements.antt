-- Demand 3: what holds of every machine that a list of events leads to from a fresh one. The statements alone; they are
-- proved in proofs/Theorems.antt.
-- Each is over any program (`event`), and the theorem is its instance at `event_of`; programs that break them:
-- WrongRuns.antt.
-- n is any count asked for (one that is none gives one thread), es any list of events, codes and threads arbitrary; a
-- refused event changes nothing.
-- In this order: runs; the plain lock; the readers' number; the lists of waiters, and what the trace says of them; the
-- owner of the queue; no thread left asleep; refusal 8, and the nodes touched; replays.
-- Not here: that each call does its work, which is said of a log of a thread's calls (Calls.antt).
-- Assumes nothing.
use Rattle.std.specs.Prelude.{ℕ, ◌+◌, ◌*◌, ◌≤◌, ◌<◌, Bool, true, false, ◌≢◌, ◌⊎◌, ◌≡◌, take, Ok}
use mathlib.Core.List.{List, [], ◌∷◌, ◌++◌, Memᴰ}
use Rattle.word.specs.Flags.{LOCKED, SINGLE, queued, queue_locked, downgraded}
use Rattle.word.specs.Number.{none, thread, node_of}
use Rattle.word.specs.declared.number.NodeNumber.{NodeNumber}
use Rattle.word.specs.declared.number.ThreadNumber.{ThreadNumber}
use Rattle.state.specs.Access.{touched_of}
use Rattle.state.specs.Answer.{refusal_number}
use Rattle.state.specs.Machine.{thread_limit, thread_at, node_at, fresh_of}
use Rattle.state.specs.declared.answer.Refusal.{Refusal}
use Rattle.state.specs.declared.answer.Refusal.TheVariants.{Damaged}
use Rattle.state.specs.declared.holding.Holding.{Holding}
use Rattle.state.specs.declared.holding.Holding.TheVariants.{Nothing, Read, Write}
use Rattle.state.specs.declared.machine.Machine.{Machine}
use Rattle.state.specs.declared.place.Place.TheVariants.{Idle, Park}
use Rattle.lock.specs.Effect.{LockEffect, keeps, grants_read, grants_write, releases_read, releases_write, downgrades}
use Rattle.lock.specs.Effect.{QueueEffect, stands, registers, sets_aside, restores, takes_tail, takes_all, completes}
use Rattle.lock.specs.Effect.{Effect, effect_of, word_changed}
use Rattle.lock.specs.Event.{event_of}
use Rattle.lock.specs.Step.{marked_of}
use Rattle.promises.specs.Program.{Program, place_of, access_at}
use Rattle.promises.specs.Refusals.{number_given}
use Rattle.promises.specs.Tables.{subtracting}
use Rattle.schedule.specs.Replay.{stop_number}
use Rattle.schedule.specs.Whole.{file_stop_number}
use Rattle.schedule.specs.declared.replay.Replayed.{Replayed as Replay}
use Rattle.schedule.specs.declared.whole.FileStop.{FileStop}
use Rattle.listing.specs.Listing.{Listed, lost, listed, node_by, listed_of, array_of, waiters_of}
use Rattle.listing.specs.ReaderCount.{oldest, readers_of}
use Rattle.listing.specs.declared.reader_count.Readers.{Readers}
use Rattle.queue.specs.Updates.{upd}
use Rattle.standing.specs.Part.{part_of, registered_of}
use Rattle.standing.specs.Rouses.{owns_of}
use Rattle.standing.specs.Stands.{standing_of}
use Rattle.standing.specs.declared.stands.Standing.{Standing}
use Rattle.standing.specs.declared.stands.Standing.TheVariants.{NotWaiting, Completed, InQueue, SetAside, InList}
use Rattle.standing.specs.declared.stands.Standing.TheVariants.{Nowhere}
use Rattle.safety.specs.Lists.{queue_in, aside_in, wakes_in}

-- ── runs, by any program and by `event_of` ──

pub record Event : Type 0 where
  pub code : ℕ
  pub thread : ThreadNumber

abbrev pub after_by : Program → Machine → Event → Machine
after_by event m e = (event m e.code e.thread).machine

abbrev pub after : Machine → Event → Machine
after m e = after_by event_of m e

-- what an event did to the lock and to the queue
abbrev pub effect_by : Program → Machine → Event → Effect
effect_by event m e = effect_of e.thread m (after_by event m e)

abbrev pub effect_in : Machine → Event → Effect
effect_in m e = effect_by event_of m e

unfoldable pub ran_by : Program → Machine → List Event → Machine
ran_by event m [] = m
ran_by event m (e ∷ es) = ran_by event (after_by event m e) es

abbrev pub ran : Machine → List Event → Machine
ran m es = ran_by event_of m es

abbrev pub reached_by : Program → ℕ → List Event → Machine
reached_by event n es = ran_by event (fresh_of n).machine es

abbrev pub reached : ℕ → List Event → Machine
reached n es = reached_by event_of n es

-- from a count of 1 to the limit, the machine has so many threads
abbrev pub CountStays : Program → Type 0
CountStays event = (n : ℕ) (es : List Event) → 1 ≤ n → n ≤ thread_limit → (reached_by event n es).count ≡ n

-- ── the plain lock: who holds what ──

abbrev pub Holders : Type 0
Holders = ℕ → Holding

abbrev pub holders_of : Machine → Holders
holders_of m t = (thread_at m t).holding

-- what a plain lock allows thread t, and who holds then
abbrev pub Allows : LockEffect → Holders → ℕ → Holders → Type 0
Allows keeps h t h' = h' ≡ h
Allows grants_read h t h' = (h t ≡ Nothing) × ((u : ℕ) → h u ≢ Write) × (h' ≡ upd h t Read)
Allows grants_write h t h' = ((u : ℕ) → h u ≡ Nothing) × (h' ≡ upd h t Write)
Allows releases_read h t h' = (h t ≡ Read) × (h' ≡ upd h t Nothing)
Allows releases_write h t h' = (h t ≡ Write) × (h' ≡ upd h t Nothing)
Allows downgrades h t h' = (h t ≡ Write) × (h' ≡ upd h t Read)

-- the events of a run from m, one after another, take a plain lock from h to h''
unfoldable pub Plainly : Program → Holders → Machine → List Event → Holders → Type 0
Plainly event h m [] h'' = h'' ≡ h
Plainly event h m (e ∷ es) h'' =
    (h' : Holders) × Allows (effect_by event m e).lock h e.thread.0 h' × Plainly event h' (after_by event m e) es h''

-- grants, releases and downgrades, in the order made, are steps of a plain lock that nobody holds at first; at the end
-- it is held as the machine says
abbrev pub PlainLock : Program → Type 0
PlainLock event =
    (n : ℕ) (es : List Event)
    → Plainly event (λ t. Nothing) (fresh_of n).machine es (holders_of (reached_by event n es))

-- nobody's, some readers' or one writer's
pub data Whose (h : Holders) : Type 0 where
  nobodys : ((u : ℕ) → h u ≡ Nothing) → Whose h
  readers : (t : ℕ) → h t ≡ Read → ((u : ℕ) → h u ≢ Write) → Whose h
  writers : (t : ℕ) → h t ≡ Write → ((u : ℕ) → u ≢ t → h u ≡ Nothing) → Whose h

abbrev pub MutualExclusion : Program → Type 0
MutualExclusion event = (n : ℕ) (es : List Event) → Whose (holders_of (reached_by event n es))

-- an event that grants, releases or downgrades changes the word, or is a contended reader's subtraction
abbrev pub WithTheWord : Program → Machine → Event → Type 0
WithTheWord event m e =
    ((effect_by event m e).lock ≡ keeps)
    ⊎ ((word_changed m (after_by event m e) ≡ true) ⊎ (subtracting (place_of m e.thread) ≡ true))

abbrev pub ChangesWithTheWord : Program → Type 0
ChangesWithTheWord event = (n : ℕ) (es : List Event) (e : Event) → WithTheWord event (reached_by event n es) e

-- ── the readers' number ──

abbrev pub gained : LockEffect → ℕ
gained keeps = 0
gained grants_read = 1
gained grants_write = 0
gained releases_read = 0
gained releases_write = 0
gained downgrades = 1

abbrev pub given_up : LockEffect → ℕ
given_up keeps = 0
given_up grants_read = 0
given_up grants_write = 0
given_up releases_read = 1
given_up releases_write = 0
given_up downgrades = 0

unfoldable pub tally : Program → (LockEffect → ℕ) → Machine → List Event → ℕ
tally event f m [] = 0
tally event f m (e ∷ es) = f (effect_by event m e).lock + tally event f (after_by event m e) es

-- where r readers' number is: unqueued, the word is 16r + 1; queued with DOWNGRADED, r is 1; else the oldest waiter's
-- next is 16r. The traced count agrees
pub record Counted (m : Machine) (r : ℕ) : Type 0 where
  pub word : 1 ≤ r → queued m.word ≡ false → m.word.0 ≡ SINGLE * r + LOCKED
  pub downgrade : 1 ≤ r → queued m.word ≡ true → downgraded m.word ≡ true → r ≡ 1
  pub next : 1 ≤ r → queued m.word ≡ true → downgraded m.word ≡ false
      → (ns : List NodeNumber) → listed_of m ≡ listed ns → (node_by m (oldest ns)).next.0 ≡ SINGLE * r
  pub found : Readers
  pub fine : readers_of m ≡ Ok found
  pub traced : found.readers ≡ r
  pub agrees : found.agrees ≡ true

-- r: grants of read and downgrades less releases, which are no more
abbrev pub ReaderCount : Program → Type 0
ReaderCount event =
    (n : ℕ) (es : List Event)
    → (r : ℕ)
    × (tally event gained (fresh_of n).machine es ≡ r + tally event given_up (fresh_of n).machine es)
    × Counted (reached_by event n es) r

-- ── the lists of waiters ──

-- the nodes registered in a run, newest first
abbrev pub registering : QueueEffect → List NodeNumber → List NodeNumber
registering stands ns = ns
registering (registers k) ns = k ∷ ns
registering (sets_aside k) ns = ns
registering (restores k) ns = ns
registering (takes_tail k) ns = ns
registering takes_all ns = ns
registering (completes k) ns = ns

unfoldable pub registrations : Program → Machine → List Event → List NodeNumber → List NodeNumber
registrations event m [] ns = ns
registrations event m (e ∷ es) ns =
    registrations event (after_by event m e) es (registering (effect_by event m e).queue ns)

abbrev pub NoRepeats : List NodeNumber → Type 0
NoRepeats [] = Unit {0}
NoRepeats (k ∷ ns) = (Memᴰ k ns → ⊥) × NoRepeats ns

-- the listing refuses nothing, has no repeats, and is the newest registrations of the run, newest first
pub record Listing (m : Machine) (made : List NodeNumber) : Type 0 where
  pub waiting : ℕ
  pub fine : waiters_of m ≡ Ok (array_of (take waiting made))
  pub is : listed_of m ≡ listed (take waiting made)
  pub once : NoRepeats (take waiting made)

abbrev pub ListingTotal : Program → Type 0
ListingTotal event =
    (n : ℕ) (es : List Event) → Listing (reached_by event n es) (registrations event (fresh_of n).machine es [])

-- how the queue, what the thread has set aside and what it is to wake, each oldest first, change by an effect
abbrev pub ListsAfter : QueueEffect → (queue aside wakes queue' aside' wakes' : List NodeNumber) → Type 0
ListsAfter stands q a w q' a' w' = (q' ≡ q) × (a' ≡ a) × (w' ≡ w)
ListsAfter (registers k) q a w q' a' w' = (q' ≡ q ++ (k ∷ [])) × (a' ≡ a) × (w' ≡ w)
ListsAfter (sets_aside k) q a w q' a' w' = (q ≡ k ∷ q') × (a ≡ []) × (a' ≡ k ∷ []) × (w' ≡ w)
ListsAfter (restores k) q a w q' a' w' = (q' ≡ k ∷ q) × (a ≡ k ∷ []) × (a' ≡ []) × (w' ≡ w)
ListsAfter (takes_tail k) q a w q' a' w' = (q' ≡ q) × (a ≡ k ∷ []) × (a' ≡ []) × (w ≡ []) × (w' ≡ k ∷ [])
ListsAfter takes_all q a w q' a' w' = (q' ≡ []) × (a' ≡ a) × (w ≡ []) × (w' ≡ q)
ListsAfter (completes k) q a w q' a' w' = (q' ≡ q) × (a' ≡ a) × (w ≡ k ∷ w')

-- a machine's lists: all are there
pub record Lists (m : Machine) : Type 0 where
  pub queue : List NodeNumber
  pub aside : ℕ → List NodeNumber
  pub wakes : ℕ → List NodeNumber
  pub queue_is : queue_in m ≡ listed queue
  pub aside_is : (u : ℕ) → aside_in m (thread_at m u).place ≡ listed (aside u)
  pub wakes_is : (u : ℕ) → wakes_in m (thread_at m u).place ≡ listed (wakes u)

-- the queue's and thread t's change by the effect of its event; everybody else's stay
pub record Move (m m' : Machine) (t : ℕ) (e : QueueEffect) : Type 0 where
  pub before : Lists m
  pub after : Lists m'
  pub own : ListsAfter e before.queue (before.aside t) (before.wakes t)
      after.queue (after.aside t) (after.wakes t)
  pub others : (u : ℕ) → u ≢ t → (after.aside u ≡ before.aside u) × (after.wakes u ≡ before.wakes u)

abbrev pub Moves : Program → Machine → Event → Type 0
Moves event m e = Move m (after_by event m e) e.thread.0 (effect_by event m e).queue

abbrev pub ListsMove : Program → Type 0
ListsMove event = (n : ℕ) (es : List Event) (e : Event) → Moves event (reached_by event n es) e

-- a registered thread whose node is not completed
pub record Waiter (m : Machine) (t : ℕ) : Type 0 where
  pub below : t < m.count
  pub registered : registered_of (part_of (thread_at m t).place) ≡ true
  pub uncompleted : (node_at m t).completed ≡ false

-- the node of one
abbrev pub Waits : Machine → NodeNumber → Type 0
Waits m k = (u : ℕ) × (k ≡ node_of (thread u)) × Waiter m u

-- where it may be: in the queue, set aside by a thread, on a waker's list
pub data Spot : Type 0 where
  queue : Spot
  aside : ℕ → Spot
  waker : ℕ → Spot

abbrev pub In : NodeNumber → Listed → Type 0
In k lost = ⊥
In k (listed ns) = Memᴰ k ns

abbrev pub At : Machine → NodeNumber → Spot → Type 0
At m k queue = In k (listed_of m)
At m k (aside t) = In k (aside_in m (thread_at m t).place)
At m k (waker t) = In k (wakes_in m (thread_at m t).place)

pub record OneSpot (m : Machine) (k : NodeNumber) : Type 0 where
  pub spot : Spot
  pub there : At m k spot
  pub only : (s : Spot) → At m k s → s ≡ spot

-- each waiter is in exactly one of them, and nobody else is in any
abbrev pub Placed : Machine → Type 0
Placed m =
    ((t : ℕ) → Waiter m t → OneSpot m (node_of (thread t))) × ((k : NodeNumber) (s : Spot) → At m k s → Waits m k)

abbrev pub OnePlace : Program → Type 0
OnePlace event = (n : ℕ) (es : List Event) → Placed (reached_by event n es)

-- what the trace prints of thread t (`standing_of`), in these words; that a waiter is in no list is never printed
abbrev pub Says : Standing → Machine → ThreadNumber → Type 0
Says NotWaiting m t = registered_of (part_of (place_of m t)) ≡ false
Says Completed m t = (registered_of (part_of (place_of m t)) ≡ true) × ((node_at m t.0).completed ≡ true)
Says InQueue m t = Waiter m t.0 × At m (node_of t) queue
Says (SetAside u) m t = Waiter m t.0 × At m (node_of t) (aside u.0)
Says (InList u) m t = Waiter m t.0 × At m (node_of t) (waker u.0)
Says Nowhere m t = ⊥

abbrev pub StandsSo : Machine → Type 0
StandsSo m = (t : ThreadNumber) → t.0 < m.count → Says (standing_of m t) m t

abbrev pub StandingIsItsList : Program → Type 0
StandingIsItsList event = (n : ℕ) (es : List Event) → StandsSo (reached_by event n es)

-- ── the owner of the queue ──

-- thread t is in unlock queue: from the access that turned QUEUE_LOCKED on to the compare that turns it off
abbrev pub OwnsQueue : Machine → ℕ → Type 0
OwnsQueue m t = owns_of (part_of (thread_at m t).place) ≡ true

pub record OneOwner (m : Machine) (t : ℕ) : Type 0 where
  pub below : t < m.count
  pub owns : OwnsQueue m t
  pub only : (u : ℕ) → OwnsQueue m u → u ≡ t

-- with QUEUE_LOCKED set exactly one thread owns the queue, else none; what is set aside is set aside by it
pub record Owned (m : Machine) : Type 0 where
  pub locked : queue_locked m.word ≡ true → (t : ℕ) × OneOwner m t
  pub unlocked : queue_locked m.word ≡ false → (t : ℕ) → OwnsQueue m t → ⊥
  pub setting_aside : (k : NodeNumber) (t : ℕ) → At m k (aside t) → OneOwner m t

abbrev pub OneQueueOwner : Program → Type 0
OneQueueOwner event = (n : ℕ) (es : List Event) → Owned (reached_by event n es)

-- ── nobody is left asleep ──

-- holds nothing, and is idle or asleep without a wake token
pub record Resting (m : Machine) (t : ℕ) : Type 0 where
  pub holding : holders_of m t ≡ Nothing
  pub place : ((thread_at m t).place ≡ Idle)
      ⊎ ((writer : Bool) × ((thread_at m t).place ≡ Park writer) × ((thread_at m t).token ≡ false))

abbrev pub Asleep : Machine → ℕ → Type 0
Asleep m t = (writer : Bool) × ((thread_at m t).place ≡ Park writer)

-- if nobody holds the lock and every thread is idle or asleep without a wake token, nobody is asleep
abbrev pub NotStuck : Machine → Type 0
NotStuck m = ((t : ℕ) → t < m.count → Resting m t) → (t : ℕ) → t < m.count → Asleep m t → ⊥

abbrev pub NobodyStuck : Program → Type 0
NobodyStuck event = (n : ℕ) (es : List Event) → NotStuck (reached_by event n es)

-- ── refusal 8, and the nodes touched ──

abbrev pub NeverEight : Program → Type 0
NeverEight event =
    (n : ℕ) (es : List Event) (e : Event)
    → number_given (event (reached_by event n es) e.code e.thread).reply ≢ refusal_number Damaged

-- the node that thread t's next step accesses is its own or a waiter's; and a waiter's is the tail whose writer mark
-- its local code reads, if any
pub record Touched (m : Machine) (t : ThreadNumber) : Type 0 where
  pub accessed : (touched_of (access_at m t) t ≡ node_of t) ⊎ Waits m (touched_of (access_at m t) t)
  pub marked : (marked_of (place_of m t) ≡ none) ⊎ Waits m (marked_of (place_of m t))

abbrev pub TouchedAlive : Program → Type 0
TouchedAlive event = (n : ℕ) (es : List Event) (t : ThreadNumber) → Touched (reached_by event n es) t

-- ── replays ──

-- a replay from a machine reached from fresh never stops at 8
abbrev pub NeverStopsAtEight : (Machine → List ℕ → Replay Refusal) → Type 0
NeverStopsAtEight replay =
    (n : ℕ) (es : List Event) (s : List ℕ) → stop_number (replay (reached n es) s).stop ≢ refusal_number Damaged

-- the machine that a replay of any file hands back is reached from fresh, so all of the above holds of it; and the
-- replay is never refused 8
pub record Replayed (replay : Replay FileStop) : Type 0 where
  pub count : ℕ
  pub events : List Event
  pub machine : replay.machine ≡ reached count events
  pub not_eight : file_stop_number replay.stop ≢ refusal_number Damaged

abbrev pub ReplayedSafe : (List ℕ → Replay FileStop) → Type 0
ReplayedSafe replay = (file : List ℕ) → Replayed (replay file)
