-- Wrong programs that a run gives away: each with document 01's words that it goes against and the statement that it
-- breaks, by a computed counterexample. Every statement of Statements.antt and Calls.antt is broken by one at least.
-- In this order: how a program is changed, and runs; then the statements, in the order of their pages.
-- Not here: wrong programs that one event gives away (crate promises); wrong replays (crate schedule).
-- Assumes nothing.
use Rattle.std.specs.Prelude.{ℕ, zero, suc, ◌+◌, ◌-◌, ◌<◌, Bool, true, false, List, [], ◌∷◌, ◌++◌, ◌≡◌, refl, eqb}
use Rattle.std.specs.Prelude.{length, Err, Ok, Option, Some, None, Result}
use Rattle.std.proofs.lemmas.Bool.{false≢true}
use mathlib.Core.List.Memᴰ
use Rattle.std.proofs.Common.{inl, inr, ⊎_elim, sym, ap, ◌∙◌, subst, arith}
use Rattle.word.specs.Base.{pick}
use Rattle.word.specs.Flags.{word, queued}
use Rattle.word.specs.Number.{none, thread, node, node_of}
use Rattle.word.specs.declared.number.NodeNumber.{NodeNumber}
use Rattle.word.specs.declared.number.ThreadNumber.{ThreadNumber}
use Rattle.state.specs.Access.{access_of}
use Rattle.state.specs.Machine.{node_at, thread_at}
use Rattle.state.specs.View.{at, end, stays, writes, completes, walk_from, Stepped}
use Rattle.state.specs.declared.answer.Answer.TheVariants.{Done}
use Rattle.state.specs.declared.answer.Refusal.{Refusal}
use Rattle.state.specs.declared.answer.Refusal.TheVariants.{Damaged}
use Rattle.state.specs.declared.holding.Holding.{Holding}
use Rattle.state.specs.declared.holding.Holding.TheVariants.{Nothing, Read, Write}
use Rattle.state.specs.declared.machine.Machine.{Machine}
use Rattle.state.specs.declared.place.Place.{Place}
use Rattle.state.specs.declared.place.Place.TheVariants as At
use Rattle.state.specs.declared.place.Who.TheVariants.{Waiter, Leaver}
use Rattle.state.specs.declared.place.Walk.TheVariants.{Queue}
use Rattle.state.specs.declared.view.Change.{Change}
use Rattle.state.specs.declared.view.Next.{Next}
use Rattle.state.specs.declared.view.View.{View}
use Rattle.lock.specs.Advance.{advance_of}
use Rattle.lock.specs.Effect.{LockEffect, keeps, grants_read, grants_write, releases_read, releases_write, downgrades}
use Rattle.lock.specs.Effect.{lock_effect, queue_effect, stand_of}
use Rattle.lock.specs.Event.{event_of}
use Rattle.lock.specs.Step.{marked_of, step_of}
use Rattle.promises.specs.Program.{Program}
use Rattle.promises.specs.Changed.{program_of, which, changed_at}
use Rattle.promises.specs.Shared.{is_done}
use Rattle.promises.specs.Tables.{subtracting}
use Rattle.schedule.specs.Replay.{stopped_of}
use Rattle.schedule.specs.Whole.{file_replay_of}
use Rattle.schedule.specs.declared.replay.Replayed.{Replayed as Replay}
use Rattle.schedule.specs.declared.whole.FileStop.{FileStop}
use Rattle.schedule.specs.declared.whole.FileStop.TheVariants.{Refused as FileStopped}
use Rattle.listing.specs.Listing.{Listed, lost, listed, listed_of, to_set, to_tail}
use Rattle.listing.specs.ReaderCount.{reads_below}
use Rattle.listing.specs.declared.listing.Waiters.{Waiters}
use Rattle.listing.specs.declared.reader_count.Readers.{Readers}
use Rattle.standing.specs.Look.{among_below, met_from}
use Rattle.standing.specs.Stands.{held_below}
use Rattle.queue.specs.Updates.{upd}
use Rattle.safety.specs.Lists.{back_from, wakes_in}
use Rattle.safety.specs.Statements.{Event, ran_by, reached_by, CountStays, holders_of, Plainly, PlainLock, Whose}
use Rattle.safety.specs.Statements.{nobodys, readers, writers, MutualExclusion, ChangesWithTheWord, ReaderCount}
use Rattle.safety.specs.Statements.{ListingTotal, ListsMove, Waits, Spot, queue, aside, waker, In, OneSpot, OnePlace}
use Rattle.safety.specs.Statements.{StandingIsItsList, OneQueueOwner, Resting, NobodyStuck, NeverEight, TouchedAlive}
use Rattle.safety.specs.Statements.{NeverStopsAtEight, ReplayedSafe}
use Rattle.safety.specs.Calls.{log_of, EachCallDoesItsWork}

-- ── programs and runs ──

-- the program with another rule at the places of p's kind, made of what the right one gives
abbrev changing : Place → (View → Stepped → Stepped) → Program
changing p f = program_of (changed_at (which p) f)

-- where it is not refused
abbrev from : (View → Change → Stepped) → View → Stepped → Stepped
from f v (Ok c) = f v c
from f v (Err r) = Err r

abbrev next_of : Change → Next
next_of c = record { place = c.thread.place; answer = c.answer }

abbrev begin : ℕ → ℕ → Event
begin code t = record { code = code; thread = thread t }

abbrev step : ℕ → Event
step t = record { code = 16; thread = thread t }

abbrev steps : ℕ → ℕ → List Event
steps zero t = []
steps (suc k) t = step t ∷ steps k t

-- thread 0 writes; thread 1 reads, and registers with its 10th step
abbrev registered : List Event
registered = begin 1 0 ∷ step 0 ∷ begin 0 1 ∷ steps 10 1

-- ... loads completed, and sleeps; thread 0 begins to unlock
abbrev unlocking : ℕ → List Event
unlocking k = registered ++ (step 1 ∷ begin 5 0 ∷ steps k 0)

-- ── the number of threads ──

-- 'A machine has 1 to 8 threads': here each event adds one
abbrev adds_a_thread : Program
adds_a_thread m code t =
    record {
      machine = record { count = m.count + 1; word = m.word; nodes = m.nodes; threads = m.threads };
      reply = (event_of m code t).reply;
    }

pub adds_a_thread_refuted : CountStays adds_a_thread → ⊥
unfolding ran_by
adds_a_thread_refuted holds =
    let e : ◌≡◌ {A = ℕ} 2 1 = holds 1 (begin 0 0 ∷ []) (omega arith) (omega arith) in omega (arith, e)

-- ── the plain lock ──

-- 'A downgrade makes its holder a reader': here it holds nothing
abbrev downgrade_releases : Program
downgrade_releases = changing At.DowngradeCas (from (λ v c. writes v c.word Nothing (next_of c)))

abbrev holds_read : Holding → Bool
holds_read Nothing = false
holds_read Read = true
holds_read Write = false

pub downgrade_releases_refuted : PlainLock downgrade_releases → ⊥
unfolding ran_by Plainly upd advance_of access_of marked_of which lock_effect stand_of
downgrade_releases_refuted holds =
    let run = holds 1 (begin 1 0 ∷ step 0 ∷ begin 6 0 ∷ step 0 ∷ []) in
    let last = run.2.2.2 in
    false≢true (ap (λ h. holds_read (h 0)) (last.2 ∙ last.1.1))

-- 'try_write: one fetch-or of LOCKED': here it is granted whether LOCKED was set or not
abbrev grants_anyway : Program
grants_anyway = changing (At.TryWriteOr false) (λ v s. writes v v.word Write (end Done))

abbrev holds_write : Holding → Bool
holds_write Nothing = false
holds_write Read = false
holds_write Write = true

pub grants_anyway_refuted : MutualExclusion grants_anyway → ⊥
unfolding ran_by advance_of access_of marked_of which
grants_anyway_refuted holds = by (holds 2 (begin 3 0 ∷ step 0 ∷ begin 3 1 ∷ step 1 ∷ []))
  where
    by : Whose (holders_of (reached_by grants_anyway 2 (begin 3 0 ∷ step 0 ∷ begin 3 1 ∷ step 1 ∷ []))) → ⊥
    by (nobodys f) = false≢true (sym (ap holds_write (f 0)))
    by (readers t e f) = f 0 refl
    by (writers zero e f) = false≢true (sym (ap holds_write (f 1 (λ z. omega (arith, z)))))
    by (writers (suc t) e f) = false≢true (sym (ap holds_write (f 0 (λ z. omega (arith, z)))))

-- 'write_unlock: strong compare 1 to 0': here it leaves the word
abbrev leaves_the_word : Program
leaves_the_word = changing At.WriteUnlockCas (λ v s. stays v (end Done))

abbrev is_keeps : LockEffect → Bool
is_keeps keeps = true
is_keeps grants_read = false
is_keeps grants_write = false
is_keeps releases_read = false
is_keeps releases_write = false
is_keeps downgrades = false

pub leaves_the_word_refuted : ChangesWithTheWord leaves_the_word → ⊥
unfolding ran_by advance_of access_of marked_of which lock_effect stand_of subtracting
leaves_the_word_refuted holds =
    ⊎_elim (λ e. false≢true (ap is_keeps e)) (⊎_elim (λ e. false≢true e) (λ e. false≢true e))
    (holds 1 (begin 1 0 ∷ step 0 ∷ begin 5 0 ∷ []) (step 0))

-- ── the readers' number ──

-- 'Counting readers in the word while QUEUED is set': here read_unlock takes 16 off the word
abbrev counts_readers_in_a_queued_word : Program
counts_readers_in_a_queued_word =
    changing At.ReadUnlockLoad (λ v s. pick (queued v.word) (writes v (word (v.word.0 - 16)) Nothing (end Done)) s)

abbrev agrees_in : Result Readers Refusal → Bool
agrees_in (Ok r) = r.agrees
agrees_in (Err r) = false

-- threads 0 and 1 read; thread 2 writes, and registers with its 10th step; thread 0 unlocks
pub counts_readers_in_a_queued_word_refuted : ReaderCount counts_readers_in_a_queued_word → ⊥
unfolding ran_by advance_of access_of marked_of which reads_below to_set to_tail
counts_readers_in_a_queued_word_refuted holds =
    let counted = (holds 3 two_readers).2 in false≢true (ap agrees_in counted.fine ∙ counted.agrees)
  where
    two_readers : List Event
    two_readers =
        begin 0 0 ∷ steps 2 0 ++ (begin 0 1 ∷ steps 2 1 ++ (begin 1 2 ∷ steps 10 2 ++ (begin 4 0 ∷ step 0 ∷ [])))

-- ── the lists of waiters ──

-- 'Else fill the node': here it is registered as it was
abbrev registers_unfilled : Program
registers_unfilled = changing (At.ContendLoad false 0) (from (λ v c. stays v (next_of c)))

abbrev is_fine : Result Waiters Refusal → Bool
is_fine (Ok w) = true
is_fine (Err r) = false

pub registers_unfilled_refuted : ListingTotal registers_unfilled → ⊥
unfolding ran_by advance_of access_of marked_of which to_set to_tail
registers_unfilled_refuted holds = false≢true (ap is_fine (holds 2 registered).fine)

-- 'Reading prev after completing a node': here a waker stands on the node that it has completed, to load its prev
abbrev reads_prev_after_completing : Program
reads_prev_after_completing =
    changing (At.WakeStore Leaver none none)
    (from (λ v c. completes v c.node c.woken (back c.woken (next_of c))))
  where
    back : Option ThreadNumber → Next → Next
    back None next = next
    back (Some t) next = at (At.WakePrev Leaver (node_of t))

abbrev listed_length : Listed → ℕ
listed_length lost = 0
listed_length (listed ns) = length ns

-- the node is on its list still
pub reads_prev_after_completing_moves_refuted : ListsMove reads_prev_after_completing → ⊥
unfolding ran_by advance_of access_of marked_of which stand_of queue_effect back_from
reads_prev_after_completing_moves_refuted holds =
    let move = holds 2 (unlocking 6) (step 0) in
    let before : length (move.before.wakes 0) ≡ 1 = sym (ap listed_length (move.before.wakes_is 0)) in
    let after : length (move.after.wakes 0) ≡ 1 = sym (ap listed_length (move.after.wakes_is 0)) in
    let own : length (move.before.wakes 0) ≡ suc (length (move.after.wakes 0)) = ap length move.own.2 in
    omega (arith, before, after, own)

-- 'compare to 17 or 0, then complete all': here the queue stays in the word
abbrev takes_nothing_off : Program
takes_nothing_off = changing (At.TakeCas Leaver (word 0) none) (from (λ v c. stays v (next_of c)))

abbrev is_queue : Spot → Bool
is_queue queue = true
is_queue (aside t) = false
is_queue (waker t) = false

abbrev untaken : Machine
untaken = reached_by takes_nothing_off 2 (unlocking 5)

in_the_queue : listed_of untaken ≡ listed (node 2 ∷ [])
unfolding ran_by advance_of access_of marked_of which to_set to_tail
in_the_queue = refl

to_be_woken : wakes_in untaken (thread_at untaken 0).place ≡ listed (node 2 ∷ [])
unfolding ran_by advance_of access_of marked_of which back_from
to_be_woken = refl

-- the waiter is in the queue and on its waker's list
pub takes_nothing_off_refuted : OnePlace takes_nothing_off → ⊥
unfolding ran_by advance_of access_of marked_of which
takes_nothing_off_refuted holds =
    two ((holds 2 (unlocking 5)).0 1 (record { below = omega arith; registered = refl; uncompleted = refl }))
  where
    two : OneSpot untaken (node 2) → ⊥
    two one =
        false≢true (ap is_queue
        (one.only (waker 0) (subst (In (node 2)) (sym to_be_woken) (Memᴰ.head refl))
        ∙ sym (one.only queue (subst (In (node 2)) (sym in_the_queue) (Memᴰ.head refl)))))

-- 'then complete all': here it is done with the compare
abbrev wakes_nobody : Program
wakes_nobody = changing (At.TakeCas Leaver (word 0) none) (λ v s. writes v (word 0) v.holding (end Done))

pub wakes_nobody_refuted : StandingIsItsList wakes_nobody → ⊥
unfolding ran_by advance_of access_of marked_of which to_set to_tail among_below met_from held_below
wakes_nobody_refuted holds = holds 2 (unlocking 5) (thread 1) (omega arith)

-- ── the owner of the queue ──

-- 'Whoever turned QUEUE_LOCKED on runs unlock queue': here whoever registers does
abbrev walks_always : Program
walks_always =
    changing (At.RegisterCas false 0 (word 0))
    (from (λ v c. writes v c.word v.holding (walk_from (Queue (Waiter false)) c.word)))

pub walks_always_refuted : OneQueueOwner walks_always → ⊥
unfolding ran_by advance_of access_of marked_of which
walks_always_refuted holds = (holds 2 registered).unlocked refl 1 refl

-- ── nobody is left asleep ──

-- 'Completing stores completed and unparks': here it sets no token
abbrev completing_sets_no_token : Program
completing_sets_no_token =
    changing (At.WakeStore Leaver none none) (from (λ v c. completes v c.node None (next_of c)))

pub completing_sets_no_token_refuted : NobodyStuck completing_sets_no_token → ⊥
unfolding ran_by advance_of access_of marked_of which
completing_sets_no_token_refuted holds = holds 2 (unlocking 7) all 1 (omega arith) (false, refl)
  where
    all : (t : ℕ) → t < 2 → Resting (reached_by completing_sets_no_token 2 (unlocking 7)) t
    all zero l = record { holding = refl; place = inl refl }
    all (suc zero) l = record { holding = refl; place = inr (false, refl, refl) }
    all (suc (suc t)) l = absurd (omega (arith, l))

-- ── refusal 8, and the nodes touched ──

-- the walk over a node that was not filled leaves the range
pub registers_unfilled_eight_refuted : NeverEight registers_unfilled → ⊥
unfolding ran_by advance_of access_of marked_of which
registers_unfilled_eight_refuted holds = holds 2 (unlocking 4) (step 0) refl

-- a node that has been completed is touched
pub reads_prev_after_completing_touches_refuted : TouchedAlive reads_prev_after_completing → ⊥
unfolding ran_by advance_of access_of marked_of which
reads_prev_after_completing_touches_refuted holds = ⊎_elim own waits (holds 2 (unlocking 7) (thread 0)).accessed
  where
    own : node 2 ≡ node 1 → ⊥
    own e = let z : ◌≡◌ {A = ℕ} 2 1 = ap (λ (k : NodeNumber). k.0) e in omega (arith, z)

    waits : Waits (reached_by reads_prev_after_completing 2 (unlocking 7)) (node 2) → ⊥
    waits w =
        let z : w.0 ≡ 1 = let y : 2 ≡ w.0 + 1 = ap (λ (k : NodeNumber). k.0) w.1 in omega (arith, y) in
        false≢true
        (sym (subst (λ u. (node_at (reached_by reads_prev_after_completing 2 (unlocking 7)) u).completed ≡ false) z
        w.2.uncompleted))

-- ── replays ──

-- '8 is never given for a machine reached from fresh': here each replay stops at it, and each file's
abbrev stops_at_eight : Machine → List ℕ → Replay Refusal
stops_at_eight m s = stopped_of m 0 (Err Damaged)

pub stops_at_eight_refuted : NeverStopsAtEight stops_at_eight → ⊥
stops_at_eight_refuted holds = holds 1 [] [] refl

abbrev file_stops_at_eight : List ℕ → Replay FileStop
file_stops_at_eight file = record { machine = (file_replay_of file).machine; run = 0; stop = Err (FileStopped Damaged) }

pub file_stops_at_eight_refuted : ReplayedSafe file_stops_at_eight → ⊥
file_stops_at_eight_refuted holds = (holds []).not_eight refl

-- ── each call does its work ──

-- 'read_unlock: load, then weak compare': here it is done at its load, and nothing is released
abbrev read_unlock_done_at_its_load : Program
read_unlock_done_at_its_load = changing At.ReadUnlockLoad (λ v s. pick (queued v.word) s (stays v (end Done)))

-- try_read, granted; then read_unlock
pub read_unlock_done_at_its_load_refuted : EachCallDoesItsWork read_unlock_done_at_its_load → ⊥
unfolding log_of ran_by advance_of access_of marked_of which lock_effect stand_of
read_unlock_done_at_its_load_refuted holds =
    false≢true (ap (λ l. eqb (length l) 1)
    (holds 1 (begin 2 0 ∷ step 0 ∷ step 0 ∷ begin 4 0 ∷ step 0 ∷ []) (thread 0)).ended.0.1)

-- 'one that finishes a call at its first step and idles later'
abbrev finishes_at_the_first_step : Program
finishes_at_the_first_step = program_of (λ v p. stays v (end Done))

pub finishes_at_the_first_step_refuted : EachCallDoesItsWork finishes_at_the_first_step → ⊥
unfolding log_of ran_by access_of marked_of lock_effect stand_of
finishes_at_the_first_step_refuted holds =
    false≢true (ap (λ l. eqb (length l) 1) (holds 1 (begin 0 0 ∷ step 0 ∷ []) (thread 0)).ended.0.1)

-- 'A try that is granted ends with yes, any other with no': here try_write begins as write does, and blocks
abbrev try_write_blocks : Program
try_write_blocks m code t = event_of m (pick (eqb code 3) 1 code) t

pub try_write_blocks_refuted : EachCallDoesItsWork try_write_blocks → ⊥
unfolding log_of ran_by event_of step_of advance_of access_of marked_of lock_effect stand_of
try_write_blocks_refuted holds =
    ⊎_elim (λ e. false≢true (sym (ap is_done e.0))) (λ e. false≢true (sym (ap is_done e.0)))
    (holds 1 (begin 3 0 ∷ step 0 ∷ []) (thread 0)).ended.0
