-- The contracts of crate schedule: each public function's result is determined (of a slice that is handed back, its
-- bytes), and wrong answers that its contract rules out. The file, a part of a slice, the replay, a whole file, the
-- cursor. Assumes nothing.
use Rattle.std.specs.Prelude.{ℕ, true, refl, List, [], ◌∷◌, length, Err, None, Option, Some, Result, Ok}
use Rattle.std.specs.Borrow.{Bor}
use contract.Lifetimes.{Lfts}
use Rattle.word.specs.Number.{thread}
use Rattle.state.specs.Answer.{Reply, accepted_with}
use Rattle.state.specs.Access.{access_of}
use Rattle.state.specs.Machine.{thread_at, made_of}
use Rattle.state.specs.declared.answer.Answer.TheVariants.{Begun}
use Rattle.state.specs.declared.answer.Refusal.TheVariants.{InsideCall}
use Rattle.state.specs.declared.holding.Holding.TheVariants as Holds
use Rattle.state.specs.declared.machine.Machine.{Machine}
use Rattle.state.specs.declared.place.Place.TheVariants as At
use Rattle.lock.specs.Event.{event_of}
use Rattle.schedule.specs.Cursor.{moved_of}
use Rattle.schedule.specs.File.{checked_of}
use Rattle.schedule.specs.Replay.{stopped_of, replay_of}
use Rattle.schedule.specs.declared.cursor.Cursor.{Cursor}
use Rattle.schedule.specs.declared.cursor.Moved.{Moved}
use Rattle.schedule.specs.declared.cursor.Seen.{Seen}
use Rattle.schedule.specs.declared.file.FileRefusal.{FileRefusal}
use Rattle.schedule.specs.declared.file.FileRefusal.TheVariants.{Length, Threads, TooShort, Version}
use Rattle.schedule.specs.declared.file.Head.{Head}
use Rattle.schedule.specs.declared.replay.Replayed.{Replayed}
use Rattle.schedule.specs.declared.whole.FileStop.{FileStop}
use Rattle.schedule.specs.declared.whole.FileStop.TheVariants as FileStops
use Rattle.schedule.proofs.cursor.Cursor.start.Reads as start_at
use Rattle.schedule.proofs.cursor.next.Reads as next_move
use Rattle.schedule.proofs.file.FileRefusal.number.Reads as number
use Rattle.schedule.proofs.file.check.Reads as check
use Rattle.schedule.proofs.file.events.Reads as events
use Rattle.schedule.proofs.part.from.Reads as from
use Rattle.schedule.proofs.replay.replay.Reads as replay
use Rattle.schedule.proofs.replay.rest.Reads as rest
use Rattle.schedule.proofs.replay.unread.Reads as unread
use Rattle.schedule.proofs.whole.nothing_run.Reads as nothing_run
use Rattle.schedule.proofs.whole.replay_file.Reads as replay_file
use Rattle.schedule.proofs.whole.rest_of_file.Reads as rest_of_file
use Rattle.schedule.proofs.whole.unread_of_file.Reads as unread_of_file
use Rattle.contracts.specs.Allowed.{Determined, DeterminedBytes, ◌&◌, Allows, AllowsLent, apart_by, apart_in, clash}
use Rattle.contracts.specs.Allowed.{determined, determined_bytes, slice}
use Rattle.contracts.specs.Examples.{machine_of, thread_of}

-- one thread begins a write, and the file of that
abbrev begun : List ℕ
begun = 1 ∷ 0 ∷ []

abbrev file : List ℕ
file = 1 ∷ 0 ∷ 0 ∷ 0 ∷ 3 ∷ 1 ∷ begun

-- the same begun twice: the second is refused
abbrev twice : List ℕ
twice = 1 ∷ 0 ∷ 1 ∷ 0 ∷ []

abbrev file_of_twice : List ℕ
file_of_twice = 1 ∷ 0 ∷ 0 ∷ 0 ∷ 5 ∷ 1 ∷ twice

-- a version that is not known, and a length that is not the file's
abbrev bad_file : List ℕ
bad_file = 2 ∷ 0 ∷ 0 ∷ 0 ∷ 9 ∷ 1 ∷ []

-- the machines before and after it
abbrev idle : Machine
idle = machine_of 1 0 [] []

abbrev writing : Machine
writing = machine_of 1 0 [] (thread_of (At.TryWriteOr true) Holds.Nothing ∷ [])

-- ── the file ──

pub number_determined : (refusal : FileRefusal) → Determined (Allows number.Post (refusal & tt))
number_determined refusal = determined

pub number_one_too_high : Allows number.Post (TooShort & tt) 11 → ⊥
number_one_too_high e = clash (cc)

pub number_of_length_and_threads_swapped : Allows number.Post (Length & tt) 13 → ⊥
number_of_length_and_threads_swapped e = clash (cc)

pub check_determined : (κs : Lfts 1) (s : Bor (List ℕ)) → Determined (AllowsLent check.Post κs (s & tt))
check_determined κs s = determined

pub check_refuses_every_file : (κs : Lfts 1) → AllowsLent check.Post κs (slice file & tt) (Err Threads) → ⊥
unfolding checked_of
check_refuses_every_file κs e = clash (cc)

pub check_asks_for_the_length_first :
    (κs : Lfts 1) → AllowsLent check.Post κs (slice bad_file & tt) (Err Length) → ⊥
unfolding checked_of
check_asks_for_the_length_first κs e = clash (cc)

-- of an accepted file
abbrev events_counted : Result Head FileRefusal → ℕ
events_counted (Ok head) = head.events
events_counted (Err refusal) = 0

pub check_counts_bytes :
    (κs : Lfts 1) → AllowsLent check.Post κs (slice file & tt) (Ok (record { threads = 1; events = 2 })) → ⊥
unfolding checked_of
check_counts_bytes κs = apart_by events_counted refl

pub events_determined : (κs : Lfts 1) (s : Bor (List ℕ)) → DeterminedBytes (AllowsLent events.Post κs (s & tt))
events_determined κs s = determined_bytes

pub events_begin_with_the_thread_count :
    (κs : Lfts 1) → AllowsLent events.Post κs (slice file & tt) (slice (1 ∷ begun)) → ⊥
events_begin_with_the_thread_count κs = apart_by length refl

pub events_lose_the_first : (κs : Lfts 1) → AllowsLent events.Post κs (slice file & tt) (slice []) → ⊥
events_lose_the_first κs = apart_by length refl

-- ── a part of a slice ──

pub from_determined : (κs : Lfts 1) (s : Bor (List ℕ)) (at : ℕ)
    → DeterminedBytes (AllowsLent from.Post κs (s & at & tt))
from_determined κs s at = determined_bytes

pub from_past_the_end_is_all : (κs : Lfts 1) → AllowsLent from.Post κs (slice begun & 3 & tt) (slice begun) → ⊥
from_past_the_end_is_all κs = apart_by length refl

pub from_one_too_far : (κs : Lfts 1) → AllowsLent from.Post κs (slice begun & 1 & tt) (slice []) → ⊥
from_one_too_far κs = apart_by length refl

-- ── the replay ──

pub replay_determined : (κs : Lfts 1) (m : Machine) (s : Bor (List ℕ))
    → Determined (AllowsLent replay.Post κs (m & s & tt))
replay_determined κs m s = determined

pub replay_invents_the_number_run :
    (κs : Lfts 1) → AllowsLent replay.Post κs (idle & slice begun & tt) (stopped_of writing 0 (Ok tt)) → ⊥
unfolding replay_of event_of access_of
replay_invents_the_number_run κs = apart_by (λ r. r.run) refl

pub replay_counts_the_refused :
    (κs : Lfts 1)
    → AllowsLent replay.Post κs (idle & slice twice & tt) (stopped_of writing 2 (Err InsideCall)) → ⊥
unfolding replay_of event_of access_of
replay_counts_the_refused κs = apart_by (λ r. r.run) refl

pub replay_goes_on_after_a_refusal :
    (κs : Lfts 1) → AllowsLent replay.Post κs (idle & slice twice & tt) (stopped_of writing 1 (Ok tt)) → ⊥
unfolding replay_of event_of access_of
replay_goes_on_after_a_refusal κs = apart_in (λ r. r.stop) (λ e. clash (cc))

pub rest_determined : (κs : Lfts 1) (s : Bor (List ℕ)) (run : ℕ)
    → DeterminedBytes (AllowsLent rest.Post κs (s & run & tt))
rest_determined κs s run = determined_bytes

pub rest_counts_bytes : (κs : Lfts 1) → AllowsLent rest.Post κs (slice twice & 1 & tt) (slice (0 ∷ begun)) → ⊥
rest_counts_bytes κs = apart_by length refl

pub rest_drops_the_refused : (κs : Lfts 1) → AllowsLent rest.Post κs (slice twice & 1 & tt) (slice []) → ⊥
rest_drops_the_refused κs = apart_by length refl

pub unread_determined : (κs : Lfts 1) (m : Machine) (s : Bor (List ℕ))
    → DeterminedBytes (AllowsLent unread.Post κs (m & s & tt))
unread_determined κs m s = determined_bytes

pub unread_drops_the_refused : (κs : Lfts 1) → AllowsLent unread.Post κs (idle & slice twice & tt) (slice []) → ⊥
unfolding replay_of event_of access_of
unread_drops_the_refused κs = apart_by length refl

pub unread_is_all : (κs : Lfts 1) → AllowsLent unread.Post κs (idle & slice twice & tt) (slice twice) → ⊥
unfolding replay_of event_of access_of
unread_is_all κs = apart_by length refl

-- ── a whole file ──

abbrev file_ended : Machine → ℕ → Result (Unit {0}) FileStop → Replayed FileStop
file_ended m run stop = record { machine = m; run = run; stop = stop }

pub nothing_run_determined : (refusal : FileRefusal) → Determined (Allows nothing_run.Post (refusal & tt))
nothing_run_determined refusal = determined

pub nothing_run_hides_the_refusal : Allows nothing_run.Post (TooShort & tt) (file_ended (made_of 1) 0 (Ok tt)) → ⊥
nothing_run_hides_the_refusal = apart_in (λ r. r.stop) (λ e. clash (cc))

pub nothing_run_of_another_refusal :
    Allows nothing_run.Post (TooShort & tt) (file_ended (made_of 1) 0 (Err (FileStops.File Version))) → ⊥
nothing_run_of_another_refusal = apart_in (λ r. r.stop) (λ e. clash (cc))

pub replay_file_determined : (κs : Lfts 1) (s : Bor (List ℕ)) → Determined (AllowsLent replay_file.Post κs (s & tt))
replay_file_determined κs s = determined

pub replay_file_runs_nothing :
    (κs : Lfts 1) → AllowsLent replay_file.Post κs (slice file & tt) (file_ended idle 0 (Ok tt)) → ⊥
unfolding checked_of replay_of event_of access_of
replay_file_runs_nothing κs = apart_by (λ r. r.run) refl

pub replay_file_hides_the_file's_refusal :
    (κs : Lfts 1) → AllowsLent replay_file.Post κs (slice bad_file & tt) (file_ended idle 0 (Ok tt)) → ⊥
unfolding checked_of
replay_file_hides_the_file's_refusal κs = apart_in (λ r. r.stop) (λ e. clash (cc))

pub rest_of_file_determined : (κs : Lfts 1) (s : Bor (List ℕ)) (stop : Result (Unit {0}) FileStop) (run : ℕ)
    → DeterminedBytes (AllowsLent rest_of_file.Post κs (s & stop & run & tt))
rest_of_file_determined κs s stop run = determined_bytes

pub rest_of_file_drops_a_refused_file's_header :
    (κs : Lfts 1)
    → AllowsLent rest_of_file.Post κs (slice bad_file & Err (FileStops.File Version) & 0 & tt) (slice []) → ⊥
rest_of_file_drops_a_refused_file's_header κs = apart_by length refl

pub rest_of_file_begins_with_the_header :
    (κs : Lfts 1) → AllowsLent rest_of_file.Post κs (slice file & Ok tt & 1 & tt) (slice file) → ⊥
rest_of_file_begins_with_the_header κs = apart_by length refl

pub unread_of_file_determined : (κs : Lfts 1) (s : Bor (List ℕ))
    → DeterminedBytes (AllowsLent unread_of_file.Post κs (s & tt))
unread_of_file_determined κs s = determined_bytes

pub unread_of_file_drops_the_refused :
    (κs : Lfts 1) → AllowsLent unread_of_file.Post κs (slice file_of_twice & tt) (slice []) → ⊥
unfolding checked_of replay_of event_of access_of
unread_of_file_drops_the_refused κs = apart_by length refl

pub unread_of_file_reads_a_refused_one :
    (κs : Lfts 1) → AllowsLent unread_of_file.Post κs (slice bad_file & tt) (slice []) → ⊥
unfolding checked_of
unread_of_file_reads_a_refused_one κs = apart_by length refl

-- ── the cursor ──

abbrev cursor : Machine → ℕ → Cursor
cursor m at = record { machine = m; at = at }

abbrev moved : Cursor → Option Seen → Moved
moved c seen = record { cursor = c; seen = seen }

-- one thread's begin of a write, and its reply
abbrev seen : Reply → Option Seen
seen reply = Some (record { code = 1; thread = thread 0; reply = reply })

pub start_determined : (m : Machine) → Determined (Allows start_at.Post (m & tt))
start_determined m = determined

pub start_at_the_second : Allows start_at.Post (idle & tt) (cursor idle 1) → ⊥
start_at_the_second = apart_by (λ c. c.at) refl

pub start_afresh : Allows start_at.Post (writing & tt) (cursor idle 0) → ⊥
start_afresh = apart_in (λ c. (thread_at c.machine 0).place) (λ e. clash (cc))

pub next_determined : (κs : Lfts 1) (c : Cursor) (s : Bor (List ℕ))
    → Determined (AllowsLent next_move.Post κs (c & s & tt))
next_determined κs c s = determined

pub next_passes_a_refused_event :
    (κs : Lfts 1)
    → AllowsLent next_move.Post κs (cursor writing 1 & slice twice & tt)
    (moved (cursor writing 2) (seen (Err InsideCall))) → ⊥
unfolding moved_of event_of access_of
next_passes_a_refused_event κs = apart_by (λ m. m.cursor.at) refl

pub next_stays_at_an_accepted_one :
    (κs : Lfts 1)
    → AllowsLent next_move.Post κs (cursor idle 0 & slice begun & tt)
    (moved (cursor writing 0) (seen (accepted_with Begun None))) → ⊥
unfolding moved_of event_of access_of
next_stays_at_an_accepted_one κs = apart_by (λ m. m.cursor.at) refl

pub next_ends_one_too_soon :
    (κs : Lfts 1)
    → AllowsLent next_move.Post κs (cursor idle 0 & slice begun & tt) (moved (cursor idle 0) None) → ⊥
unfolding moved_of event_of access_of
next_ends_one_too_soon κs = apart_in (λ m. m.seen) (λ e. clash (cc))
