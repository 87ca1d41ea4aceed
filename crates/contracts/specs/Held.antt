-- The contracts of crate held: both public functions' results are determined, but for where the bytes of the rest lie,
-- and wrong answers that the contracts rule out. Assumes nothing.
use Rattle.std.specs.Prelude.{ℕ, true, ◌≡◌, refl, List, [], ◌∷◌, Err, length}
use Rattle.std.specs.Borrow.{Bor}
use contract.Lifetimes.{Lfts}
use Rattle.state.specs.Access.{access_of}
use Rattle.state.specs.declared.answer.Refusal.{Refusal}
use Rattle.state.specs.declared.answer.Refusal.TheVariants.{InsideCall}
use Rattle.state.specs.declared.holding.Holding.TheVariants as Holds
use Rattle.state.specs.declared.machine.Machine.{Machine}
use Rattle.state.specs.declared.place.Place.TheVariants as At
use Rattle.lock.specs.Event.{event_of}
use Rattle.schedule.specs.File.{checked_of}
use Rattle.schedule.specs.Replay.{replay_of}
use Rattle.schedule.specs.declared.whole.FileStop.{FileStop}
use Rattle.schedule.specs.declared.whole.FileStop.TheVariants as FileStops
use Rattle.held.specs.Held.{file_shown_of, shown_of}
use Rattle.held.specs.declared.replay.Held.{Held}
use Rattle.held.proofs.replay.replay_held.Reads as replay_held
use Rattle.held.proofs.whole.replay_file_held.Reads as replay_file_held
use Rattle.contracts.specs.Allowed.{◌&◌, AllowsLent, apart_by, determined, slice}
use Rattle.contracts.specs.Examples.{machine_of, thread_of}

-- one thread begins a write twice: the second is refused; and the file of that
abbrev twice : List ℕ
twice = 1 ∷ 0 ∷ 1 ∷ 0 ∷ []

abbrev file_of_twice : List ℕ
file_of_twice = 1 ∷ 0 ∷ 0 ∷ 0 ∷ 5 ∷ 1 ∷ twice

-- the machines before the first and after it
abbrev idle : Machine
idle = machine_of 1 0 [] []

abbrev writing : Machine
writing = machine_of 1 0 [] (thread_of (At.TryWriteOr true) Holds.Nothing ∷ [])

-- ── replay_held ──

-- what its contract allows
abbrev pub HeldAllowed : Lfts 1 → Machine → Bor (List ℕ) → Held Refusal → Type 0
HeldAllowed κs m s r = AllowsLent replay_held.Post κs (m & s & tt) r

pub replay_held_determined : (κs : Lfts 1) (m : Machine) (s : Bor (List ℕ)) (r q : Held Refusal)
    → HeldAllowed κs m s r
    → HeldAllowed κs m s q
    → shown_of r ≡ shown_of q
replay_held_determined κs m s r q = determined (shown_of r) (shown_of q)

abbrev held : ℕ → List ℕ → Held Refusal
held run rest = record { machine = writing; run = run; stop = Err InsideCall; rest = slice rest }

pub replay_held_counts_the_refused : (κs : Lfts 1) → HeldAllowed κs idle (slice twice) (held 2 (1 ∷ 0 ∷ [])) → ⊥
unfolding replay_of event_of access_of
replay_held_counts_the_refused κs = apart_by (λ r. r.0.run) refl

pub replay_held_rest_one_event_further : (κs : Lfts 1) → HeldAllowed κs idle (slice twice) (held 1 []) → ⊥
unfolding replay_of event_of access_of
replay_held_rest_one_event_further κs = apart_by (λ r. length r.1) refl

-- ── replay_file_held ──

abbrev pub FileHeldAllowed : Lfts 1 → Bor (List ℕ) → Held FileStop → Type 0
FileHeldAllowed κs s r = AllowsLent replay_file_held.Post κs (s & tt) r

pub replay_file_held_determined : (κs : Lfts 1) (s : Bor (List ℕ)) (r q : Held FileStop)
    → FileHeldAllowed κs s r
    → FileHeldAllowed κs s q
    → file_shown_of r ≡ file_shown_of q
replay_file_held_determined κs s r q = determined (file_shown_of r) (file_shown_of q)

abbrev file_held : ℕ → List ℕ → Held FileStop
file_held run rest =
    record { machine = writing; run = run; stop = Err (FileStops.Refused InsideCall); rest = slice rest }

pub replay_file_held_reports_none_run :
    (κs : Lfts 1) → FileHeldAllowed κs (slice file_of_twice) (file_held 0 (1 ∷ 0 ∷ [])) → ⊥
unfolding checked_of replay_of event_of access_of
replay_file_held_reports_none_run κs = apart_by (λ r. r.0.run) refl

pub replay_file_held_rest_is_the_file :
    (κs : Lfts 1) → FileHeldAllowed κs (slice file_of_twice) (file_held 1 file_of_twice) → ⊥
unfolding checked_of replay_of event_of access_of
replay_file_held_rest_is_the_file κs = apart_by (λ r. length r.1) refl
