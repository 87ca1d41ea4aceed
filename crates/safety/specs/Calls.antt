-- Demand 3, of calls: between a call's begin and its end its thread has exactly the one effect of that call; a call
-- that ended with no has none; a try never contends or sleeps. The statement alone; it is proved in EachCall.antt.
-- In this order: a log of one thread's calls, kept over a run; the work of each call; the statement.
-- Not here: what holds of the machines reached (Statements.antt).
-- Assumes nothing.
use Rattle.std.specs.Prelude.{ℕ, true, false, List, [], ◌∷◌, ◌++◌, ◌⊎◌, ◌≡◌, eqb, Err, Ok}
use Rattle.word.specs.Base.{pick}
use Rattle.word.specs.declared.number.ThreadNumber.{ThreadNumber}
use Rattle.state.specs.Answer.{Reply}
use Rattle.state.specs.Machine.{fresh_of}
use Rattle.state.specs.declared.answer.Answer.{Answer}
use Rattle.state.specs.declared.answer.Answer.TheVariants.{Begun, Went, Done, Yes, No}
use Rattle.state.specs.declared.machine.Machine.{Machine}
use Rattle.state.specs.declared.place.Place.{Place}
use Rattle.state.specs.declared.place.Place.TheVariants.{Idle}
use Rattle.lock.specs.Begin.{is_idle}
use Rattle.lock.specs.Code.{call_of}
use Rattle.lock.specs.Effect.{LockEffect, keeps, grants_read, grants_write, releases_read, releases_write, downgrades}
use Rattle.lock.specs.declared.code.Call.{Call}
use Rattle.lock.specs.declared.code.Call.TheVariants.{Read, Write, TryRead, TryWrite, ReadUnlock, WriteUnlock}
use Rattle.lock.specs.declared.code.Call.TheVariants.{Downgrade}
use Rattle.promises.specs.Program.{Program, place_of}
use Rattle.promises.specs.Shared.{tries, acquires}
use Rattle.safety.specs.Statements.{Event, after_by, effect_by, reached_by}

-- ── a log of one thread's calls ──

-- a call that ended: its answer, and what its thread did to the lock from its begin to its end, in the order done
pub record Ended : Type 0 where
  pub call : Call
  pub answer : Answer
  pub effects : List LockEffect

-- in no call, or inside one that has so far done these
pub data Now : Type 0 where
  resting : Now
  inside : Call → List LockEffect → Now

-- newest first
pub record Log : Type 0 where
  pub now : Now
  pub ended : List Ended

abbrev pub nothing_yet : Log
nothing_yet = record { now = resting; ended = [] }

abbrev pub also : List LockEffect → LockEffect → List LockEffect
also xs keeps = xs
also xs grants_read = xs ++ (grants_read ∷ [])
also xs grants_write = xs ++ (grants_write ∷ [])
also xs releases_read = xs ++ (releases_read ∷ [])
also xs releases_write = xs ++ (releases_write ∷ [])
also xs downgrades = xs ++ (downgrades ∷ [])

abbrev pub goes_on : Now → LockEffect → Now
goes_on resting x = resting
goes_on (inside c xs) x = inside c (also xs x)

abbrev pub closes : Now → Answer → LockEffect → List Ended → List Ended
closes resting a x l = l
closes (inside c xs) a x l = record { call = c; answer = a; effects = also xs x } ∷ l

-- begun opens a call; went adds what was done; done, yes and no close it; a refused event is none
abbrev pub noted_by : Answer → ℕ → LockEffect → Log → Log
noted_by Begun code x g = record { now = inside (call_of code) []; ended = g.ended }
noted_by Went code x g = record { now = goes_on g.now x; ended = g.ended }
noted_by Done code x g = record { now = resting; ended = closes g.now Done x g.ended }
noted_by Yes code x g = record { now = resting; ended = closes g.now Yes x g.ended }
noted_by No code x g = record { now = resting; ended = closes g.now No x g.ended }

abbrev pub noted : Reply → ℕ → LockEffect → Log → Log
noted (Err r) code x g = g
noted (Ok told) code x g = noted_by told.answer code x g

-- an event is noted in its own thread's log alone
abbrev pub logged : Program → ThreadNumber → Machine → Event → Log → Log
logged event t m e g =
    pick (eqb e.thread.0 t.0)
    (noted (event m e.code e.thread).reply e.code (effect_by event m e).lock g)
    g

unfoldable pub log_of : Program → ThreadNumber → Machine → List Event → Log → Log
log_of event t m [] g = g
log_of event t m (e ∷ es) g = log_of event t (after_by event m e) es (logged event t m e g)

-- ── the work of each call ──

-- of one that ended, by its answer
abbrev pub Work : Call → Answer → List LockEffect → Type 0
Work Read a xs = (a ≡ Done) × (xs ≡ grants_read ∷ [])
Work Write a xs = (a ≡ Done) × (xs ≡ grants_write ∷ [])
Work TryRead a xs = ((a ≡ Yes) × (xs ≡ grants_read ∷ [])) ⊎ ((a ≡ No) × (xs ≡ []))
Work TryWrite a xs = ((a ≡ Yes) × (xs ≡ grants_write ∷ [])) ⊎ ((a ≡ No) × (xs ≡ []))
Work ReadUnlock a xs = (a ≡ Done) × (xs ≡ releases_read ∷ [])
Work WriteUnlock a xs = (a ≡ Done) × (xs ≡ releases_write ∷ [])
Work Downgrade a xs = (a ≡ Done) × (xs ≡ downgrades ∷ [])

-- inside one: a call that asks for the lock has done nothing yet, so that its grant is at its end, and stands at a
-- place of read and write, or of a try, which neither contends nor sleeps; one that gives it up has done nothing yet,
-- or its work
abbrev pub SoFar : Call → List LockEffect → Place → Type 0
SoFar Read xs p = (xs ≡ []) × (acquires p ≡ true)
SoFar Write xs p = (xs ≡ []) × (acquires p ≡ true)
SoFar TryRead xs p = (xs ≡ []) × (tries p ≡ true)
SoFar TryWrite xs p = (xs ≡ []) × (tries p ≡ true)
SoFar ReadUnlock xs p = (xs ≡ []) ⊎ (xs ≡ releases_read ∷ [])
SoFar WriteUnlock xs p = (xs ≡ []) ⊎ (xs ≡ releases_write ∷ [])
SoFar Downgrade xs p = (xs ≡ []) ⊎ (xs ≡ downgrades ∷ [])

-- ── the statement ──

abbrev pub Each : List Ended → Type 0
Each [] = Unit {0}
Each (x ∷ l) = Work x.call x.answer x.effects × Each l

abbrev pub Inside : Now → Place → Type 0
Inside resting p = p ≡ Idle
Inside (inside c xs) p = (is_idle p ≡ false) × SoFar c xs p

-- every call that ended did its work, and so far the one that its thread is inside; it is inside none exactly if it is
-- idle
pub record WorkDone (g : Log) (p : Place) : Type 0 where
  pub ended : Each g.ended
  pub now : Inside g.now p

abbrev pub EachCallDoesItsWork : Program → Type 0
EachCallDoesItsWork event =
    (n : ℕ) (es : List Event) (t : ThreadNumber)
    → WorkDone (log_of event t (fresh_of n).machine es nothing_yet) (place_of (reached_by event n es) t)
