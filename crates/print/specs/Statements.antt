-- What is said of a whole print, over any function from a file's bytes to lines, so that a wrong print is a definition
-- that breaks it (WrongPrint.antt). By the replay's own numbers and states, not by the print's definition.
-- In order: the lines of a run of events; document 01's print of a file.
-- Not here: the proofs (Theorems.antt); the trace, with its lines for the threads (crate traced).
-- Assumes nothing.
use Rattle.std.specs.Prelude.{ℕ, suc, ◌+◌, ◌<◌, List, [], ◌∷◌, Ok, Err, ◌≡◌, length, drop, get_or}
use Rattle.state.specs.Machine.{fresh_of}
use Rattle.state.specs.declared.machine.Machine.{Machine}
use Rattle.schedule.specs.File.{header_length, file_number, checked_of}
use Rattle.schedule.specs.Replay.{thread_at, replay_of}
use Rattle.schedule.specs.Whole.{file_stop_of, file_replay_of}
use Rattle.schedule.specs.Statements.{state_at, Accepts}
use Rattle.schedule.specs.declared.file.FileRefusal.{FileRefusal}
use Rattle.schedule.specs.declared.file.Head.{Head}
use Rattle.print.specs.Replayed.{refused_text}
use Rattle.print.specs.Whole.{stop_text, EventLine, print_line}

-- ── a run of events ──

module _ (line : EventLine) (m : Machine) (s : List ℕ) (lines : List (List ℕ)) where
  -- event k was accepted, and line k tells of it: its answer, who was woken, and the machine after it
  pub record TellsEvent (k : ℕ) : Type 0 where
    pub accepted : Accepts m s k
    pub told : get_or lines k [] ≡ line k (thread_at s k) accepted.answer accepted.woken (state_at m s (suc k))

  -- a line for each event that runs, in order; then why the replay stopped
  pub record TellsRun : Type 0 where
    pub events : (k : ℕ) → k < (replay_of m s).run → TellsEvent k
    pub stop : get_or lines (replay_of m s).run [] ≡ stop_text (replay_of m s).run (file_stop_of (replay_of m s).stop)

-- ── a file ──

abbrev pub Print : Type 0
Print = List ℕ → List (List ℕ)

-- a refused file's one line
abbrev pub RefusedAlone : Print → Type 0
RefusedAlone print =
    (s : List ℕ) (refusal : FileRefusal) → checked_of s ≡ Err refusal
    → print s ≡ refused_text (file_number refusal) ∷ []

-- document 01's print: one line more than events that run, and none besides
pub record PrintsWhole (print : Print) : Type 0 where
  pub refused : RefusedAlone print
  pub accepted :
      (s : List ℕ) (head : Head) → checked_of s ≡ Ok head
      → TellsRun print_line (fresh_of head.threads).machine (drop header_length s) (print s)
  pub count : (s : List ℕ) → length (print s) ≡ (file_replay_of s).run + 1
