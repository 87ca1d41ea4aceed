-- What is said of a whole trace, over any function from a file's bytes to lines: as of the print (crate print,
-- Statements.antt), and a line for each thread after why the replay stopped.
-- Not here: the proof (Theorems.antt).
-- Assumes nothing.
use Rattle.std.specs.Prelude.{ℕ, ◌+◌, ◌<◌, List, [], Ok, ◌≡◌, length, drop, get_or}
use Rattle.word.specs.Number.{thread}
use Rattle.state.specs.Machine.{fresh_of}
use Rattle.state.specs.declared.machine.Machine.{Machine}
use Rattle.schedule.specs.File.{header_length, checked_of}
use Rattle.schedule.specs.Replay.{replay_of}
use Rattle.schedule.specs.declared.file.Head.{Head}
use Rattle.print.specs.Statements.{TellsRun, Print, RefusedAlone}
use Rattle.traced.specs.Thread.{thread_text}
use Rattle.traced.specs.Whole.{trace_line}

-- a run of events on a machine, told to its end, and then where it left each thread
pub record TellsAll (m : Machine) (s : List ℕ) (lines : List (List ℕ)) : Type 0 where
  pub events : TellsRun trace_line m s lines
  pub threads :
      (k : ℕ) → k < (replay_of m s).machine.count
      → get_or lines ((replay_of m s).run + 1 + k) [] ≡ thread_text (replay_of m s).machine (thread k)
  pub count : length lines ≡ (replay_of m s).run + 1 + (replay_of m s).machine.count

pub record TracesWhole (trace : Print) : Type 0 where
  pub refused : RefusedAlone trace
  pub accepted :
      (s : List ℕ) (head : Head) → checked_of s ≡ Ok head
      → TellsAll (fresh_of head.threads).machine (drop header_length s) (trace s)
