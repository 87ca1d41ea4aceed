-- Wrong traces, each refuted by a computed counterexample to `prints_whole`, on the file of one thread and no events.
-- Not here: what is wrong of a print and so of a trace (crate print, WrongPrint.antt).
-- Assumes nothing.
use Rattle.std.specs.Prelude.{ℕ, List, [], ◌∷◌, ◌++◌, ◌≡◌, refl}
use Rattle.std.proofs.Common.{arith}
use Rattle.schedule.specs.File.{checked_of}
use Rattle.schedule.specs.Replay.{replay_of}
use Rattle.schedule.specs.Whole.{file_replay_of}
use Rattle.print.specs.Whole.{event_lines, file_lines}
use Rattle.print.specs.Statements.{Print}
use Rattle.traced.specs.Whole.{trace_line, thread_lines, trace_lines}
use Rattle.traced.specs.Statements.{TracesWhole}

abbrev empty : List ℕ
empty = 1 ∷ 0 ∷ 0 ∷ 0 ∷ 1 ∷ 1 ∷ []

-- no line for a thread
abbrev threads_left_out : Print
threads_left_out s = file_lines trace_line s

pub threads_left_out_refuted : TracesWhole threads_left_out → ⊥
unfolding checked_of replay_of event_lines
threads_left_out_refuted holds =
    let one : ◌≡◌ {A = ℕ} 1 2 = (holds.accepted empty (record { threads = 1; events = 0 }) refl).count in
    omega arith

-- the threads' lines twice
abbrev threads_twice : Print
threads_twice s = trace_lines s ++ thread_lines 1 (file_replay_of s).machine

pub threads_twice_refuted : TracesWhole threads_twice → ⊥
unfolding checked_of replay_of event_lines thread_lines
threads_twice_refuted holds =
    let three : ◌≡◌ {A = ℕ} 3 2 = (holds.accepted empty (record { threads = 1; events = 0 }) refl).count in
    omega arith
