-- Wrong prints, each refuted by a computed counterexample to `prints_whole`.
-- In order: the files; prints that are wrong at a refused event, at an event that runs, at a refused file.
-- Not here: the statement (Statements.antt), and that the right print satisfies it (Theorems.antt).
-- Assumes nothing.
use Rattle.std.specs.Prelude.{ℕ, ◌+◌, List, [], ◌∷◌, ◌++◌, ◌≡◌, refl, eqb, take, drop, get_or, Err, Ok}
use Rattle.std.proofs.lemmas.Bool.{false≢true}
use Rattle.std.proofs.Common.{ap, arith}
use Rattle.word.specs.Number.{thread}
use Rattle.word.specs.declared.number.ThreadNumber.{ThreadNumber}
use Rattle.state.specs.Answer.{Reply}
use Rattle.state.specs.Access.{access_of}
use Rattle.state.specs.Machine.{fresh_of}
use Rattle.state.specs.declared.machine.Machine.{Machine}
use Rattle.lock.specs.Event.{event_of}
use Rattle.schedule.specs.File.{header_length, threads_in, checked_of}
use Rattle.schedule.specs.Replay.{replay_of}
use Rattle.schedule.specs.Statements.{state_at}
use Rattle.schedule.specs.Whole.{file_replay_of}
use Rattle.schedule.specs.declared.file.FileRefusal.TheVariants.{TooShort}
use Rattle.schedule.specs.declared.file.Head.{Head}
use Rattle.schedule.specs.declared.whole.FileStop.TheVariants as Stop
use Rattle.print.specs.Text.{decimal_by}
use Rattle.print.specs.Replayed.{end_text}
use Rattle.print.specs.Whole.{stop_text, event_lines, file_lines, print_line, print_lines}
use Rattle.print.specs.Statements.{Print, PrintsWhole}

-- ── the files ──

-- one thread begins try_write, and then again inside that call: refused 3
abbrev again : List ℕ
again = 1 ∷ 0 ∷ 0 ∷ 0 ∷ 5 ∷ 1 ∷ 3 ∷ 0 ∷ 3 ∷ 0 ∷ []

abbrev head : Head
head = record { threads = 1; events = 2 }

-- fewer than six bytes
abbrev short : List ℕ
short = []

abbrev run : List ℕ → ℕ
run s = (file_replay_of s).run

-- ── a refused event ──

-- `end N` also after a refusal
abbrev ends_besides : Print
ends_besides s = print_lines s ++ end_text (run s) ∷ []

pub ends_besides_refuted : PrintsWhole ends_besides → ⊥
unfolding checked_of replay_of event_lines event_of access_of
ends_besides_refuted holds = let three : ◌≡◌ {A = ℕ} 3 2 = holds.count again in omega arith

-- nothing where an event is refused
abbrev leaves_out : Print
leaves_out s = take (run s) (print_lines s)

pub leaves_out_refuted : PrintsWhole leaves_out → ⊥
unfolding checked_of replay_of event_lines event_of access_of
leaves_out_refuted holds = let one : ◌≡◌ {A = ℕ} 1 2 = holds.count again in omega arith

-- `end N` in place of the refusal
abbrev ends_instead : Print
ends_instead s = take (run s) (print_lines s) ++ end_text (run s) ∷ []

pub ends_instead_refuted : PrintsWhole ends_instead → ⊥
unfolding checked_of replay_of event_lines event_of access_of decimal_by
ends_instead_refuted holds =
    false≢true (ap (λ (text : List ℕ). eqb (get_or text 0 0) 114) (holds.accepted again head refl).stop)

-- the refusal, and then the later events all the same
abbrev on_by : ℕ → ThreadNumber → Reply → Machine → List (List ℕ) → List (List ℕ)
on_by at t (Ok told) m later = print_line at t told.answer told.woken m ∷ later
on_by at t (Err refusal) m later = stop_text at (Err (Stop.Refused refusal)) ∷ later

abbrev on_lines : ℕ → Machine → List ℕ → List (List ℕ)
on_lines at m [] = end_text at ∷ []
on_lines at m (odd ∷ []) = end_text at ∷ []
on_lines at m (code ∷ t ∷ s) =
    let o = event_of m code (thread t) in
    on_by at (thread t) o.reply o.machine (on_lines (at + 1) o.machine s)

abbrev goes_on : Print
goes_on s = on_lines 0 (fresh_of (threads_in s)).machine (drop header_length s)

pub goes_on_refuted : PrintsWhole goes_on → ⊥
unfolding checked_of replay_of event_of access_of
goes_on_refuted holds = let three : ◌≡◌ {A = ℕ} 3 2 = holds.count again in omega arith

-- ── an event that runs ──

-- events numbered from 1
abbrev from_one : Print
from_one s = file_lines (λ at t answer woken m. print_line (at + 1) t answer woken m) s

pub from_one_refuted : PrintsWhole from_one → ⊥
unfolding checked_of replay_of state_at event_lines event_of access_of decimal_by
from_one_refuted holds =
    false≢true
    (ap (λ (text : List ℕ). eqb (get_or text 0 0) 48) ((holds.accepted again head refl).events 0 (omega arith)).told)

-- ── a refused file ──

-- it runs all the same
abbrev runs_refused : Print
runs_refused s = event_lines print_line 0 (fresh_of (threads_in s)).machine (drop header_length s)

pub runs_refused_refuted : PrintsWhole runs_refused → ⊥
unfolding checked_of event_lines decimal_by
runs_refused_refuted holds =
    false≢true
    (ap (λ (lines : List (List ℕ)). eqb (get_or (get_or lines 0 []) 0 0) 114) (holds.refused short TooShort refl))
