-- Document 01's lines as text: event, thread, answer, woken, word; then `end N` or `refused N`. Assumes nothing.
use Rattle.std.specs.Prelude.{ℕ, List, ◌++◌, Err, Ok, Option, Some, None}
use Rattle.word.specs.declared.flags.Word.{Word}
use Rattle.word.specs.declared.number.ThreadNumber.{ThreadNumber}
use Rattle.state.specs.Answer.{answer_word, refusal_number, Reply}
use Rattle.state.specs.declared.answer.Answer.{Answer}
use Rattle.schedule.specs.declared.cursor.Moved.{Moved}
use Rattle.schedule.specs.declared.cursor.Seen.{Seen}
use Rattle.print.specs.Text.{ascii, decimal}

-- the thread woken, or - where nobody is
abbrev pub woken_text : Option ThreadNumber → List ℕ
woken_text None = ascii "-"
woken_text (Some t) = decimal t.0

-- event, thread, answer, woken, word
abbrev pub event_text : ℕ → ThreadNumber → Answer → Option ThreadNumber → Word → List ℕ
event_text at thread answer woken word =
    decimal at ++ ascii " " ++ decimal thread.0 ++ ascii " " ++ answer_word answer ++ ascii " "
    ++ woken_text woken ++ ascii " " ++ decimal word.0

abbrev pub end_text : ℕ → List ℕ
end_text run = ascii "end " ++ decimal run

abbrev pub refused_text : ℕ → List ℕ
refused_text number = ascii "refused " ++ decimal number

-- a refused event prints its refusal in place of the end
abbrev pub replied_text : ℕ → ThreadNumber → Reply → Word → List ℕ
replied_text at thread (Ok told) word = event_text at thread told.answer told.woken word
replied_text at thread (Err refusal) word = refused_text (refusal_number refusal)

abbrev pub seen_text : ℕ → Option Seen → Word → List ℕ
seen_text at None word = end_text at
seen_text at (Some seen) word = replied_text at seen.thread seen.reply word

-- the line of one step of a cursor that stood at event `at`
abbrev pub step_text : ℕ → Moved → List ℕ
step_text at moved = seen_text at moved.seen moved.cursor.machine.word
