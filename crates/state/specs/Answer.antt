-- What an event comes to: its answer with the thread that it woke, or the refusal; document 01's number for each
-- refusal and its word for each answer.
-- Assumes nothing.
use Rattle.std.specs.Prelude.{ℕ, ◌-◌, List, ◌++◌, length, replicate, Option, Result, Ok, ⊤, codes}
use Rattle.word.specs.declared.number.ThreadNumber.{ThreadNumber}
use Rattle.state.specs.declared.answer.Accepted.{Accepted}
use Rattle.state.specs.declared.answer.Answer.{Answer}
use Rattle.state.specs.declared.answer.Answer.TheVariants.{Begun, Went, Done, Yes, No}
use Rattle.state.specs.declared.answer.Refusal.{Refusal}
use Rattle.state.specs.declared.answer.Refusal.TheVariants.{UnknownCode, NoThread, InsideCall, WrongHolding}
use Rattle.state.specs.declared.answer.Refusal.TheVariants.{NotInCall, NoToken, CannotFail, Damaged}
use Rattle.state.specs.declared.answer.Text.{Text}

abbrev pub Verdict : Type 0
Verdict = Result ⊤ Refusal

abbrev pub Reply : Type 0
Reply = Result Accepted Refusal

-- accepted, with this answer, and this thread woken
abbrev pub accepted_with : Answer → Option ThreadNumber → Reply
accepted_with a woken = Ok (record { answer = a; woken = woken })

abbrev pub refusal_number : Refusal → ℕ
refusal_number UnknownCode = 1
refusal_number NoThread = 2
refusal_number InsideCall = 3
refusal_number WrongHolding = 4
refusal_number NotInCall = 5
refusal_number NoToken = 6
refusal_number CannotFail = 7
refusal_number Damaged = 8

-- in ASCII
abbrev pub answer_word : Answer → List ℕ
answer_word Begun = codes "begun"
answer_word Went = codes "went"
answer_word Done = codes "done"
answer_word Yes = codes "yes"
answer_word No = codes "no"

-- the word, and zeros up to five bytes
abbrev pub answer_text : Answer → Text
answer_text a = record {
  bytes = answer_word a ++ replicate (5 - length (answer_word a)) 0;
  length = length (answer_word a);
}
