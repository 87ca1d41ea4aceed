-- What a reply tells: two accepted replies that are one have the same answer, and wake the same thread.
-- Assumes nothing.
use Rattle.std.specs.Prelude.{◌≡◌, Option, None, Ok, Err}
use Rattle.std.proofs.Common.{ap}
use Rattle.word.specs.declared.number.ThreadNumber.{ThreadNumber}
use Rattle.state.specs.Answer.{Reply, accepted_with}
use Rattle.state.specs.declared.answer.Answer.{Answer}
use Rattle.state.specs.declared.answer.Answer.TheVariants.{Begun}

-- the answer; of a refusal, some answer
abbrev pub answer_in : Reply → Answer
answer_in (Ok told) = told.answer
answer_in (Err r) = Begun

abbrev woken_in : Reply → Option ThreadNumber
woken_in (Ok told) = told.woken
woken_in (Err r) = None

pub same_answer : {a b : Answer} {v w : Option ThreadNumber} → accepted_with a v ≡ accepted_with b w → a ≡ b
same_answer e = ap answer_in e

pub same_woken : {a b : Answer} {v w : Option ThreadNumber} → accepted_with a v ≡ accepted_with b w → v ≡ w
same_woken e = ap woken_in e
