-- What an event comes to, by what it looks at: a change, or a refusal. The refusals in document 01's order, those of
-- each level in one definition: every event's (8 for the count, 1, 2), a begin's (3, 4) and a step's (5, 6, 7, 8).
-- What it looks at stands in Look.antt, where the change is stored in Store.antt, each place's rule in Advance.antt.
-- Assumes nothing.
use Rattle.std.specs.Prelude.{ℕ, Bool, true, false, leb, Err, Ok, Result, Option, Some, None}
use Rattle.word.specs.Base.{pick}
use Rattle.word.specs.declared.number.ThreadNumber.{ThreadNumber}
use Rattle.state.specs.Answer.{Verdict}
use Rattle.state.specs.Access.{access_of}
use Rattle.state.specs.Machine.{good_count}
use Rattle.state.specs.View.{stays, Stepped}
use Rattle.state.specs.declared.answer.Answer.TheVariants.{Begun}
use Rattle.state.specs.declared.answer.Refusal.{Refusal}
use Rattle.state.specs.declared.answer.Refusal.TheVariants.{UnknownCode, NoThread, InsideCall, WrongHolding, Damaged}
use Rattle.state.specs.declared.machine.Thread.{Thread}
use Rattle.lock.specs.Advance.{advance_of}
use Rattle.lock.specs.Begin.{first_place, may_begin, is_idle}
use Rattle.lock.specs.Code.{code_of}
use Rattle.lock.specs.Look.{touched_slot, view_in}
use Rattle.lock.specs.Step.{halted_of}
use Rattle.lock.specs.declared.code.Call.{Call}
use Rattle.lock.specs.declared.code.Code.{Code}
use Rattle.lock.specs.declared.code.Code.TheVariants.{Begin, Step, Fail}
use Rattle.lock.specs.declared.look.Look.{Look}

abbrev pub unless_refused : Verdict → Stepped → Stepped
unless_refused (Err r) s = Err r
unless_refused (Ok _) s = s

-- ── a begin ──

-- 3 inside a call, then 4
unfoldable pub begin_verdict : Thread → Call → Verdict
begin_verdict t call =
    pick (is_idle t.place) (pick (may_begin call t.holding) (Ok tt) (Err WrongHolding)) (Err InsideCall)

-- nothing shared changes, and the thread stands at the call's first access
unfoldable pub begins_in : Look → Call → Stepped
begins_in look call =
    unless_refused (begin_verdict look.thread call)
    (stays (view_in look false) (record { place = first_place call; answer = Begun }))

-- ── a step ──

-- 8: the access would touch a node outside 1..count
abbrev pub touch_verdict : Option ℕ → Verdict → Verdict
touch_verdict slot (Err r) = Err r
touch_verdict None (Ok _) = Err Damaged
touch_verdict (Some _) (Ok _) = Ok tt

-- 5, 6, 7 by the kind of the access, then 8
unfoldable pub step_verdict : ℕ → ThreadNumber → Thread → Bool → Verdict
step_verdict count me t fails =
    touch_verdict (touched_slot count me t.place) (halted_of (access_of me t.place).kind t.token fails)

-- by the rule of the place, which may be 8
unfoldable pub steps_in : Look → Bool → Stepped
steps_in look fails =
    unless_refused (step_verdict look.count look.me look.thread fails)
    (advance_of (view_in look fails) look.thread.place)

-- ── an event ──

-- 1, then 2
abbrev pub thread_verdict : ℕ → ThreadNumber → Option Code → Result Code Refusal
thread_verdict count me None = Err UnknownCode
thread_verdict count me (Some code) = pick (leb count me.0) (Err NoThread) (Ok code)

-- 8 for the count, then 1, then 2; else what the code asks for
unfoldable pub event_verdict : ℕ → ThreadNumber → ℕ → Result Code Refusal
event_verdict count me code = pick (good_count count) (thread_verdict count me (code_of code)) (Err Damaged)

abbrev pub asked_in : Look → Result Code Refusal → Stepped
asked_in look (Err r) = Err r
asked_in look (Ok (Begin call)) = begins_in look call
asked_in look (Ok Step) = steps_in look false
asked_in look (Ok Fail) = steps_in look true

unfoldable pub decide_of : Look → ℕ → Stepped
decide_of look code = asked_in look (event_verdict look.count look.me code)
