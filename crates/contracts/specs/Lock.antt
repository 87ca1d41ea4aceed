-- The contracts of crate lock: each public function's result is determined, and wrong answers that its contract rules
-- out. Codes; what an event looks at, and what it decides by that; one event. What every event keeps to, on every
-- machine, is crate promises' subject.
-- Assumes nothing.
use Rattle.std.specs.Prelude.{ℕ, true, refl, [], ◌∷◌, Err, Some, Option, None}
use Rattle.std.proofs.lemmas.Bool.{false≢true}
use Rattle.word.specs.Flags.{word}
use Rattle.word.specs.Number.{node, none, thread}
use Rattle.word.specs.declared.number.ThreadNumber.{ThreadNumber}
use Rattle.state.specs.Answer.{accepted_with}
use Rattle.state.specs.Replies.{answer_in}
use Rattle.state.specs.Access.{access_of}
use Rattle.state.specs.Machine.{blank_thread, thread_at, node_at, refused_of}
use Rattle.state.specs.Node.{blank_node, filled_of, with_completed}
use Rattle.state.specs.declared.answer.Answer.{Answer}
use Rattle.state.specs.declared.answer.Answer.TheVariants.{Begun, Done, Went}
use Rattle.state.specs.declared.answer.Refusal.TheVariants.{NoThread, NotInCall, UnknownCode}
use Rattle.state.specs.declared.holding.Holding.{Holding}
use Rattle.state.specs.declared.holding.Holding.TheVariants as Holds
use Rattle.state.specs.declared.machine.Machine.{Machine}
use Rattle.state.specs.declared.machine.Outcome.{Outcome}
use Rattle.state.specs.declared.machine.Thread.{Thread}
use Rattle.state.specs.declared.node.Node.{Node}
use Rattle.state.specs.declared.place.Place.{Place}
use Rattle.state.specs.declared.place.Place.TheVariants as At
use Rattle.state.specs.declared.place.Walk.TheVariants.{Queue}
use Rattle.state.specs.declared.place.Who.TheVariants.{Waiter, Leaver}
use Rattle.state.specs.declared.view.Mark.TheVariants.{Missing}
use Rattle.lock.specs.Advance.{advance_of}
use Rattle.lock.specs.Decide.{event_verdict, decide_of}
use Rattle.lock.specs.Event.{event_of}
use Rattle.lock.specs.Look.{touched_index, tail_index, look_from, look_of}
use Rattle.lock.specs.Step.{marked_of, step_of}
use Rattle.lock.specs.declared.code.Call.TheVariants as Calls
use Rattle.lock.specs.declared.code.Code.TheVariants as Codes
use Rattle.lock.specs.declared.look.Look.{Look}
use Rattle.lock.proofs.code.code_of.Reads as code_of
use Rattle.lock.proofs.decide.decide.Reads as decide
use Rattle.lock.proofs.event.event.Reads as event
use Rattle.lock.proofs.look.look_at.Reads as look_at
use Rattle.contracts.specs.Allowed.{Determined, ◌&◌, Allows, apart_by, apart_in, clash, determined}
use Rattle.contracts.specs.Examples.{machine_of, thread_of}

-- ── codes ──

pub code_of_determined : (code : ℕ) → Determined (Allows code_of.Post (code & tt))
code_of_determined code = determined

pub code_of_seven_begins : Allows code_of.Post (7 & tt) (Some (Codes.Begin Calls.Downgrade)) → ⊥
code_of_seven_begins e = clash (cc)

pub code_of_sixteen_fails : Allows code_of.Post (16 & tt) (Some Codes.Fail) → ⊥
code_of_sixteen_fails e = clash (cc)

pub code_of_four_and_five_swapped : Allows code_of.Post (4 & tt) (Some (Codes.Begin Calls.WriteUnlock)) → ⊥
code_of_four_and_five_swapped e = clash (cc)

-- ── look, decide ──

pub look_at_determined : (m : Machine) (me : ThreadNumber) → Determined (Allows look_at.Post (m & me & tt))
look_at_determined m me = determined

abbrev walking : Thread
walking = thread_of (At.WalkTail (Queue Leaver) (word 18) (node 1)) Holds.Nothing

-- thread 1 stands at the load of node 1's tail; node 1 is a writer's
abbrev walker : Machine
walker = machine_of 2 18 (filled_of (thread 0) true (word 1) ∷ []) (blank_thread ∷ walking ∷ [])

abbrev looking : Thread → Node → Look
looking t n = record { count = 2; word = word 18; me = thread 1; thread = t; node = n; mark = Missing }

pub look_at_another_thread :
    Allows look_at.Post (walker & thread 1 & tt) (looking blank_thread (node_at walker 0)) → ⊥
unfolding look_of look_from touched_index tail_index access_of marked_of
look_at_another_thread = apart_in (λ l. l.thread.place) (λ e. clash (cc))

pub look_at_the_own_node :
    Allows look_at.Post (walker & thread 1 & tt) (looking (thread_at walker 1) (node_at walker 1)) → ⊥
unfolding look_of look_from touched_index tail_index access_of marked_of
look_at_the_own_node = apart_in (λ l. l.node.writer) false≢true

pub decide_determined : (look : Look) (code : ℕ) → Determined (Allows decide.Post (look & code & tt))
decide_determined look code = determined

-- a thread that is not there, of so many threads
abbrev absent : ℕ → Look
absent count =
    record {
      count = count;
      word = word 0;
      me = thread 9;
      thread = blank_thread;
      node = blank_node;
      mark = Missing;
    }

pub decide_asks_for_the_thread_before_the_code :
    Allows decide.Post (absent 1 & 7 & tt) (Err NoThread) → ⊥
unfolding decide_of event_verdict
decide_asks_for_the_thread_before_the_code e = clash (cc)

pub decide_asks_for_the_code_before_the_count :
    Allows decide.Post (absent 0 & 7 & tt) (Err UnknownCode) → ⊥
unfolding decide_of event_verdict
decide_asks_for_the_code_before_the_count e = clash (cc)

-- ── one event ──

pub event_determined : (m : Machine) (code : ℕ) (me : ThreadNumber)
    → Determined (Allows event.Post (m & code & me & tt))
event_determined m code me = determined

-- thread 0 alone, idle
abbrev alone : Machine
alone = machine_of 1 0 [] []

-- it stands at that place, and the word is that
abbrev standing : ℕ → Place → Holding → Machine
standing w p h = machine_of 1 w [] (thread_of p h ∷ [])

abbrev accepted : Answer → Option ThreadNumber → Machine → Outcome
accepted answer woken m = record { machine = m; reply = accepted_with answer woken }

pub event_refuses_everything : Allows event.Post (alone & 0 & thread 0 & tt) (refused_of alone UnknownCode) → ⊥
unfolding event_of access_of
event_refuses_everything = apart_in (λ o. o.reply) (λ e. clash (cc))

pub event_never_moves : Allows event.Post (alone & 0 & thread 0 & tt) (accepted Begun None alone) → ⊥
unfolding event_of access_of
event_never_moves = apart_in (λ o. (thread_at o.machine 0).place) (λ e. clash (cc))

pub event_try_write_blocks :
    Allows event.Post (alone & 3 & thread 0 & tt)
    (accepted Begun None (standing 0 (At.TryWriteOr true) Holds.Nothing)) → ⊥
unfolding event_of access_of
event_try_write_blocks = apart_in (λ o. (thread_at o.machine 0).place) (λ e. clash (cc))

pub event_finishes_at_the_first_step :
    Allows event.Post (standing 0 (At.TryReadLoad true) Holds.Nothing & 16 & thread 0 & tt)
    (accepted Done None (standing 17 At.Idle Holds.Read)) → ⊥
unfolding event_of step_of advance_of access_of marked_of
event_finishes_at_the_first_step = apart_in (λ o. answer_in o.reply) (λ e. clash (cc))

pub event_fails_a_strong_compare :
    Allows event.Post (standing 1 At.WriteUnlockCas Holds.Write & 17 & thread 0 & tt)
    (accepted Went None (standing 1 (At.ReleaseCas (word 1)) Holds.Write)) → ⊥
unfolding event_of step_of advance_of access_of marked_of
event_fails_a_strong_compare = apart_in (λ o. o.reply) (λ e. clash (cc))

pub event_sleeps_without_a_token :
    Allows event.Post (standing 18 (At.Park true) Holds.Nothing & 16 & thread 0 & tt)
    (accepted Went None (standing 18 (At.CompletedLoad true) Holds.Nothing)) → ⊥
unfolding event_of step_of advance_of access_of marked_of
event_sleeps_without_a_token = apart_in (λ o. o.reply) (λ e. clash (cc))

pub event_asks_for_the_thread_first :
    Allows event.Post (alone & 7 & thread 9 & tt) (refused_of alone NoThread) → ⊥
unfolding event_of
event_asks_for_the_thread_first = apart_in (λ o. o.reply) (λ e. clash (cc))

pub event_refused_changes_the_word :
    Allows event.Post (alone & 16 & thread 0 & tt) (refused_of (machine_of 1 1 [] []) NotInCall) → ⊥
unfolding event_of step_of advance_of access_of marked_of
event_refused_changes_the_word = apart_by (λ o. o.machine.word.0) refl

-- a thread that completes its own node wakes itself
pub event_loses_the_token_of_a_self_wake :
    Allows event.Post (standing 0 (At.WakeStore (Waiter true) (node 1) none) Holds.Nothing & 16 & thread 0 & tt)
    (accepted Went (Some (thread 0))
    (machine_of 1 0 (with_completed blank_node ∷ []) (thread_of (At.CompletedLoad true) Holds.Nothing ∷ []))) → ⊥
unfolding event_of step_of advance_of access_of marked_of
event_loses_the_token_of_a_self_wake = apart_in (λ o. (thread_at o.machine 0).token) false≢true
