-- An event is look, decide, store: what it decides by what it looks at, stored there. `event_decides` says so of every
-- machine, code and thread number.
-- In this order: an index within the limit; a begin and a step of a thread that there is; an event.
-- The definitions stand in Look.antt, Decide.antt and Store.antt; the event's own rule in Event.antt, Begin.antt and
-- Step.antt.
-- Assumes nothing.
use Rattle.std.specs.Prelude.{ℕ, ◌≤◌, ◌<◌, Bool, ◌≡◌, leb, set, Err, Ok, Option, Some, None}
use Rattle.std.proofs.Math.Bool.{true, false}
use Rattle.std.proofs.Math.Path.{refl}
use Rattle.std.proofs.Common.{sym, ap, subst, ◌∙◌, arith, leb-false, lt-ltb}
use Rattle.std.proofs.lemmas.List.{set-get_or}
use Rattle.word.specs.Base.{pick}
use Rattle.word.specs.Number.{slot_of}
use Rattle.word.specs.declared.number.NodeNumber.{NodeNumber}
use Rattle.word.specs.declared.number.ThreadNumber.{ThreadNumber}
use Rattle.state.specs.Answer.{Verdict, accepted_with}
use Rattle.state.specs.Access.{access_of, touched_of}
use Rattle.state.specs.Machine.{thread_limit, good_count, thread_at, node_at, refused_of}
use Rattle.state.specs.Node.{blank_node}
use Rattle.state.specs.View.{stays, Stepped}
use Rattle.state.specs.declared.answer.Answer.TheVariants.{Begun}
use Rattle.state.specs.declared.answer.Refusal.TheVariants.{NoThread, InsideCall, WrongHolding, Damaged}
use Rattle.state.specs.declared.machine.Machine.{Machine}
use Rattle.state.specs.declared.machine.Outcome.{Outcome}
use Rattle.state.specs.declared.machine.Thread.{Thread}
use Rattle.state.specs.declared.view.Mark.{Mark}
use Rattle.state.specs.declared.view.Mark.TheVariants.{Writer, Reader}
use Rattle.state.specs.declared.view.View.{View}
use Rattle.lock.specs.Advance.{advance_of}
use Rattle.lock.specs.Begin.{first_place, may_begin, is_idle, placed_of, began_of, begin_of}
use Rattle.lock.specs.Code.{code_of}
use Rattle.lock.specs.Decide.{unless_refused, begin_verdict, begins_in, touch_verdict, step_verdict, steps_in}
use Rattle.lock.specs.Decide.{thread_verdict, event_verdict, asked_in, decide_of}
use Rattle.lock.specs.Event.{event_by, event_of}
use Rattle.lock.specs.Landed.{landed_of}
use Rattle.lock.specs.Laws.{slot_at, good_count_lem}
use Rattle.lock.specs.Look.{bounded_of, slot_index, thread_index, touched_slot, touched_index, tail_slot, tail_index}
use Rattle.lock.specs.Look.{mark_in, look_from, look_at, look_of, view_in}
use Rattle.lock.specs.Step.{halted_of, marked_of, mark_by, mark_of, touching_by, step_by, step_of}
use Rattle.lock.specs.Store.{landed_in}
use Rattle.lock.specs.declared.code.Call.{Call}
use Rattle.lock.specs.declared.code.Code.{Code}
use Rattle.lock.specs.declared.code.Code.TheVariants.{Begin, Step, Fail}
use Rattle.lock.specs.declared.look.Look.{Look}

-- ── an index within the limit ──

bounded_is : (i : ℕ) → i < thread_limit → bounded_of i ≡ i
bounded_is i h = ap (λ (b : Bool). pick b i 0) (lt-ltb i thread_limit h)

-- where a slot lies
slot_bounded : (n : NodeNumber) (count k : ℕ) → count ≤ thread_limit → slot_of n count ≡ Some k → bounded_of k ≡ k
slot_bounded n count k few e = bounded_is k (omega (arith, (slot_at n count k e).1))

-- ── a thread that there is, on a machine whose count is good ──

-- what is decided by the thread whose record lies at i, stored there
abbrev decided_at : Machine → ThreadNumber → ℕ → (Look → Stepped) → Outcome
decided_at m me i decides =
    landed_of m i (touched_index m.count me (thread_at m i)) (decides (look_at m me (thread_at m i)))

begin_decides : (m : Machine) (me : ThreadNumber) (call : Call)
    → begin_of m me.0 call ≡ decided_at m me me.0 (λ look. begins_in look call)
unfolding begins_in begin_verdict look_from
begin_decides m me call = by (is_idle t.place) (may_begin call t.holding)
  where
    t : Thread
    t = thread_at m me.0

    k : ℕ
    k = touched_index m.count me (thread_at m me.0)

    -- the node read is stored again
    began : began_of m me.0 call
        ≡ landed_of m me.0 k
        (stays (view_in (look_at m me t) false) (record { place = first_place call; answer = Begun }))
    began = ap
        (λ ns. record {
          machine = record {
            count = m.count;
            word = m.word;
            nodes = ns;
            threads = set m.threads me.0 (placed_of t (first_place call));
          };
          reply = accepted_with Begun None;
        })
        (sym (set-get_or m.nodes k blank_node))

    by : (idle may : Bool)
        → pick idle (pick may (began_of m me.0 call) (refused_of m WrongHolding)) (refused_of m InsideCall)
        ≡ landed_of m me.0 k
        (unless_refused (pick idle (pick may (Ok tt) (Err WrongHolding)) (Err InsideCall))
        (stays (view_in (look_at m me t) false) (record { place = first_place call; answer = Begun })))
    by true true = began
    by true false = refl
    by false may = refl

-- the mark read at the tail's index is the machine's
mark_read_lem : (m : Machine) (tail : NodeNumber) → m.count ≤ thread_limit
    → mark_of m tail ≡ mark_in (slot_of tail m.count) (node_at m (slot_index (slot_of tail m.count))).writer
mark_read_lem m tail few = by (slot_of tail m.count) refl
  where
    by : (z : Option ℕ) → slot_of tail m.count ≡ z → mark_by m z ≡ mark_in z (node_at m (slot_index z)).writer
    by None e = refl
    by (Some k) e =
        ap (λ (x : ℕ). pick (node_at m x).writer Writer Reader) (sym (slot_bounded tail m.count k few e))

-- what a step may see: node k, and the mark found
abbrev view_with : Machine → ThreadNumber → Bool → ℕ → Mark → View
view_with m me fails k mark =
    record {
      me = me;
      word = m.word;
      node = node_at m k;
      mark = mark;
      token = (thread_at m me.0).token;
      holding = (thread_at m me.0).holding;
      fails = fails;
    }

step_decides : (m : Machine) (me : ThreadNumber) (fails : Bool) → m.count ≤ thread_limit
    → step_of m me fails ≡ decided_at m me me.0 (λ look. steps_in look fails)
unfolding step_of steps_in step_verdict look_from touched_index tail_index
step_decides m me fails few = by (halted_of (access_of me t.place).kind t.token fails)
  where
    t : Thread
    t = thread_at m me.0

    mark : Mark
    mark = mark_in (tail_slot m.count t) (node_at m (slot_index (tail_slot m.count t))).writer

    steps : ℕ → Mark → Stepped
    steps k found = advance_of (view_with m me fails k found) t.place

    touches : (z : Option ℕ) → touched_slot m.count me t.place ≡ z
        → touching_by m me fails t.place z
        ≡ landed_of m me.0 (slot_index z) (unless_refused (touch_verdict z (Ok tt)) (steps (slot_index z) mark))
    touches None e = refl
    touches (Some k) e =
        ap (λ (x : Mark). landed_of m me.0 k (steps k x)) (mark_read_lem m (marked_of t.place) few)
        ∙ ap (λ (x : ℕ). landed_of m me.0 x (steps x mark))
        (sym (slot_bounded (touched_of (access_of me t.place) me) m.count k few e))

    by : (v : Verdict)
        → step_by m me fails t.place v
        ≡ landed_of m me.0 (slot_index (touched_slot m.count me t.place))
        (unless_refused (touch_verdict (touched_slot m.count me t.place) v)
        (steps (slot_index (touched_slot m.count me t.place)) mark))
    by (Err r) = refl
    by (Ok _) = touches (touched_slot m.count me t.place) refl

-- ── an event ──

module _ (m : Machine) (me : ThreadNumber) where
  -- refusal 2, and else what is decided where the thread's record lies
  there : (o : Outcome) (code : Code) → m.count ≤ thread_limit
      → o ≡ decided_at m me me.0 (λ look. asked_in look (Ok code))
      → pick (leb m.count me.0) (refused_of m NoThread) o
      ≡ decided_at m me (thread_index me)
      (λ look. asked_in look (pick (leb m.count me.0) (Err NoThread) (Ok code)))
  there o code few decided = by (leb m.count me.0) refl
    where
      by : (b : Bool) → leb m.count me.0 ≡ b
          → pick b (refused_of m NoThread) o
          ≡ decided_at m me (thread_index me) (λ look. asked_in look (pick b (Err NoThread) (Ok code)))
      by true e = refl
      by false e =
          subst (λ (i : ℕ). o ≡ decided_at m me i (λ look. asked_in look (Ok code)))
          (sym (bounded_is me.0 (omega (arith, leb-false m.count me.0 e))))
          decided

  coded : m.count ≤ thread_limit → (code : Option Code)
      → event_by m code me
      ≡ decided_at m me (thread_index me) (λ look. asked_in look (thread_verdict m.count me code))
  coded few None = refl
  coded few (Some (Begin call)) = there _ (Begin call) few (begin_decides m me call)
  coded few (Some Step) = there _ Step few (step_decides m me false few)
  coded few (Some Fail) = there _ Fail few (step_decides m me true few)

  pub event_decides : (code : ℕ) → event_of m code me ≡ landed_in m (look_of m me) (decide_of (look_of m me) code)
  unfolding event_of decide_of landed_in look_of look_from event_verdict
  event_decides code = by (good_count m.count) refl
    where
      by : (b : Bool) → good_count m.count ≡ b
          → pick b (event_by m (code_of code) me) (refused_of m Damaged)
          ≡ landed_in m (look_of m me) (decide_of (look_of m me) code)
      by true good = rw good (coded (good_count_lem m.count good).1 (code_of code))
      by false bad = rw bad
