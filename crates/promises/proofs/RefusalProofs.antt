-- The refusal table holds: an event gives the number of the table's first row whose condition holds,
-- and a refused event changes nothing.
-- Assumes nothing.
use Rattle.std.specs.Prelude.{ℕ, zero, suc, ◌≤◌, ◌<◌, ◌+◌, Bool, true, false, not, [], ◌∷◌, ◌↔◌, ◌≡◌, refl, leb, ltb}
use Rattle.std.specs.Prelude.{Option, Some, None}
use Rattle.std.specs.Prelude.{eqb, Err, Ok}
use Rattle.std.proofs.Common.{sym, ap, ◌∙◌, arith, leb-true, leb-false, eqb-true}
use Rattle.word.specs.Base.{pick}
use Rattle.word.specs.declared.number.ThreadNumber.{ThreadNumber}
use Rattle.state.specs.View.{Stepped}
use Rattle.state.specs.Access.{access_of}
use Rattle.state.specs.Answer.{refusal_number, Reply, Verdict, accepted_with}
use Rattle.state.specs.Holding.{reads_of, writes_of}
use Rattle.state.specs.Machine.{good_count, thread_at, refused_of}
use Rattle.state.specs.declared.answer.Answer.{Answer}
use Rattle.state.specs.declared.answer.Refusal.{Refusal}
use Rattle.state.specs.declared.answer.Refusal.TheVariants.{UnknownCode, NoThread, InsideCall, WrongHolding}
use Rattle.state.specs.declared.answer.Refusal.TheVariants.{NotInCall, NoToken, CannotFail, Damaged}
use Rattle.state.specs.declared.holding.Holding.{Holding}
use Rattle.state.specs.declared.holding.Holding.TheVariants.{Nothing, Read, Write}
use Rattle.state.specs.declared.machine.Machine.{Machine}
use Rattle.state.specs.declared.machine.Outcome.{Outcome}
use Rattle.state.specs.declared.place.Place.{Place}
use Rattle.state.specs.declared.place.Place.TheVariants as At
use Rattle.lock.specs.Begin.{holds_nothing, may_begin, is_idle, begin_of}
use Rattle.lock.specs.Code.{call_of, code_of}
use Rattle.lock.specs.Event.{stepped_of, event_by, event_of}
use Rattle.lock.specs.Landed.{landed_of}
use Rattle.lock.specs.Step.{touching_by, step_by, step_of}
use Rattle.lock.specs.declared.code.Code.{Code}
use Rattle.lock.specs.declared.code.Code.TheVariants.{Begin, Step, Fail}
use Rattle.promises.specs.Refusals.{number_given, row, first_of, idle, wrong_holding, step_rows, refusal_rows}
use Rattle.promises.specs.RefusalFirst.{First, NoneGiven, first_exactly, none_exactly}
use Rattle.promises.proofs.RefusalSteps.{step_table}

-- ── a test and its row ──

-- a test that refuses, and the row of that refusal, before the rest
row_when : (n later : ℕ) (b : Bool) (refusal rest : Outcome)
    → number_given refusal.reply ≡ n
    → (b ≡ false → number_given rest.reply ≡ later)
    → number_given (pick b refusal rest).reply ≡ pick b n later
row_when n later true refusal rest p q = p
row_when n later false refusal rest p q = q refl

-- a test that lets the rest go on: the row's condition is its contrary
row_unless : (n later : ℕ) (b condition : Bool) (rest refusal : Outcome)
    → condition ≡ not b
    → number_given refusal.reply ≡ n
    → (b ≡ true → number_given rest.reply ≡ later)
    → number_given (pick b rest refusal).reply ≡ pick condition n later
row_unless n later true condition rest refusal e p q = rw e (q refl)
row_unless n later false condition rest refusal e p q = rw e p

-- ── begin ──

-- the access's kind does not depend on the thread, so either test of idleness is the other
same_idle : (t : ThreadNumber) (p : Place) → is_idle p ≡ idle (access_of t p).kind
unfolding access_of
same_idle t At.Idle = refl
same_idle t (At.TryReadLoad _) = refl
same_idle t (At.TryReadCas _ _) = refl
same_idle t (At.TryWriteOr _) = refl
same_idle t (At.ContendLoad _ _) = refl
same_idle t (At.ContendCas _ _ _) = refl
same_idle t (At.RegisterCas _ _ _) = refl
same_idle t (At.CompletedLoad _) = refl
same_idle t (At.Park _) = refl
same_idle t (At.WalkTail _ _ _) = refl
same_idle t (At.WalkNext _ _ _) = refl
same_idle t (At.WalkPrev _ _ _ _) = refl
same_idle t (At.WalkHead _ _ _) = refl
same_idle t (At.QueueCas _ _) = refl
same_idle t (At.SplitPrev _ _ _) = refl
same_idle t (At.SplitStore _ _ _ _) = refl
same_idle t (At.SplitCas _ _ _) = refl
same_idle t (At.SplitRestore _ _ _ _) = refl
same_idle t (At.TakeCas _ _ _) = refl
same_idle t (At.WakePrev _ _) = refl
same_idle t (At.WakeStore _ _ _) = refl
same_idle t At.ReadUnlockLoad = refl
same_idle t (At.ReadUnlockCas _) = refl
same_idle t (At.Subtract _ _) = refl
same_idle t At.WriteUnlockCas = refl
same_idle t (At.ReleaseCas _) = refl
same_idle t At.DowngradeCas = refl
same_idle t (At.DowngradeSlowCas _) = refl

-- what is held, as document 01 asks for it and as beginning tests it
held : (h : Holding)
    → (ltb 0 (reads_of h + writes_of h) ≡ not (holds_nothing h))
    × (eqb (reads_of h) 0 ≡ not (ltb 0 (reads_of h)))
    × (eqb (writes_of h) 0 ≡ not (ltb 0 (writes_of h)))
held Nothing = (refl, refl, refl)
held Read = (refl, refl, refl)
held Write = (refl, refl, refl)

-- the holding is wrong exactly where the call may not begin
wrong_holding_lem : (code : ℕ) (h : Holding) → code ≤ 6 → wrong_holding code h ≡ not (may_begin (call_of code) h)
wrong_holding_lem zero h b = (held h).0
wrong_holding_lem (suc zero) h b = (held h).0
wrong_holding_lem (suc (suc zero)) h b = (held h).0
wrong_holding_lem (suc (suc (suc zero))) h b = (held h).0
wrong_holding_lem (suc (suc (suc (suc zero)))) h b = (held h).1
wrong_holding_lem (suc (suc (suc (suc (suc zero))))) h b = (held h).2
wrong_holding_lem (suc (suc (suc (suc (suc (suc zero)))))) h b = (held h).2
wrong_holding_lem (suc (suc (suc (suc (suc (suc (suc n))))))) h b = absurd (omega arith)

begin_table : (m : Machine) (t : ThreadNumber) (code : ℕ) → code ≤ 6
    → number_given (begin_of m t.0 (call_of code)).reply
    ≡ first_of
    (row 3 (not (idle (access_of t (thread_at m t.0).place).kind)) ∷
    row 4 (wrong_holding code (thread_at m t.0).holding) ∷
    [])
begin_table m t code b =
    let p = (thread_at m t.0).place in
    let h = (thread_at m t.0).holding in
    row_unless 3 _ (is_idle p) _ _ _ (ap not (sym (same_idle t p))) refl
    (λ _. row_unless 4 0 (may_begin (call_of code) h) _ _ _ (wrong_holding_lem code h b) refl (λ _. refl))

-- ── the event ──

-- a code is that of a begin, of a step or of a step that fails, or of none
data CodeIs : Bool → Bool → Bool → Type 0 where
  a_begin : CodeIs true false false
  a_step : CodeIs false true false
  a_fail : CodeIs false false true
  unknown : CodeIs false false false

code_is : (code : ℕ) → CodeIs (leb code 6) (eqb code 16) (eqb code 17)
code_is code = by_tests (leb code 6) (eqb code 16) (eqb code 17) (leb-true code 6) (eqb-true code 16) (eqb-true code 17)
  where
    by_tests : (b s f : Bool) → (b ≡ true → code ≤ 6) → (s ≡ true → code ≡ 16) → (f ≡ true → code ≡ 17) → CodeIs b s f
    by_tests true true f p q r = absurd (omega (arith, p refl, q refl))
    by_tests true false true p q r = absurd (omega (arith, p refl, r refl))
    by_tests true false false p q r = a_begin
    by_tests false true true p q r = absurd (omega (arith, q refl, r refl))
    by_tests false true false p q r = a_step
    by_tests false false true p q r = a_fail
    by_tests false false false p q r = unknown

-- 2, then the rows of a step
stepped_table : (m : Machine) (t : ThreadNumber) (fails : Bool)
    → number_given (stepped_of m t fails).reply
    ≡ first_of (row 2 (leb m.count t.0) ∷ step_rows m (pick fails 17 16) t (thread_at m t.0).place)
unfolding step_of
stepped_table m t fails =
    row_when 2 _ (leb m.count t.0) _ _ refl
    (λ e. step_table m t (leb-false m.count t.0 e) fails (thread_at m t.0).place)

-- 8 for the count, before the rest
counted : (m : Machine) (later : ℕ) (rest : Outcome) → number_given rest.reply ≡ later
    → number_given (pick (good_count m.count) rest (refused_of m Damaged)).reply
    ≡ pick (not (good_count m.count)) 8 later
counted m later rest p = row_unless 8 later (good_count m.count) _ rest _ refl refl (λ _. p)

-- then 1, 2 and the rows of a begin or of a step
by_code : (m : Machine) (code : ℕ) (t : ThreadNumber) {b s f : Bool} → CodeIs b s f
    → leb code 6 ≡ b
    → eqb code 16 ≡ s
    → eqb code 17 ≡ f
    → number_given (event_of m code t).reply ≡ first_of (refusal_rows m code t)
unfolding event_of
by_code m code t a_begin eb es ef =
    rw (eb, es, ef)
    (counted m _ _ (row_when 2 _ (leb m.count t.0) _ _ refl (λ _. begin_table m t code (leb-true code 6 eb))))
by_code m code t a_step eb es ef = rw (eb, es, ef) (counted m _ _ (stepped_table m t false))
by_code m code t a_fail eb es ef = rw (eb, es, ef) (counted m _ _ (stepped_table m t true))
by_code m code t unknown eb es ef = rw (eb, es, ef) (counted m 1 _ refl)

-- the number given is that of the first row whose condition holds
pub refusal_table : (m : Machine) (code : ℕ) (t : ThreadNumber)
    → number_given (event_of m code t).reply ≡ first_of (refusal_rows m code t)
refusal_table m code t = by_code m code t (code_is code) refl refl refl

-- ── a refused event ──

-- an outcome that refuses hands the machine back as it was
data Settled (m : Machine) : Outcome → Type 0 where
  refuses : (r : Refusal) → Settled m (refused_of m r)
  accepts : (after : Machine) (a : Answer) (woken : Option ThreadNumber)
      → Settled m (record { machine = after; reply = accepted_with a woken })

settled_both : (m : Machine) (b : Bool) (x y : Outcome) → Settled m x → Settled m y → Settled m (pick b x y)
settled_both m true x y p q = p
settled_both m false x y p q = q

landed_settled : (m : Machine) (i k : ℕ) (s : Stepped) → Settled m (landed_of m i k s)
landed_settled m i k (Ok c) = accepts _ _ _
landed_settled m i k (Err r) = refuses r

touching_settled : (m : Machine) (t : ThreadNumber) (fails : Bool) (p : Place) (s : Option ℕ)
    → Settled m (touching_by m t fails p s)
touching_settled m t fails p None = refuses Damaged
touching_settled m t fails p (Some k) = search landed_settled

step_settled : (m : Machine) (t : ThreadNumber) (fails : Bool) (p : Place) (v : Verdict)
    → Settled m (step_by m t fails p v)
step_settled m t fails p (Err r) = refuses r
step_settled m t fails p (Ok _) = search touching_settled

ruleset settling = (refuses, accepts, settled_both, step_settled)

by_code_settled : (m : Machine) (c : Option Code) (t : ThreadNumber) → Settled m (event_by m c t)
unfolding step_of
by_code_settled m None t = search settling
by_code_settled m (Some (Begin call)) t = search settling
by_code_settled m (Some Step) t = search settling
by_code_settled m (Some Fail) t = search settling

event_settled : (m : Machine) (code : ℕ) (t : ThreadNumber) → Settled m (event_of m code t)
unfolding event_of
event_settled m code t = settled_both m (good_count m.count) _ _ (by_code_settled m (code_of code) t) (refuses Damaged)

unchanged : {m : Machine} {o : Outcome} → Settled m o → (r : Refusal) → o.reply ≡ Err r → o.machine ≡ m
unchanged (refuses _) r e = refl
unchanged (accepts after a woken) r e = absurd (cc)

-- a refused event leaves the machine unchanged
pub refused_unchanged : (m : Machine) (code : ℕ) (t : ThreadNumber) (r : Refusal)
    → (event_of m code t).reply ≡ Err r
    → (event_of m code t).machine ≡ m
refused_unchanged m code t r e = unchanged (event_settled m code t) r e

-- ── each number exactly on its condition, in its order ──

-- the refusal of a number
named : ℕ → Refusal
named n =
    pick (eqb n 1) UnknownCode
    (pick (eqb n 2) NoThread
    (pick (eqb n 3) InsideCall
    (pick (eqb n 4) WrongHolding
    (pick (eqb n 5) NotInCall (pick (eqb n 6) NoToken (pick (eqb n 7) CannotFail Damaged))))))

number_named : (r : Refusal) → (named (refusal_number r) ≡ r) × (0 < refusal_number r)
unfolding named
number_named UnknownCode = (refl, omega arith)
number_named NoThread = (refl, omega arith)
number_named InsideCall = (refl, omega arith)
number_named WrongHolding = (refl, omega arith)
number_named NotInCall = (refl, omega arith)
number_named NoToken = (refl, omega arith)
number_named CannotFail = (refl, omega arith)
number_named Damaged = (refl, omega arith)

-- the number tells the refusal
pub reply_number : (y : Reply) (r : Refusal) → number_given y ≡ refusal_number r → y ≡ Err r
reply_number (Ok told) r e = absurd (omega (arith, (number_named r).1))
reply_number (Err s) r e = ap Err (sym (number_named s).0 ∙ ap named e ∙ (number_named r).0)

-- an event is refused so exactly where a row of that number is the first of the table whose condition holds
pub refused_exactly : (m : Machine) (code : ℕ) (t : ThreadNumber) (r : Refusal)
    → ((event_of m code t).reply ≡ Err r) ↔ First (refusal_number r) (refusal_rows m code t)
refused_exactly m code t r =
    let exactly = first_exactly (refusal_number r) (refusal_rows m code t) (number_named r).1 in (
      λ e. exactly.0 (sym (refusal_table m code t) ∙ ap number_given e),
      λ f. reply_number (event_of m code t).reply r (refusal_table m code t ∙ exactly.1 f),
    )

-- an event is accepted exactly where no row's condition holds
pub accepted_exactly : (m : Machine) (code : ℕ) (t : ThreadNumber)
    → (number_given (event_of m code t).reply ≡ 0) ↔ NoneGiven (refusal_rows m code t)
accepted_exactly m code t = rw (refusal_table m code t) (none_exactly (refusal_rows m code t) refl)
