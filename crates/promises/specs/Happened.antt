-- What an accepted event is: a call begun, or a step whose access lies in the machine and whose rule
-- accepts, with its change stored.
-- Assumes nothing.
use Rattle.std.specs.Prelude.{ℕ, ◌<◌, Bool, true, false, ◌≡◌, refl, leb, eqb, Err, Ok, Option, Some, None}
use Rattle.std.proofs.Common.{arith, leb-false, eqb-true}
use Rattle.word.specs.Base.{pick}
use Rattle.word.specs.Cases.{pick_both, pick_first, pick_second}
use Rattle.word.specs.Number.{slot_of}
use Rattle.word.specs.declared.number.ThreadNumber.{ThreadNumber}
use Rattle.state.specs.View.{Stepped}
use Rattle.state.specs.Answer.{Verdict, accepted_with}
use Rattle.state.specs.Access.{access_of, touched_of}
use Rattle.state.specs.Machine.{good_count, thread_at, refused_of}
use Rattle.state.specs.declared.answer.Answer.{Answer}
use Rattle.state.specs.declared.answer.Refusal.{Refusal}
use Rattle.state.specs.declared.answer.Refusal.TheVariants.{UnknownCode, NoThread, InsideCall, WrongHolding, Damaged}
use Rattle.state.specs.declared.machine.Machine.{Machine}
use Rattle.state.specs.declared.machine.Outcome.{Outcome}
use Rattle.state.specs.declared.place.Place.{Place}
use Rattle.state.specs.declared.view.Change.{Change}
use Rattle.lock.specs.declared.code.Call.{Call}
use Rattle.lock.specs.declared.code.Code.{Code}
use Rattle.lock.specs.declared.code.Code.TheVariants.{Begin, Step, Fail}
use Rattle.lock.specs.Code.{call_of, code_of}
use Rattle.lock.specs.Begin.{is_idle, may_begin, began_of, begin_of}
use Rattle.lock.specs.Landed.{applied_of, landed_of}
use Rattle.lock.specs.Step.{halted_of, view_at, touching_by, step_by, step_at, step_of}
use Rattle.lock.specs.Advance.{advance_of}
use Rattle.lock.specs.Event.{called_of, stepped_of, event_by, event_of}

-- a call was begun on an idle thread
pub record Begun (m : Machine) (code : ℕ) (t : ThreadNumber) (o : Outcome) : Type 0 where
  pub good : good_count m.count ≡ true
  pub call : Call
  pub below : t.0 < m.count
  pub codes : code_of code ≡ Some (Begin call)
  pub idle : is_idle (thread_at m t.0).place ≡ true
  pub is : o ≡ began_of m t.0 call

-- a step was made: its access touches node k, and the rule of its place gives the change c
pub record Stepping (m : Machine) (code : ℕ) (t : ThreadNumber) (o : Outcome) : Type 0 where
  pub good : good_count m.count ≡ true
  pub fails : Bool
  pub k : ℕ
  pub c : Change
  pub below : t.0 < m.count
  pub codes : code ≡ pick fails 17 16
  pub halted : halted_of (access_of t (thread_at m t.0).place).kind (thread_at m t.0).token fails ≡ Ok tt
  pub slot : slot_of (touched_of (access_of t (thread_at m t.0).place) t) m.count ≡ Some k
  pub rule : advance_of (view_at m t k fails (thread_at m t.0).place) (thread_at m t.0).place ≡ Ok c
  pub is : o ≡ applied_of m t.0 k c

pub data Happened (m : Machine) (code : ℕ) (t : ThreadNumber) (o : Outcome) : Type 0 where
  begun : Begun m code t o → Happened m code t o
  stepped : Stepping m code t o → Happened m code t o

-- ── codes ──

-- code 16 alone is a step, code 17 alone a step that fails
code_step : (code : ℕ) → code_of code ≡ Some Step → code ≡ 16
code_step code e =
    let a =
    pick_second (leb code 6)
    (Some (Begin (call_of code)))
    (pick (eqb code 16) (Some Step) (pick (eqb code 17) (Some Fail) None))
    (Some Step)
    (λ q. cc)
    e in
    let b =
    pick_first (eqb code 16) (Some Step) (pick (eqb code 17) (Some Fail) None) (Some Step)
    (λ q. not_step code q)
    a.1 in
    eqb-true code 16 b.0
  where
    not_step : (code : ℕ) → pick (eqb code 17) (Some Fail) None ≡ Some Step → ⊥
    not_step code =
        pick_both (λ (x : Option Code). x ≡ Some Step → ⊥) (eqb code 17) (Some Fail) None
        (λ _ q. cc)
        (λ _ q. cc)

code_fail : (code : ℕ) → code_of code ≡ Some Fail → code ≡ 17
code_fail code e =
    let a =
    pick_second (leb code 6)
    (Some (Begin (call_of code)))
    (pick (eqb code 16) (Some Step) (pick (eqb code 17) (Some Fail) None))
    (Some Fail)
    (λ q. cc)
    e in
    let b =
    pick_second (eqb code 16) (Some Step) (pick (eqb code 17) (Some Fail) None) (Some Fail)
    (λ q. cc)
    a.1 in
    let d =
    pick_first (eqb code 17) (Some Fail) None (Some Fail)
    (λ q. cc)
    b.1 in
    eqb-true code 17 d.0

-- ── an accepted event ──

module _ (m : Machine) (code : ℕ) (t : ThreadNumber) where
  -- what is to be shown of an outcome
  abbrev Explained : Outcome → Type 0
  Explained o = (a : Answer) (w : Option ThreadNumber) → o.reply ≡ accepted_with a w → Happened m code t o

  abbrev here : Place
  here = (thread_at m t.0).place

  never : (r : Refusal) → Explained (refused_of m r)
  never r a w e = absurd (cc)

  module _ (good : good_count m.count ≡ true) (fails : Bool) (below : t.0 < m.count)
      (codes : code ≡ pick fails 17 16)
      (halted : halted_of (access_of t here).kind (thread_at m t.0).token fails ≡ (Ok tt)) where
    landed : (k : ℕ)
        → slot_of (touched_of (access_of t here) t) m.count ≡ Some k
        → (s : Stepped)
        → advance_of (view_at m t k fails here) here ≡ s
        → Explained (landed_of m t.0 k s)
    landed k slot (Ok c) rule =
        λ a w e. stepped (record {
          good = good;
          fails = fails;
          k = k;
          c = c;
          below = below;
          codes = codes;
          halted = halted;
          slot = slot;
          rule = rule;
          is = refl;
        })
    landed k slot (Err r) rule = never r

    touched : (s : Option ℕ)
        → slot_of (touched_of (access_of t here) t) m.count ≡ s
        → Explained (touching_by m t fails here s)
    touched None e = never Damaged
    touched (Some k) e = landed k e (advance_of (view_at m t k fails here) here) refl

  step_by_lem : good_count m.count ≡ true
      → (fails : Bool)
      → t.0 < m.count
      → code ≡ pick fails 17 16
      → (x : Verdict)
      → halted_of (access_of t here).kind (thread_at m t.0).token fails ≡ x
      → Explained (step_by m t fails here x)
  step_by_lem good fails below codes (Ok _) e =
      touched good fails below codes e (slot_of (touched_of (access_of t here) t) m.count) refl
  step_by_lem good fails below codes (Err r) e = never r

  step_explained : good_count m.count ≡ true
      → (fails : Bool)
      → code ≡ pick fails 17 16
      → Explained (stepped_of m t fails)
  unfolding step_of
  step_explained good fails codes =
      pick_both Explained
      (leb m.count t.0)
      (refused_of m NoThread)
      (step_at m t fails here)
      (λ _. never NoThread)
      (λ e. step_by_lem good fails (leb-false m.count t.0 e) codes
      (halted_of (access_of t here).kind (thread_at m t.0).token fails) refl)

  begin_explained : good_count m.count ≡ true
      → (call : Call)
      → code_of code ≡ Some (Begin call)
      → Explained (called_of m t call)
  begin_explained good call codes =
      pick_both Explained
      (leb m.count t.0)
      (refused_of m NoThread)
      (begin_of m t.0 call)
      (λ _. never NoThread)
      (λ e. pick_both Explained (is_idle here)
      (pick (may_begin call (thread_at m t.0).holding) (began_of m t.0 call) (refused_of m WrongHolding))
      (refused_of m InsideCall)
      (λ i. pick_both Explained (may_begin call (thread_at m t.0).holding) (began_of m t.0 call)
      (refused_of m WrongHolding)
      (λ h a w q. begun (record {
        good = good;
        call = call;
        below = leb-false m.count t.0 e;
        codes = codes;
        idle = i;
        is = refl;
      }))
      (λ _. never WrongHolding))
      (λ _. never InsideCall))

  event_by_lem : good_count m.count ≡ true → (x : Option Code) → code_of code ≡ x → Explained (event_by m x t)
  event_by_lem good (Some (Begin call)) e = begin_explained good call e
  event_by_lem good (Some Step) e = step_explained good false (code_step code e)
  event_by_lem good (Some Fail) e = step_explained good true (code_fail code e)
  event_by_lem good None e = never UnknownCode

  -- every accepted event is a call begun or a step made
  pub happened : Explained (event_of m code t)
  unfolding event_of
  happened =
      pick_both Explained
      (good_count m.count)
      (event_by m (code_of code) t)
      (refused_of m Damaged)
      (λ good. event_by_lem good (code_of code) refl)
      (λ _. never Damaged)
