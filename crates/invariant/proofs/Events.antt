-- Every event keeps the invariant and is never refused 8: on the machine itself, over lock's `event_of`.
-- Assumes nothing.
use Rattle.std.specs.Prelude.{ℕ, suc, ◌+◌, ◌≤◌, ◌<◌, Bool, ◌⊎◌, ◌≡◌, leb, ltb, length, Err, Ok, Option, Some, None}
use Rattle.std.proofs.Math.Bool.{true, false}
use Rattle.std.proofs.Common.{inl, inr, sym, ap, ◌∙◌, add-one, arith, length-set, leb-false, le-ltb}
use Rattle.std.proofs.Math.Path.{refl, subst}
use Rattle.word.specs.Base.{pick}
use Rattle.word.specs.Cases.{pick_both, pick_no}
use Rattle.word.specs.Number.{slot_of}
use Rattle.word.specs.declared.flags.Word.{Word}
use Rattle.word.specs.declared.number.NodeNumber.{NodeNumber}
use Rattle.word.specs.declared.number.ThreadNumber.{ThreadNumber}
use Rattle.state.specs.Answer.{Verdict}
use Rattle.state.specs.View.{Stepped}
use Rattle.state.specs.Access.{access_of, touched_of}
use Rattle.state.specs.Machine.{thread_limit, good_count, thread_at, node_at, refused_of, Sized}
use Rattle.state.specs.declared.access.Kind.{Kind}
use Rattle.state.specs.declared.access.Kind.TheVariants.{Nothing, Load, Store, WeakCompare, StrongCompare, FetchOr}
use Rattle.state.specs.declared.access.Kind.TheVariants.{Subtract, Complete, Park}
use Rattle.state.specs.declared.answer.Refusal.{Refusal}
use Rattle.state.specs.declared.answer.Refusal.TheVariants.{UnknownCode, NoThread, InsideCall, WrongHolding, Damaged}
use Rattle.state.specs.declared.machine.Machine.{Machine}
use Rattle.state.specs.declared.machine.Thread.{Thread}
use Rattle.state.specs.declared.machine.Outcome.{Outcome}
use Rattle.state.specs.declared.place.Place.{Place}
use Rattle.state.specs.declared.place.Place.TheVariants.{Idle, WalkHead}
use Rattle.state.specs.declared.place.Walk.{Walk}
use Rattle.state.specs.declared.view.Change.{Change}
use Rattle.state.specs.declared.view.Mark.TheVariants.{Missing, Reader, Writer}
use Rattle.state.specs.declared.view.Mark.{Mark}
use Rattle.lock.specs.Advance.{advance_of}
use Rattle.lock.specs.Begin.{is_idle, may_begin, first_place, placed_of, began_of, begin_of}
use Rattle.lock.specs.Code.{code_of}
use Rattle.lock.specs.Event.{event_by, event_of}
use Rattle.lock.specs.Landed.{woken_of, stored_of, landed_of}
use Rattle.lock.specs.Laws.{slot_at, good_count_lem}
use Rattle.lock.specs.Step.{halted_of, failing_of, marked_of, mark_by, mark_of, view_at, touching_by, step_by, step_at}
use Rattle.lock.specs.Step.{step_of}
use Rattle.lock.specs.declared.code.Call.{Call}
use Rattle.lock.specs.declared.code.Code.{Code}
use Rattle.lock.specs.declared.code.Code.TheVariants.{Begin, Step, Fail}
use Rattle.lock.specs.Still.{idle_is, still_queue}
use Rattle.lock.specs.Stored.{woken_count, woken_nodes, woken_long}
use Rattle.queue.specs.Tests.{never, impossible}
use Rattle.queue.specs.Updates.{upd, upd_same, upd_cases}
use Rattle.queue.specs.Tickets.{Ghost}
use Rattle.invariant.specs.Invariant.{Inv}
use Rattle.invariant.specs.Moves.{is_aside, Moved, AsideAfter, Went, stood}
use Rattle.invariant.specs.Kept.{woken_in, Kept, Goes, Setting}
use Rattle.invariant.proofs.Steps.{WaitingNode, touches, slot_waiting, slot_marked, kept_everywhere}
use Rattle.invariant.proofs.Begins.{first_not_aside, kept_begin}
use Rattle.invariant.specs.Bridge.{lock_of, thread_stored, change_stored}

-- a machine that has the invariant
pub record Sound (m : Machine) : Type 0 where
  pub good : good_count m.count ≡ true
  pub sized : Sized m
  pub ghost : Ghost
  pub inv : Inv m.count (lock_of m) ghost

-- so has the machine after an event of thread me, the tickets g having moved by its effect alone; and the reply is
-- not 8
pub record Safe (m : Machine) (g : Ghost) (me : ThreadNumber) (o : Outcome) : Type 0 where
  pub ok : Sound o.machine
  pub moved : Went me (thread_at m me.0).place g (thread_at o.machine me.0).place ok.ghost
  pub not_eight : o.reply ≡ Err Damaged → ⊥

-- a step or a begin of its thread me, with the mark that it finds and whether its compare is made to fail
abbrev setting_of : (m : Machine) → Sound m → (me : ThreadNumber) → me.0 < m.count → Mark → Bool → Setting
setting_of m ok me tin mark fails =
    record {
      n = m.count;
      s = lock_of m;
      g = ok.ghost;
      i = ok.inv;
      me = me;
      tin = tin;
      mark = mark;
      fails = fails;
    }

-- a refusal other than 8
abbrev Other : Refusal → Type 0
Other r = r ≡ Damaged → ⊥

refused_safe : (m : Machine) (ok : Sound m) (me : ThreadNumber) (r : Refusal) → Other r
    → Safe m ok.ghost me (refused_of m r)
refused_safe m ok me r other = record {
  ok = ok;
  moved = subst
      (λ e. Moved e ok.ghost me.0 ok.ghost
      × AsideAfter e (is_aside (thread_at m me.0).place) (is_aside (thread_at m me.0).place))
      (sym (still_queue me (thread_at m me.0).place)) (refl, refl);
  not_eight = λ e. other (cc e);
}

-- ── a step ──

-- what halts a step is never 8
halted_other : (k : Kind) (token fails : Bool) (r : Refusal) → halted_of k token fails ≡ Err r → Other r
halted_other k token fails r e z = by k token fails (subst (λ x. halted_of k token fails ≡ Err x) z e)
  where
    failing : (fails : Bool) → failing_of fails ≡ Err Damaged → ⊥
    failing true f = impossible (cc)
    failing false f = impossible (cc)

    by : (k : Kind) (token fails : Bool) → halted_of k token fails ≡ Err Damaged → ⊥
    by Nothing token fails f = impossible (cc)
    by Park token true f = impossible (cc)
    by Park true false f = impossible (cc)
    by Park false false f = impossible (cc)
    by WeakCompare token fails f = impossible (cc)
    by Load token fails f = failing fails f
    by Store token fails f = failing fails f
    by StrongCompare token fails f = failing fails f
    by FetchOr token fails f = failing fails f
    by Subtract token fails f = failing fails f
    by Complete token fails f = failing fails f

module _ (m : Machine) (ok : Sound m) (me : ThreadNumber) (tin : me.0 < m.count) (fails : Bool) where
  few : m.count ≤ thread_limit
  few = (good_count_lem m.count ok.good).1

  -- where the thread stands then
  place_stored : (j : ℕ) → j < thread_limit → (c : Change)
      → (thread_at (woken_of (stored_of m me.0 j c) c.woken) me.0).place ≡ c.thread.place
  place_stored j l c =
      ap (λ s. (s.th me.0).place) (change_stored m me.0 j c ok.sized (omega (arith, few)) l)
      ∙ by c.woken
    where
      own : (upd (thread_at m) me.0 c.thread me.0).place ≡ c.thread.place
      own = ap (λ x. x.place) (upd_same (thread_at m) me.0 c.thread)

      by : (w : Option ThreadNumber) → (woken_in (upd (thread_at m) me.0 c.thread) w me.0).place ≡ c.thread.place
      by None = own
      by (Some u) = pick_both (λ (th : ℕ → Thread). (th me.0).place ≡ c.thread.place)
          (ltb u.0 thread_limit) _ _
          (λ _. upd_cases (λ j x. x.place ≡ (upd (thread_at m) me.0 c.thread j).place)
          (upd (thread_at m) me.0 c.thread) u.0 _ refl (λ j ne. refl) me.0 ∙ own) (λ _. own)

  -- a rule that keeps the invariant, stored
  landed_safe : (mark : Mark) (j : ℕ) → j < thread_limit → (st : Stepped)
      → Kept (setting_of m ok me tin mark fails) (suc j) st
      → Safe m ok.ghost me (landed_of m me.0 j st)
  landed_safe mark j l (Ok c) kept = record {
    ok = record {
      good = rw (woken_count (stored_of m me.0 j c) c.woken) ok.good;
      sized = record {
        nodes =
            rw (woken_nodes (stored_of m me.0 j c) c.woken)
            (length-set m.nodes j c.node ∙ ok.sized.nodes);
        threads =
            woken_long (stored_of m me.0 j c) c.woken ∙ length-set m.threads me.0 c.thread
            ∙ ok.sized.threads;
      };
      ghost = kept.0;
      inv =
          rw (
            woken_count (stored_of m me.0 j c) c.woken,
            change_stored m me.0 j c ok.sized (omega (arith, few)) l,
          ) kept.1;
    };
    moved =
        subst (λ p. Went me (thread_at m me.0).place ok.ghost p kept.0) (sym (place_stored j l c))
        kept.2;
    not_eight = λ e. impossible (cc);
  }
  landed_safe mark j l (Err r) kept = absurd kept

  -- the node that the step touches has a slot
  module _ (p : Place) (here : (thread_at m me.0).place ≡ p) where
    abbrev setting : Setting
    setting = setting_of m ok me tin (mark_of m (marked_of p)) fails

    has_slot : slot_of (touched_of (access_of me p) me) m.count ≡ None → ⊥
    has_slot e = by (touches ok.inv me p here)
      where
        differ : (j : ℕ) → slot_of (touched_of (access_of me p) me) m.count ≡ Some j → ⊥
        differ j f = impossible (cc)

        by : ((touched_of (access_of me p) me).0 ≡ me.0 + 1) ⊎ WaitingNode ok.inv (touched_of (access_of me p) me).0 → ⊥
        by (inl z) =
            differ _
            (sym (pick_no (ltb (touched_of (access_of me p) me).0 1) _ None _
            (le-ltb (touched_of (access_of me p) me).0 1 (omega arith))
            (pick_no (ltb m.count (touched_of (access_of me p) me).0) _ None _
            (le-ltb m.count (touched_of (access_of me p) me).0 (omega arith)) refl)))
        by (inr w) =
            let x = slot_waiting ok.inv (touched_of (access_of me p) me) w in
            differ x.0 x.1

    -- and the tail that a walk found its writer mark
    marked : (k : Walk) (seen : Word) (tail : NodeNumber) → p ≡ WalkHead k seen tail
        → mark_of m (marked_of p) ≡ Missing → ⊥
    unfolding marked_of
    marked k seen tail is =
        subst (λ q. mark_of m (marked_of q) ≡ Missing → ⊥) (sym is)
        (found (slot_marked ok.inv me.0 k seen tail (here ∙ is)))
      where
        mark : (writer : Bool) → pick writer Writer Reader ≡ Missing → ⊥
        mark true e = impossible (cc)
        mark false e = impossible (cc)

        found : (j : ℕ) × (slot_of tail m.count ≡ Some j) → mark_of m tail ≡ Missing → ⊥
        found x = subst (λ (z : Option ℕ). mark_by m z ≡ Missing → ⊥) (sym x.1) (mark (node_at m x.0).writer)

    touching_safe : halted_of (access_of me p).kind (thread_at m me.0).token fails ≡ Ok tt
        → Safe m ok.ghost me (touching_by m me fails p (slot_of (touched_of (access_of me p) me) m.count))
    touching_safe fine = by (slot_of (touched_of (access_of me p) me) m.count) refl
      where
        by : (z : Option ℕ) → slot_of (touched_of (access_of me p) me) m.count ≡ z
            → Safe m ok.ghost me (touching_by m me fails p z)
        by None e = absurd (has_slot e)
        by (Some j) e =
            let x = slot_at (touched_of (access_of me p) me) m.count j e in
            landed_safe (mark_of m (marked_of p)) j (omega (arith, few)) (advance_of (view_at m me j fails p) p)
            (subst (λ k. Goes setting k (λ v. advance_of v p)) (x.0 ∙ add-one j)
            (kept_everywhere setting few p here (thread_at m me.0).token fine marked))

    step_at_safe : Safe m ok.ghost me (step_at m me fails p)
    step_at_safe = by (halted_of (access_of me p).kind (thread_at m me.0).token fails) refl
      where
        by : (v : Verdict) → halted_of (access_of me p).kind (thread_at m me.0).token fails ≡ v
            → Safe m ok.ghost me (step_by m me fails p v)
        by (Err r) e =
            refused_safe m ok me r (halted_other (access_of me p).kind (thread_at m me.0).token fails r e)
        by (Ok _) e = touching_safe e

  step_safe : Safe m ok.ghost me (step_of m me fails)
  unfolding step_of
  step_safe = step_at_safe (thread_at m me.0).place refl

-- ── a begin ──

begin_safe : (m : Machine) (ok : Sound m) (me : ThreadNumber) → me.0 < m.count → (call : Call)
    → Safe m ok.ghost me (begin_of m me.0 call)
begin_safe m ok me tin call = pick_both (Safe m ok.ghost me) (is_idle (thread_at m me.0).place) _ _
    (λ idle. pick_both (Safe m ok.ghost me) (may_begin call (thread_at m me.0).holding) _ _
    (λ may. began (idle_is (thread_at m me.0).place idle) may)
    (λ _. refused_safe m ok me WrongHolding (λ e. impossible (cc))))
    (λ _. refused_safe m ok me InsideCall (λ e. impossible (cc)))
  where
    within : me.0 < length m.threads
    within = omega (arith, (good_count_lem m.count ok.good).1, ok.sized.threads)

    began_at : (thread_at (began_of m me.0 call).machine me.0).place ≡ first_place call
    began_at =
        ap (λ s. (s.th me.0).place)
        (thread_stored m me.0 (placed_of (thread_at m me.0) (first_place call)) within)
        ∙ ap (λ x. x.place) (upd_same (thread_at m) me.0 (placed_of (thread_at m me.0) (first_place call)))

    began : (thread_at m me.0).place ≡ Idle → may_begin call (thread_at m me.0).holding ≡ true
        → Safe m ok.ghost me (began_of m me.0 call)
    began idle may = record {
      ok = record {
        good = ok.good;
        sized = record {
          nodes = ok.sized.nodes;
          threads = length-set m.threads me.0 (placed_of (thread_at m me.0) (first_place call))
              ∙ ok.sized.threads;
        };
        ghost = ok.ghost;
        inv =
            rw (thread_stored m me.0 (placed_of (thread_at m me.0) (first_place call)) within)
            (kept_begin (setting_of m ok me tin Missing false) idle call may);
      };
      moved =
          subst (λ p. Went me (thread_at m me.0).place ok.ghost p ok.ghost) (sym began_at)
          (stood me ok.ghost idle refl (first_place call) (first_not_aside call));
      not_eight = λ e. impossible (cc);
    }

-- ── an event ──

module _ (m : Machine) (ok : Sound m) (me : ThreadNumber) where
  below : leb m.count me.0 ≡ false → me.0 < m.count
  below e = leb-false m.count me.0 e

  no_thread : Safe m ok.ghost me (refused_of m NoThread)
  no_thread = refused_safe m ok me NoThread (λ e. impossible (cc))

  by_code : (c : Option Code) → Safe m ok.ghost me (event_by m c me)
  by_code None = refused_safe m ok me UnknownCode (λ e. impossible (cc))
  by_code (Some (Begin call)) = pick_both (Safe m ok.ghost me) (leb m.count me.0) _ _ (λ _. no_thread)
      (λ e. begin_safe m ok me (below e) call)
  by_code (Some Step) = pick_both (Safe m ok.ghost me) (leb m.count me.0) _ _ (λ _. no_thread)
      (λ e. step_safe m ok me (below e) false)
  by_code (Some Fail) = pick_both (Safe m ok.ghost me) (leb m.count me.0) _ _ (λ _. no_thread)
      (λ e. step_safe m ok me (below e) true)

  pub event_safe : (code : ℕ) → Safe m ok.ghost me (event_of m code me)
  unfolding event_of
  event_safe code = pick_both (Safe m ok.ghost me) (good_count m.count) _ _ (λ _. by_code (code_of code))
      (λ e. never e ok.good)
