-- Each call does its work: kept by every event of a thread's own, untouched by the others', and so along every run.
-- The statement: Calls.antt. What fits a place: Phases.antt; that a rule keeps it: CallSteps.antt.
-- Assumes nothing.
use Rattle.std.specs.Prelude.{ℕ, Bool, true, false, List, [], ◌∷◌, ◌≢◌, refl, eqb, Err, Ok, Option}
use Rattle.std.proofs.Math.Path.{◌≡◌, ap}
use Rattle.std.proofs.Common.{sym, ◌∙◌, subst, eqb-true}
use native.Mathlib.Omega.{arith}
use Rattle.std.proofs.lemmas.Bool.{eqb-false}
use Rattle.word.specs.Base.{pick}
use Rattle.word.specs.Number.{thread}
use Rattle.word.specs.declared.number.ThreadNumber.{ThreadNumber}
use Rattle.state.specs.Answer.{Reply, accepted_with}
use Rattle.state.specs.Machine.{thread_at, fresh_of}
use Rattle.state.specs.declared.answer.Answer.{Answer}
use Rattle.state.specs.declared.answer.Answer.TheVariants.{Begun, Went, Done, Yes, No}
use Rattle.state.specs.declared.holding.Holding.{Holding}
use Rattle.state.specs.declared.machine.Machine.{Machine}
use Rattle.state.specs.declared.place.Place.{Place}
use Rattle.state.specs.declared.place.Place.TheVariants.{Idle}
use Rattle.state.specs.declared.view.View.{View}
use Rattle.lock.specs.Advance.{advance_of}
use Rattle.lock.specs.Code.{call_of}
use Rattle.lock.specs.Effect.{LockEffect}
use Rattle.lock.specs.Event.{event_of}
use Rattle.lock.specs.Still.{idle_is}
use Rattle.lock.specs.declared.code.Call.{Call}
use Rattle.promises.specs.Program.{place_of}
use Rattle.promises.specs.Refusals.{steps}
use Rattle.promises.specs.Shared.{ends}
use Rattle.promises.specs.Happened.{Begun as BegunCall, Stepping, Happened, begun, stepped, happened}
use Rattle.promises.proofs.EndsExactly.{call_place}
use Rattle.promises.proofs.Afterwards.{begin_code, seen, by_rule, answered, own_place, own_holding, effect_is}
use Rattle.promises.proofs.Theorems.{ends_exactly, changes_little, refusal_changes_nothing}
use Rattle.invariant.proofs.Events.{Sound, event_safe}
use Rattle.safety.specs.Statements.{Event, after, effect_in, ran_by, ran, reached}
use Rattle.safety.specs.Calls.{Now, resting, inside, Log, nothing_yet, also, noted, logged, log_of}
use Rattle.safety.specs.Calls.{Each, Inside, WorkDone, EachCallDoesItsWork}
use Rattle.safety.specs.Phases.{phase, Fits, first_fits, so_far}
use Rattle.safety.specs.CallSteps.{Then, Works, rule_works}
use Rattle.safety.specs.Runs.{start}

abbrev FitsNow : Now → Place → Holding → Type 0
FitsNow resting p h = p ≡ Idle
FitsNow (inside c xs) p h = Fits (phase p) h c xs

-- what is kept: every call that ended did its work, and the log fits where its thread stands
record Tidy (t : ThreadNumber) (g : Log) (m : Machine) : Type 0 where
  ended : Each g.ended
  now : FitsNow g.now (place_of m t) (thread_at m t.0).holding

module _ (m : Machine) (ok : Sound m) (t : ThreadNumber) (g : Log) (d : Tidy t g m) where
  module _ (code : ℕ) where
    abbrev next : Machine
    next = (event_of m code t).machine

    abbrev did : LockEffect
    did = (effect_in m (record { code = code; thread = t })).lock

    -- ── a begin ──

    begun_tidy : (a : Answer) (w : Option ThreadNumber) → (event_of m code t).reply ≡ accepted_with a w
        → BegunCall m code t (event_of m code t) → Tidy t (noted (accepted_with a w) code did g) next
    begun_tidy a w e b =
        let y = ends_exactly.begin m code t a w ok.sized (begin_code code b.call b.codes) e in
        rw y.answer (record {
          ended = d.ended;
          now = rw (y.place, ← call_place code) (first_fits (call_of code) (thread_at next t.0).holding);
        })

    -- ── a step ──

    module _ (a : Answer) (w : Option ThreadNumber) (e : (event_of m code t).reply ≡ accepted_with a w)
        (s : Stepping m code t (event_of m code t)) where
      abbrev v : View
      v = seen m code t a w e s

      moved : (c : Call) (xs : List LockEffect) → Fits (phase (place_of m t)) (thread_at m t.0).holding c xs
          → Then a (place_of next t) (thread_at next t.0).holding c (also xs did)
      moved c xs f =
          rw (
            effect_is m code t a w e s ok.sized,
            own_place m code t a w e s ok.sized,
            own_holding m code t a w e s ok.sized,
            ← answered m code t a w e s,
          )
          (by_rule m code t a w e s (Works v (place_of m t)) (rule_works v (place_of m t))
          c xs (ok.inv.holding t.0) f)

      idle_now : ends a ≡ true → place_of next t ≡ Idle
      idle_now x =
          idle_is (place_of next t)
          ((ends_exactly.step m code t a w ok.sized (steps_code s.fails s.codes) e).idle ∙ x)
        where
          steps_code : (f : Bool) → code ≡ pick f 17 16 → steps code ≡ true
          steps_code true q = rw q
          steps_code false q = rw q

      not_resting : place_of m t ≡ Idle → ⊥
      unfolding advance_of
      not_resting i =
          let q : advance_of v Idle ≡ Ok s.c = ap (advance_of v) (sym i) ∙ s.rule in
          cc

    step_tidy : (a : Answer) (w : Option ThreadNumber) → (event_of m code t).reply ≡ accepted_with a w
        → Stepping m code t (event_of m code t)
        → (n : Now) → FitsNow n (place_of m t) (thread_at m t.0).holding
        → Tidy t (noted (accepted_with a w) code did (record { now = n; ended = g.ended })) next
    step_tidy a w e s resting f = absurd (not_resting a w e s f)
    step_tidy Begun w e s (inside c xs) f = absurd (moved Begun w e s c xs f)
    step_tidy Went w e s (inside c xs) f = record { ended = d.ended; now = moved Went w e s c xs f }
    step_tidy Done w e s (inside c xs) f =
        record { ended = (moved Done w e s c xs f, d.ended); now = idle_now Done w e s refl }
    step_tidy Yes w e s (inside c xs) f =
        record { ended = (moved Yes w e s c xs f, d.ended); now = idle_now Yes w e s refl }
    step_tidy No w e s (inside c xs) f =
        record { ended = (moved No w e s c xs f, d.ended); now = idle_now No w e s refl }

    -- ── its own event, and another thread's ──

    own_tidy : Tidy t (noted (event_of m code t).reply code did g) next
    own_tidy = by (event_of m code t).reply refl
      where
        accepted : (a : Answer) (w : Option ThreadNumber) → (event_of m code t).reply ≡ accepted_with a w
            → Happened m code t (event_of m code t) → Tidy t (noted (accepted_with a w) code did g) next
        accepted a w e (begun b) = begun_tidy a w e b
        accepted a w e (stepped s) = step_tidy a w e s g.now d.now

        by : (r : Reply) → (event_of m code t).reply ≡ r → Tidy t (noted r code did g) next
        by (Ok told) e = accepted told.answer told.woken e (happened m code t told.answer told.woken e)
        by (Err r) e = subst (Tidy t g) (sym (refusal_changes_nothing m code t r e)) d

  other_tidy : (e : Event) → e.thread.0 ≢ t.0 → Tidy t g (after m e)
  other_tidy e ne = by (event_of m e.code e.thread).reply refl
    where
      by : (r : Reply) → (event_of m e.code e.thread).reply ≡ r → Tidy t g (after m e)
      by (Ok told) q =
          let y = changes_little m e.code e.thread told.answer told.woken q in
          record {
            ended = d.ended;
            now = rw (y.places t.0 (λ z. ne (sym z)), y.holdings t.0 (λ z. ne (sym z))) d.now;
          }
      by (Err r) q = subst (Tidy t g) (sym (refusal_changes_nothing m e.code e.thread r q)) d

  event_tidy : (e : Event) → Tidy t (logged event_of t m e g) (after m e)
  event_tidy e = by (eqb e.thread.0 t.0) refl
    where
      own : ThreadNumber → Log
      own u =
          noted (event_of m e.code u).reply e.code (effect_in m (record { code = e.code; thread = u })).lock g

      by : (b : Bool) → eqb e.thread.0 t.0 ≡ b → Tidy t (pick b (own e.thread) g) (after m e)
      by true q =
          subst (λ (u : ThreadNumber). Tidy t (own u) (event_of m e.code u).machine)
          (ap thread (sym (eqb-true e.thread.0 t.0 q))) (own_tidy e.code)
      by false q = other_tidy e (eqb-false e.thread.0 t.0 q)

-- ── a run ──

run_tidy : (t : ThreadNumber) (m : Machine) → Sound m → (g : Log) → Tidy t g m → (es : List Event)
    → Tidy t (log_of event_of t m es g) (ran m es)
unfolding log_of ran_by
run_tidy t m ok g d [] = d
run_tidy t m ok g d (e ∷ es) =
    run_tidy t (after m e) (event_safe m ok e.thread e.code).ok (logged event_of t m e g)
    (event_tidy m ok t g d e) es

tidy_works : (t : ThreadNumber) (g : Log) (m : Machine) → Tidy t g m → WorkDone g (place_of m t)
tidy_works t g m d = record { ended = d.ended; now = by g.now d.now }
  where
    by : (n : Now) → FitsNow n (place_of m t) (thread_at m t.0).holding → Inside n (place_of m t)
    by resting f = f
    by (inside c xs) f = so_far (thread_at m t.0).holding c xs (place_of m t) f

pub run_works : EachCallDoesItsWork event_of
run_works n es t =
    tidy_works t (log_of event_of t (fresh_of n).machine es nothing_yet) (reached n es)
    (run_tidy t (fresh_of n).machine (start n).ok nothing_yet
    (record { ended = tt; now = ap (λ s. (s.th t.0).place) (start n).lock }) es)
