-- What is left by an event that was accepted: how the machine after it reads, for every proof about events to cite.
-- In order: the codes; a step that was made (what it saw, what it left, its own thread's record); a call that was
-- begun.
-- Not here: that an accepted event is one of the two (Happened.antt); what the rules do (Obeys.antt, RuleEnds.antt);
-- the theorems (Theorems.antt).
-- Assumes nothing.
use Rattle.std.specs.Prelude.{ℕ, ◌+◌, Bool, true, false, not, List, ◌⊎◌, ◌≡◌, refl, leb, eqb, get_or, Option}
use Rattle.std.specs.Prelude.{Some, None}
use Rattle.std.proofs.Common.{inl, inr, ⊎_elim, sym, subst, ◌∙◌, arith, leb-true, eqb-true, get_or-set_same}
use Rattle.std.proofs.Math.Path.{ap}
use Rattle.word.specs.Base.{pick}
use Rattle.word.specs.Cases.{pick_both, pick_first}
use Rattle.word.specs.declared.flags.Word.{Word}
use Rattle.word.specs.declared.number.ThreadNumber.{ThreadNumber}
use Rattle.state.specs.Replies.{same_answer, same_woken}
use Rattle.state.specs.Answer.{accepted_with}
use Rattle.state.specs.Access.{touched_of}
use Rattle.state.specs.Machine.{Sized, blank_thread, thread_at, node_at}
use Rattle.state.specs.Node.{blank_node}
use Rattle.state.specs.declared.answer.Answer.{Answer}
use Rattle.state.specs.declared.machine.Machine.{Machine}
use Rattle.state.specs.declared.machine.Outcome.{Outcome}
use Rattle.state.specs.declared.machine.Thread.{Thread}
use Rattle.state.specs.declared.node.Node.{Node}
use Rattle.state.specs.declared.place.Place.{Place}
use Rattle.state.specs.declared.view.Change.{Change}
use Rattle.state.specs.declared.view.View.{View}
use Rattle.lock.specs.Advance.{advance_of}
use Rattle.lock.specs.Begin.{first_place, placed_of, began_of}
use Rattle.lock.specs.Code.{call_of, code_of}
use Rattle.lock.specs.Effect.{effect_of, lock_effect, stand_of, keeps, word_changed}
use Rattle.lock.specs.Event.{event_of}
use Rattle.lock.specs.Landed.{woken_of, stored_of}
use Rattle.lock.specs.Laws.{slot_at, good_count_lem}
use Rattle.lock.specs.Step.{view_at}
use Rattle.lock.specs.Still.{idle_is}
use Rattle.lock.specs.Stored.{get_set, woken_word, woken_nodes, woken_place, woken_holding}
use Rattle.lock.specs.declared.code.Call.{Call}
use Rattle.lock.specs.declared.code.Code.{Code}
use Rattle.lock.specs.declared.code.Code.TheVariants.{Begin, Step, Fail}
use Rattle.promises.proofs.Changes.{Moves, moves}
use Rattle.promises.specs.Happened.{Begun, Stepping, Happened, begun, stepped, happened}
use Rattle.promises.proofs.Obeys.{All, obeys}
use Rattle.promises.specs.Program.{place_of, access_at}
use Rattle.promises.specs.Refusals.{begins, steps}
use Rattle.promises.specs.Shared.{Obeys, lock_done}
use Rattle.promises.specs.Tables.{asserted, subtracting}

-- ── codes ──

-- a code that begins does not step
pub begin_or_step : (code : ℕ) → begins code ≡ true → steps code ≡ true → ⊥
begin_or_step code b =
    pick_both (λ (x : Bool). x ≡ true → ⊥)
    (eqb code 16)
    true
    (eqb code 17)
    (λ e _. omega (arith, leb-true code 6 b, eqb-true code 16 e))
    (λ _ e. omega (arith, leb-true code 6 b, eqb-true code 17 e))

not_begin : (code : ℕ) (call : Call)
    → pick (eqb code 16) (Some Step) (pick (eqb code 17) (Some Fail) None) ≡ Some (Begin call)
    → ⊥
not_begin code call =
    pick_both (λ (x : Option Code). x ≡ Some (Begin call) → ⊥)
    (eqb code 16)
    (Some Step)
    (pick (eqb code 17) (Some Fail) None)
    (λ _ q. cc)
    (λ _. pick_both (λ (x : Option Code). x ≡ Some (Begin call) → ⊥)
    (eqb code 17)
    (Some Fail)
    None
    (λ _ q. cc)
    (λ _ q. cc))

-- a begin's code is one of 0..6
pub begin_code : (code : ℕ) (call : Call) → code_of code ≡ Some (Begin call) → begins code ≡ true
begin_code code call e =
    (pick_first (leb code 6)
    (Some (Begin (call_of code)))
    (pick (eqb code 16) (Some Step) (pick (eqb code 17) (Some Fail) None))
    (Some (Begin call))
    (not_begin code call)
    e
    ).0

-- a step's code is none of a begin
pub step_not_begin : {A : Type 0} (m : Machine) (code : ℕ) (t : ThreadNumber)
    → begins code ≡ true
    → Stepping m code t (event_of m code t)
    → A
step_not_begin {A} m code t b s =
    pick_both (λ (n : ℕ). code ≡ n → A)
    s.fails
    17
    16
    (λ _ q. absurd (omega (arith, q, leb-true code 6 b)))
    (λ _ q. absurd (omega (arith, q, leb-true code 6 b)))
    s.codes

-- code 17 is the code of a step that is made to fail
pub fails_17 : (code : ℕ) (f : Bool) → code ≡ pick f 17 16 → f ≡ eqb code 17
fails_17 code true e = subst (λ (n : ℕ). true ≡ eqb n 17) (sym e) refl
fails_17 code false e = subst (λ (n : ℕ). false ≡ eqb n 17) (sym e) refl

-- an accepted event on 16 or 17 is a step that was made
pub step_made : (m : Machine) (code : ℕ) (t : ThreadNumber) (a : Answer) (w : Option ThreadNumber)
    → steps code ≡ true
    → (event_of m code t).reply ≡ accepted_with a w
    → Stepping m code t (event_of m code t)
step_made m code t a w is_step e = by (happened m code t a w e)
  where
    by : Happened m code t (event_of m code t) → Stepping m code t (event_of m code t)
    by (begun b) = absurd (begin_or_step code (begin_code code b.call b.codes) is_step)
    by (stepped s) = s

-- ── a step that was made ──

module _ (m : Machine) (code : ℕ) (t : ThreadNumber) (a : Answer) (w : Option ThreadNumber)
    (e : (event_of m code t).reply ≡ accepted_with a w) (s : Stepping m code t (event_of m code t)) where
  abbrev pub here : Place
  here = place_of m t

  abbrev pub seen : View
  seen = view_at m t s.k s.fails here

  abbrev pub next : Machine
  next = (event_of m code t).machine

  -- what holds of all that the place's rule can give holds of what it gave
  pub by_rule : (P : Change → Type 0) → All P (advance_of seen here) → P s.c
  by_rule P all = subst (All P) s.rule all

  pub obeyed : Obeys seen here s.c
  obeyed = by_rule (Obeys seen here) (obeys seen here)

  replied : accepted_with s.c.answer s.c.woken ≡ accepted_with a w
  replied = sym (ap (λ (o : Outcome). o.reply) s.is) ∙ e

  pub woke : s.c.woken ≡ w
  woke = same_woken replied

  pub answered : s.c.answer ≡ a
  answered = same_answer replied

  -- the change stored, before the wake
  abbrev pub laid : Machine
  laid = stored_of m t.0 s.k s.c

  -- the machine after: the change stored, then the wake
  pub landed : next ≡ woken_of laid w
  landed = ap (λ (o : Outcome). o.machine) s.is ∙ ap (woken_of laid) woke

  pub next_word : next.word ≡ s.c.word
  next_word = ap (λ (x : Machine). x.word) landed ∙ woken_word laid w

  pub next_node : (j : ℕ) → node_at next j ≡ node_at laid j
  next_node j =
      ap (λ (x : List Node). get_or x j blank_node) (ap (λ (x : Machine). x.nodes) landed ∙ woken_nodes laid w)

  -- the node touched is node k + 1, and it is one of the machine
  pub touched : (touched_of (access_at m t) t).0 ≡ s.k + 1
  touched = (slot_at (touched_of (access_at m t) t) m.count s.k s.slot).0

  pub at_next : (u : ℕ) → thread_at next u ≡ thread_at (woken_of laid w) u
  at_next u = ap (λ (x : Machine). thread_at x u) landed

  -- what the thread's own record reads after the step, in a machine whose arrays have their length
  module _ (z : Sized m) where
    pub own_thread : thread_at laid t.0 ≡ s.c.thread
    own_thread =
        get_or-set_same m.threads t.0 s.c.thread blank_thread
        (omega (arith, s.below, (good_count_lem m.count s.good).1, z.threads))

    pub own_place : (thread_at next t.0).place ≡ s.c.thread.place
    own_place =
        ap (λ (x : Thread). x.place) (at_next t.0) ∙
        (woken_place laid w t.0 ∙ ap (λ (x : Thread). x.place) own_thread)

    pub own_holding : (thread_at next t.0).holding ≡ s.c.thread.holding
    own_holding =
        ap (λ (x : Thread). x.holding) (at_next t.0) ∙
        (woken_holding laid w t.0 ∙ ap (λ (x : Thread). x.holding) own_thread)

    -- the effect read off the machines is the effect of the change
    pub effect_is : (effect_of t m next).lock ≡ lock_done seen here s.c
    effect_is =
        let h = (thread_at m t.0).holding in
        ap (λ (x : Word). lock_effect here h (not (eqb x.0 m.word.0)) (stand_of (place_of next t))) next_word ∙
        ap (λ (p : Place). lock_effect here h (not (eqb s.c.word.0 m.word.0)) (stand_of p)) own_place

    -- where the holding changed, the word did
    pub step_moves : asserted here ≡ true
        → ((effect_of t m next).lock ≡ keeps) ⊎ ((word_changed m next ≡ true) ⊎ (subtracting here ≡ true))
    step_moves ok =
        ⊎_elim
        (λ h. inl (effect_is ∙ h))
        (⊎_elim (λ h. inr (inl (ap (λ (x : Word). not (eqb x.0 m.word.0)) next_word ∙ h))) (λ h. inr (inr h)))
        (by_rule (Moves seen here) (moves seen here ok))

-- ── a call that was begun ──

module _ (m : Machine) (code : ℕ) (t : ThreadNumber) (b : Begun m code t (event_of m code t)) where
  abbrev pub begun_machine : Machine
  begun_machine = (began_of m t.0 b.call).machine

  pub begun_is : (event_of m code t).machine ≡ begun_machine
  begun_is = ap (λ (o : Outcome). o.machine) b.is

  pub begun_thread : (u : ℕ)
      → ((u ≡ t.0) × (thread_at begun_machine u ≡ placed_of (thread_at m u) (first_place b.call)))
      ⊎ (thread_at begun_machine u ≡ thread_at m u)
  begun_thread u =
      let first = first_place b.call in
      ⊎_elim
      (λ h. inl (h.0, h.1 ∙ ap (λ (n : ℕ). placed_of (thread_at m n) first) (sym h.0)))
      inr
      (get_set m.threads t.0 u (placed_of (thread_at m t.0) first) blank_thread)

  pub begun_token : (u : ℕ) → (thread_at begun_machine u).token ≡ (thread_at m u).token
  begun_token u =
      ⊎_elim (λ h. ap (λ (x : Thread). x.token) h.1) (λ h. ap (λ (x : Thread). x.token) h) (begun_thread u)

  pub begun_holding : (u : ℕ) → (thread_at begun_machine u).holding ≡ (thread_at m u).holding
  begun_holding u =
      ⊎_elim (λ h. ap (λ (x : Thread). x.holding) h.1) (λ h. ap (λ (x : Thread). x.holding) h) (begun_thread u)

  -- a begin is an event of an idle thread: it has no effect
  pub begun_effect : (effect_of t m (event_of m code t).machine).lock ≡ keeps
  unfolding lock_effect
  begun_effect =
      let m' = (event_of m code t).machine in
      ap (λ (p : Place). lock_effect p (thread_at m t.0).holding (word_changed m m') (stand_of (place_of m' t)))
      (idle_is (place_of m t) b.idle)
