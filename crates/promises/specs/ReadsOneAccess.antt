-- Proof of reads_one_access: two machines alike at a thread's access give its event the same. In order: what is read in
-- the two machines; a step; a begin; the event.
-- Not here: the statement (Statements.antt); that the rules do the same (Twins.antt).
-- Assumes nothing.
use Rattle.std.specs.Prelude.{ℕ, ◌+◌, ◌≤◌, ◌<◌, Bool, true, false, ◌⊎◌, ◌≡◌, leb, Err, Ok, Option, Some, None}
use Rattle.std.proofs.Common.{inl, sym, ◌∙◌, arith, leb-false, get_or-set_same}
use Rattle.std.proofs.Math.Path.{refl, ap, subst}
use Rattle.word.specs.Base.{pick}
use Rattle.word.specs.Flags.{word}
use Rattle.word.specs.Number.{slot_of}
use Rattle.word.specs.declared.number.ThreadNumber.{ThreadNumber}
use Rattle.state.specs.View.{Stepped}
use Rattle.state.specs.Answer.{Verdict, accepted_with}
use Rattle.state.specs.Access.{access_of, touched_at, touched_of}
use Rattle.state.specs.Machine.{Sized, thread_limit, good_count, thread_at, node_at, blank_thread, refused_of}
use Rattle.state.specs.declared.access.Location.{Location}
use Rattle.state.specs.declared.access.Location.TheVariants.{Nowhere, Word as TheWord, Next, Prev, Tail, Completed}
use Rattle.state.specs.declared.access.Location.TheVariants.{Token}
use Rattle.state.specs.declared.answer.Refusal.{Refusal}
use Rattle.state.specs.declared.answer.Refusal.TheVariants.{UnknownCode, NoThread, InsideCall, WrongHolding, Damaged}
use Rattle.state.specs.declared.machine.Machine.{Machine}
use Rattle.state.specs.declared.machine.Outcome.{Outcome}
use Rattle.state.specs.declared.machine.Thread.{Thread}
use Rattle.state.specs.declared.place.Place.{Place}
use Rattle.state.specs.declared.view.Change.{Change}
use Rattle.state.specs.declared.view.Mark.TheVariants.{Reader, Writer}
use Rattle.lock.specs.Advance.{advance_of}
use Rattle.lock.specs.Begin.{is_idle, may_begin, first_place, placed_of, began_of, begin_of}
use Rattle.lock.specs.Code.{code_of}
use Rattle.lock.specs.Event.{event_by, event_of}
use Rattle.lock.specs.Landed.{landed_of}
use Rattle.lock.specs.Laws.{slot_at, good_count_lem}
use Rattle.lock.specs.Step.{halted_of, marked_of, mark_by, mark_of, view_at, touching_by, step_by, step_at, step_of}
use Rattle.lock.specs.Still.{idle_is}
use Rattle.lock.specs.declared.code.Call.{Call}
use Rattle.lock.specs.declared.code.Code.{Code}
use Rattle.lock.specs.declared.code.Code.TheVariants.{Begin, Step, Fail}
use Rattle.promises.specs.Places.{never}
use Rattle.promises.specs.Program.{place_of}
use Rattle.promises.specs.Statements.{Alike, DoSame, ReadsOneAccess}
use Rattle.promises.specs.Tables.{bit, value_at, in_word}
use Rattle.promises.specs.Twins.{FilledAlike, Told, Twin, both_if, viewed, Marks, twins}
use Rattle.promises.specs.Values.{in_word_lem, own_touched, Quiet, TokenOwn, SameToken, own_token, value_in_lem}
use Rattle.promises.specs.Values.{storing, stored_node, stored_place, stored_holding, stored_value}

-- ── what is read in the two machines ──

same_token : (l : Location) (t : ThreadNumber) (m m' : Machine)
    → TokenOwn l t
    → value_at m l ≡ value_at m' l
    → SameToken l (thread_at m t.0).token (thread_at m' t.0).token
same_token Nowhere t m m' o e = tt
same_token TheWord t m m' o e = tt
same_token (Next n) t m m' o e = tt
same_token (Prev n) t m m' o e = tt
same_token (Tail n) t m m' o e = tt
same_token (Completed n) t m m' o e = tt
same_token (Token u) t m m' o e =
    subst (λ (j : ThreadNumber). bit (thread_at m j.0).token ≡ bit (thread_at m' j.0).token) o e

idle_nowhere : (t : ThreadNumber) (p : Place) → is_idle p ≡ true → (access_of t p).location ≡ Nowhere
unfolding access_of
idle_nowhere t p e = ap (λ q. (access_of t q).location) (idle_is p e)

module _ (t : ThreadNumber) (m m' : Machine) (z : Sized m) (z' : Sized m') (alike : Alike t m m')
    (p : Place) (here : place_of m t ≡ p) where
  abbrev l : Location
  l = (access_of t p).location

  abbrev Same : Outcome → Outcome → Type 0
  Same = DoSame t (access_of t p).location m m'

  here' : place_of m' t ≡ p
  here' = sym alike.place ∙ here

  value_same : value_at m (access_of t p).location ≡ value_at m' (access_of t p).location
  value_same =
      subst (λ q. value_at m (access_of t q).location ≡ value_at m' (access_of t q).location) here alike.value

  refused_same : (r : Refusal) → Same (refused_of m r) (refused_of m' r)
  refused_same r =
      record {
        reply = refl;
        place = alike.place;
        holding = alike.holding;
        value = value_same;
        own = λ _. inl (refl, refl);
      }

  module _ (own_low : t.0 < thread_limit) where
    module _ (k : ℕ) (low : k < thread_limit) (at : (touched_at (access_of t p).location t).0 ≡ k + 1) where
      -- node j kept in both machines, or the same in both
      abbrev NodeAlike : Change → Change → ℕ → Type 0
      NodeAlike c c' j =
          ((node_at (storing m t k c) j ≡ node_at m j) × (node_at (storing m' t k c') j ≡ node_at m' j))
          ⊎ (node_at (storing m t k c) j ≡ node_at (storing m' t k c') j)

      own_same : (c c' : Change)
          → FilledAlike (access_of t p).location (node_at m k) (node_at m' k) c.node c'.node
          → in_word (access_of t p).location ≡ true
          → NodeAlike c c' t.0
      own_same c c' filled word =
          let touched : NodeAlike c c' k =
          rw (stored_node m t z k low own_low c, stored_node m' t z' k low own_low c') (in_word_lem l _ word filled) in
          subst (NodeAlike c c') (omega (arith, at, own_touched l t word)) touched

      landed_same : (x x' : Stepped)
          → Twin (access_of t p).location (node_at m k) (node_at m' k) x x'
          → Same (landed_of m t.0 k x) (landed_of m' t.0 k x')
      landed_same (Ok c) (Ok c') (told, filled, quiet) =
          let own = (own_token t p).own in
          let quiet' : Quiet l c'.woken = subst (Quiet l) (ap (λ (y : Told). y.woken) told) quiet in
          record {
            reply = ap (λ (y : Told). accepted_with y.answer y.woken) told;
            place = stored_place m t z k low own_low c ∙
                (ap (λ (y : Told). y.place) told ∙ sym (stored_place m' t z' k low own_low c'));
            holding = stored_holding m t z k low own_low c ∙
                (ap (λ (y : Told). y.holding) told ∙ sym (stored_holding m' t z' k low own_low c'));
            value = stored_value m t z k low own_low c l at own quiet ∙
                (ap (λ (y : Told). y.value) told ∙ sym (stored_value m' t z' k low own_low c' l at own quiet'));
            own = own_same c c' filled;
          }
      landed_same (Ok c) (Err r) h = absurd h
      landed_same (Err r) (Ok c) h = absurd h
      landed_same (Err r) (Err r') h = subst (λ y. Same (refused_of m r) (refused_of m' y)) h (refused_same r)

    marks_same : Marks p (mark_of m (marked_of p)) (mark_of m' (marked_of p))
    unfolding marked_of
    marks_same who x tail is r =
        subst (λ q. mark_of m (marked_of q) ≡ mark_of m' (marked_of q)) (sym is)
        (ap (λ j. mark_by m (slot_of tail j)) alike.count ∙ by (slot_of tail m'.count) refl)
      where
        by : (y : Option ℕ) → slot_of tail m'.count ≡ y → mark_by m y ≡ mark_by m' y
        by None e = refl
        by (Some j) e =
            let f : tail.0 ≡ j + 1 = (slot_at tail m'.count j e).0 in
            ap (λ y. pick y Writer Reader)
            (subst (λ i. (node_at m i).writer ≡ (node_at m' i).writer)
            (omega (arith, f))
            (alike.mark who x tail (here ∙ is) r))

    advanced_same : (fails : Bool) (k : ℕ)
        → (touched_at (access_of t p).location t).0 ≡ k + 1
        → Twin (access_of t p).location (node_at m k) (node_at m' k)
        (advance_of (view_at m t k fails p) p)
        (advance_of (view_at m' t k fails p) p)
    advanced_same fails k at =
        let h = (thread_at m t.0).holding in
        let mark = mark_of m (marked_of p) in
        let mark' = mark_of m' (marked_of p) in
        let token = (thread_at m t.0).token in
        let token' = (thread_at m' t.0).token in
        let before = value_in_lem m t l k at (own_token t p).own in
        let before' = value_in_lem m' t l k at (own_token t p).own in
        subst (λ x. Twin l (node_at m k) (node_at m' k)
        (advance_of (view_at m t k fails p) p)
        (advance_of (viewed t m'.word (node_at m' k) mark' token' x fails) p))
        alike.holding
        (twins t fails h (node_at m k) (node_at m' k) mark mark' token token' m.word m'.word p
        (sym before ∙ (value_same ∙ before'))
        marks_same)

    touching_same : m.count ≤ thread_limit → (fails : Bool) (y : Option ℕ)
        → slot_of (touched_of (access_of t p) t) m.count ≡ y
        → Same (touching_by m t fails p y) (touching_by m' t fails p y)
    touching_same few fails None e = refused_same Damaged
    touching_same few fails (Some k) e =
        let f : ((touched_of (access_of t p) t).0 ≡ k + 1) × (k < m.count) =
        slot_at (touched_of (access_of t p) t) m.count k e in
        landed_same k (omega (arith, f.1, few)) f.0
        (advance_of (view_at m t k fails p) p)
        (advance_of (view_at m' t k fails p) p)
        (advanced_same fails k f.0)

    step_same : m.count ≤ thread_limit → (fails : Bool) → Same (step_at m t fails p) (step_at m' t fails p)
    step_same few fails =
        subst (λ y. Same (step_at m t fails p) (step_by m' t fails p y))
        ((own_token t p).halts (thread_at m t.0).token (thread_at m' t.0).token fails
        (same_token l t m m' (own_token t p).own value_same))
        (by (halted_of (access_of t p).kind (thread_at m t.0).token fails))
      where
        by : (y : Verdict) → Same (step_by m t fails p y) (step_by m' t fails p y)
        by (Err r) = refused_same r
        by (Ok _) =
            let touched = touched_of (access_of t p) t in
            let slot = slot_of touched m.count in
            subst
            (λ y. Same (touching_by m t fails p slot) (touching_by m' t fails p (slot_of touched y)))
            alike.count
            (touching_same few fails slot refl)

    stepped_same : m.count ≤ thread_limit → (fails : Bool) → Same (step_of m t fails) (step_of m' t fails)
    unfolding step_of
    stepped_same few fails =
        subst (λ q. Same (step_at m t fails q) (step_at m' t fails (place_of m' t))) (sym here)
        (subst (λ q. Same (step_at m t fails p) (step_at m' t fails q)) (sym here') (step_same few fails))

    began_same : is_idle p ≡ true → (call : Call) → Same (began_of m t.0 call) (began_of m' t.0 call)
    began_same idle call =
        subst (λ q. DoSame t q m m' (began_of m t.0 call) (began_of m' t.0 call)) (sym (idle_nowhere t p idle))
        (record {
          reply = refl;
          place = ap (λ (x : Thread). x.place) (placed m z) ∙ sym (ap (λ (x : Thread). x.place) (placed m' z'));
          holding = ap (λ (x : Thread). x.holding) (placed m z) ∙
              (alike.holding ∙ sym (ap (λ (x : Thread). x.holding) (placed m' z')));
          value = refl;
          own = λ e. never e;
        })
      where
        placed : (x : Machine) → Sized x
            → thread_at (began_of x t.0 call).machine t.0 ≡ placed_of (thread_at x t.0) (first_place call)
        placed x s =
            get_or-set_same x.threads t.0 (placed_of (thread_at x t.0) (first_place call)) blank_thread
            (omega (arith, own_low, s.threads))

    begin_same : (call : Call) → Same (begin_of m t.0 call) (begin_of m' t.0 call)
    begin_same call =
        let h = (thread_at m t.0).holding in
        let h' = (thread_at m' t.0).holding in
        both_if Same (is_idle (place_of m t)) (is_idle (place_of m' t)) (ap is_idle alike.place)
        (λ i. both_if Same (may_begin call h) (may_begin call h') (ap (may_begin call) alike.holding)
        (λ _. began_same (sym (ap is_idle here) ∙ i) call)
        (λ _. refused_same WrongHolding))
        (λ _. refused_same InsideCall)

  -- ── the event ──

  -- a thread below the count in both, or in neither
  below_same : m.count ≤ thread_limit → (x x' : Outcome)
      → (t.0 < thread_limit → Same x x')
      → Same
      (pick (leb m.count t.0) (refused_of m NoThread) x)
      (pick (leb m'.count t.0) (refused_of m' NoThread) x')
  below_same few x x' f =
      both_if Same (leb m.count t.0) (leb m'.count t.0) (ap (λ j. leb j t.0) alike.count)
      (λ _. refused_same NoThread)
      (λ e. f (omega (arith, leb-false m.count t.0 e, few)))

  code_same : m.count ≤ thread_limit → (c : Option Code) → Same (event_by m c t) (event_by m' c t)
  code_same few None = refused_same UnknownCode
  code_same few (Some (Begin call)) = below_same few _ _ (λ low. begin_same low call)
  code_same few (Some Step) = below_same few _ _ (λ low. stepped_same low few false)
  code_same few (Some Fail) = below_same few _ _ (λ low. stepped_same low few true)

  event_same : (code : ℕ) → Same (event_of m code t) (event_of m' code t)
  unfolding event_of
  event_same code =
      both_if Same (good_count m.count) (good_count m'.count) (ap good_count alike.count)
      (λ good. code_same (good_count_lem m.count good).1 (code_of code))
      (λ _. refused_same Damaged)

pub reads_one_access : ReadsOneAccess event_of
reads_one_access m m' code t z z' alike = event_same t m m' z z' alike (place_of m t) refl code
