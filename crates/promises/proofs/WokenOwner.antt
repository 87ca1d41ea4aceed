-- Proof of woken_is_the_owner: whom an event wakes. In order: only completing wakes; the owner of a node of the
-- machine; a step that completes; the theorem.
-- Not here: the statement (Statements.antt).
-- Assumes nothing.
use Rattle.std.specs.Prelude.{ℕ, ◌+◌, ◌-◌, ◌≤◌, ◌<◌, true, false, ◌≢◌, ◌≡◌, refl, ltb, length, Option, Some, None}
use Rattle.std.proofs.Common.{sym, ap, ◌∙◌, arith, length-set, get_or-set_same, lt-ltb, le-ltb}
use Rattle.word.specs.Cases.{pick_yes, pick_no}
use Rattle.word.specs.Number.{thread, owner_of}
use Rattle.word.specs.declared.number.NodeNumber.{NodeNumber}
use Rattle.word.specs.declared.number.ThreadNumber.{ThreadNumber}
use Rattle.state.specs.Replies.{same_woken}
use Rattle.state.specs.Answer.{accepted_with}
use Rattle.state.specs.Access.{access, access_of, touched_of}
use Rattle.state.specs.Machine.{Sized, thread_at, thread_limit, blank_thread}
use Rattle.state.specs.declared.access.Access.{Access}
use Rattle.state.specs.declared.access.Kind.{Kind}
use Rattle.state.specs.declared.access.Kind.TheVariants as Kinds
use Rattle.state.specs.declared.access.Location.{Location}
use Rattle.state.specs.declared.access.Location.TheVariants.{Completed}
use Rattle.state.specs.declared.answer.Answer.{Answer}
use Rattle.state.specs.declared.answer.Answer.TheVariants.{Begun as BegunAnswer}
use Rattle.state.specs.declared.machine.Machine.{Machine}
use Rattle.state.specs.declared.machine.Outcome.{Outcome}
use Rattle.state.specs.declared.machine.Thread.{Thread}
use Rattle.state.specs.declared.place.Place.{Place}
use Rattle.state.specs.declared.place.Place.TheVariants.{Idle}
use Rattle.lock.specs.Event.{event_of}
use Rattle.lock.specs.Landed.{woken_of, tokened_of}
use Rattle.lock.specs.Laws.{slot_at, good_count_lem}
use Rattle.lock.specs.Still.{idle_is}
use Rattle.promises.proofs.Afterwards.{laid, landed, woke, obeyed, touched}
use Rattle.promises.specs.Happened.{Begun, Stepping, Happened, begun, stepped, happened}
use Rattle.promises.specs.Program.{place_of, access_at}
use Rattle.promises.specs.Shared.{woken_by}
use Rattle.promises.specs.Statements.{Owned, WokenIsTheOwner}

-- nothing but completing wakes
woken_otherwise : (k : Kind) (l : Location) → k ≢ Kinds.Complete → woken_by k l ≡ None
woken_otherwise Kinds.Nothing l e = refl
woken_otherwise Kinds.Load l e = refl
woken_otherwise Kinds.Store l e = refl
woken_otherwise Kinds.WeakCompare l e = refl
woken_otherwise Kinds.StrongCompare l e = refl
woken_otherwise Kinds.FetchOr l e = refl
woken_otherwise Kinds.Subtract l e = refl
woken_otherwise Kinds.Complete l e = absurd (e refl)
woken_otherwise Kinds.Park l e = refl

-- a node in range has its owner
owner_in : (n : NodeNumber) (k : ℕ) → n.0 ≡ k + 1 → k + 1 ≤ 256 → owner_of n ≡ Some (thread k)
owner_in n k e l =
    let is : Some (thread k) ≡ Some (thread (n.0 - 1)) =
    ap (λ (j : ℕ). Some (thread j)) (omega (arith, e)) in
    let below : ltb 256 n.0 ≡ false = le-ltb 256 n.0 (omega (arith, e, l)) in
    let above : ltb n.0 1 ≡ false = le-ltb n.0 1 (omega (arith, e)) in
    sym
    (pick_no (ltb n.0 1) (Some (thread k)) None _ above
    (pick_no (ltb 256 n.0) (Some (thread k)) None _ below is))

-- ── a step that completes ──

module _ (m : Machine) (code : ℕ) (t : ThreadNumber) (a : Answer) (w : Option ThreadNumber)
    (n : NodeNumber) (z : Sized m)
    (e : (event_of m code t).reply ≡ accepted_with a w) (at : access_at m t ≡ access Kinds.Complete (Completed n))
    (s : Stepping m code t (event_of m code t)) where
  number : n.0 ≡ s.k + 1
  number = sym (ap (λ (x : Access). (touched_of x t).0) at) ∙ touched m code t a w e s

  low : s.k < thread_limit
  low =
      let slot = (slot_at (touched_of (access_at m t) t) m.count s.k s.slot).1 in
      omega (arith, slot, (good_count_lem m.count s.good).1)

  is : w ≡ Some (thread s.k)
  is =
      sym (woke m code t a w e s) ∙
      ((obeyed m code t a w e s).woken ∙
      (ap (λ (x : Access). woken_by x.kind x.location) at ∙ owner_in n s.k number (omega (arith, low))))

  token_set_lem : (thread_at (woken_of (laid m code t a w e s) (Some (thread s.k))) s.k).token ≡ true
  token_set_lem =
      let stored = laid m code t a w e s in
      let there : s.k < length (laid m code t a w e s).threads =
      omega (arith, low, length-set m.threads t.0 s.c.thread, z.threads) in
      ap (λ (x : Machine). (thread_at x s.k).token)
      (sym (pick_yes (ltb s.k thread_limit) _ _ _ (lt-ltb s.k thread_limit low) refl)) ∙
      ap (λ (x : Thread). x.token)
      (get_or-set_same stored.threads s.k (tokened_of (thread_at stored s.k)) blank_thread there)

  owned : Owned n w (event_of m code t).machine
  owned =
      record {
        owner = thread s.k;
        owns = ap (λ (j : ℕ). record { 0 = j }) (sym number);
        reported = is;
        token = ap (λ (x : Machine). (thread_at x s.k).token)
            (landed m code t a w e s ∙ ap (woken_of (laid m code t a w e s)) is) ∙
            token_set_lem;
      }

-- ── the theorem ──

-- an idle thread completes nothing
idle_access : (t : ThreadNumber) (p : Place) (n : NodeNumber)
    → p ≡ Idle
    → access_of t p ≡ access Kinds.Complete (Completed n)
    → ⊥
unfolding access_of
idle_access t p n i e =
    let q : Kinds.Nothing ≡ Kinds.Complete =
    sym (ap (λ (x : Place). (access_of t x).kind) i) ∙ ap (λ (x : Access). x.kind) e in
    cc

begun_nobody : (m : Machine) (code : ℕ) (t : ThreadNumber) (a : Answer) (w : Option ThreadNumber)
    → (event_of m code t).reply ≡ accepted_with a w
    → Begun m code t (event_of m code t)
    → w ≡ None
begun_nobody m code t a w e b =
    let r : accepted_with BegunAnswer None ≡ accepted_with a w = sym (ap (λ (o : Outcome). o.reply) b.is) ∙ e in
    sym (same_woken r)

pub woken_is_the_owner : WokenIsTheOwner event_of
woken_is_the_owner =
    record {
      completing = λ m code t a w n z e at. completing m code t a w n z e at (happened m code t a w e);
      otherwise = λ m code t a w e k. otherwise m code t a w e k (happened m code t a w e);
    }
  where
    completing : (m : Machine) (code : ℕ) (t : ThreadNumber) (a : Answer) (w : Option ThreadNumber) (n : NodeNumber)
        → Sized m
        → (e : (event_of m code t).reply ≡ accepted_with a w)
        → access_at m t ≡ access Kinds.Complete (Completed n)
        → Happened m code t (event_of m code t)
        → Owned n w (event_of m code t).machine
    completing m code t a w n z e at (begun b) =
        absurd (idle_access t (place_of m t) n (idle_is (place_of m t) b.idle) at)
    completing m code t a w n z e at (stepped s) = owned m code t a w n z e at s

    otherwise : (m : Machine) (code : ℕ) (t : ThreadNumber) (a : Answer) (w : Option ThreadNumber)
        → (e : (event_of m code t).reply ≡ accepted_with a w)
        → (access_at m t).kind ≢ Kinds.Complete
        → Happened m code t (event_of m code t)
        → w ≡ None
    otherwise m code t a w e k (begun b) = begun_nobody m code t a w e b
    otherwise m code t a w e k (stepped s) =
        sym (woke m code t a w e s) ∙ ((obeyed m code t a w e s).woken ∙ woken_otherwise (access_at m t).kind _ k)
