-- How the lists of waiters change when the tickets move: by each effect as its name says, and in no other way.
-- Assumes nothing.
use Rattle.std.specs.Prelude.{ℕ, suc, ◌+◌, ◌-◌, ◌≤◌, ◌<◌, Bool, true, false, List, [], ◌∷◌, ◌++◌, ◌≢◌, ◌≡◌, refl}
use Rattle.std.specs.Prelude.{Err, Ok}
use Rattle.std.proofs.Common.{sym, ap, ap₂, ◌∙◌, subst, arith}
use Rattle.word.specs.Base.{pick}
use Rattle.word.specs.Number.{node}
use Rattle.word.specs.declared.number.NodeNumber.{NodeNumber}
use Rattle.state.specs.Answer.{Reply}
use Rattle.state.specs.declared.machine.Machine.{Machine}
use Rattle.state.specs.Machine.{thread_at}
use Rattle.listing.specs.Listing.{Listed, listed}
use Rattle.standing.specs.Part.{part_of}
use Rattle.lock.specs.Event.{event_of}
use Rattle.promises.proofs.Theorems.{changes_little, refusal_changes_nothing}
use Rattle.lock.specs.Effect.{QueueEffect, stands, registers, sets_aside, restores, takes_tail, takes_all, completes}
use Rattle.queue.specs.Updates.{upd, upd_same, upd_other}
use Rattle.queue.specs.Tickets.{Ghost, Span, Parts, oldest_span, empty_span, whole_span, rest_span}
use Rattle.invariant.specs.Table.{wait_of}
use Rattle.invariant.specs.Moves.{Moved, AsideAfter}
use Rattle.invariant.specs.Bridge.{node_in}
use Rattle.invariant.proofs.Events.{Sound, Safe, event_safe}
use Rattle.safety.specs.Lists.{aside_of}
use Rattle.safety.specs.Parts.{same_part}
use Rattle.safety.specs.Intervals.{up, up_more, up_same, node_is}
use Rattle.safety.specs.Held.{queue_is, held_is}
use Rattle.safety.specs.Statements.{Event, after, effect_in, ListsAfter, Lists, Move}

-- the tickets of the queue, and of an interval, oldest first
abbrev pub queue_list : Ghost → List NodeNumber
queue_list g = up g.log g.lo (g.hi - g.lo)

abbrev span_list : (ℕ → ℕ) → Span → List NodeNumber
span_list log s = up log s.beg (s.end - s.beg)

abbrev pub held_list : Ghost → ℕ → List NodeNumber
held_list g u = span_list g.log (g.taken u)

-- how the queue and what the thread holds change, set aside or not
abbrev HeldAfter : QueueEffect → List NodeNumber → List NodeNumber → List NodeNumber → List NodeNumber → Type 0
HeldAfter stands q h q' h' = (q' ≡ q) × (h' ≡ h)
HeldAfter (registers k) q h q' h' = (q' ≡ q ++ (k ∷ [])) × (h' ≡ h)
HeldAfter (sets_aside k) q h q' h' = (q ≡ k ∷ q') × (h ≡ []) × (h' ≡ k ∷ [])
HeldAfter (restores k) q h q' h' = (q' ≡ k ∷ q) × (h ≡ k ∷ []) × (h' ≡ [])
HeldAfter (takes_tail k) q h q' h' = (q' ≡ q) × (h ≡ k ∷ []) × (h' ≡ k ∷ [])
HeldAfter takes_all q h q' h' = (q' ≡ []) × (h ≡ []) × (h' ≡ q)
HeldAfter (completes k) q h q' h' = (q' ≡ q) × (h ≡ k ∷ h')

-- what is held is on one list or on the other
lists_apart : (e : QueueEffect) (q h q' h' : List NodeNumber) (a a' : Bool) → AsideAfter e a a' → HeldAfter e q h q' h'
    → ListsAfter e q (pick a h []) (pick a [] h) q' (pick a' h' []) (pick a' [] h')
lists_apart stands q h q' h' a a' s m = rw s (m.0, ap (λ l. pick a l []) m.1, ap (λ l. pick a [] l) m.1)
lists_apart (registers k) q h q' h' a a' s m = rw (s.0, s.1) (m.0, refl, m.1)
lists_apart (sets_aside k) q h q' h' a a' s m = rw (s.0, s.1) (m.0, refl, m.2, sym m.1)
lists_apart (restores k) q h q' h' a a' s m = rw (s.0, s.1) (m.0, m.1, refl, m.2)
lists_apart (takes_tail k) q h q' h' a a' s m = rw (s.0, s.1) (m.0, m.1, refl, refl, m.2)
lists_apart takes_all q h q' h' a a' s m = rw (s.0, s.1) (m.0, refl, m.1, m.2)
lists_apart (completes k) q h q' h' a a' s m = rw (s.0, s.1) (m.0, refl, m.1)

module _ (g : Ghost) (wait : ℕ → Bool) (p : Parts g wait) (t : ℕ) where
  record After (e : QueueEffect) (g' : Ghost) : Type 0 where
    pub moves : HeldAfter e (queue_list g) (held_list g t) (queue_list g') (held_list g' t)
    pub others : (u : ℕ) → u ≢ t → held_list g' u ≡ held_list g u

  -- an interval of none, of one, and one's oldest apart
  none_held : (s : Span) → s.end ≤ s.beg → span_list g.log s ≡ []
  none_held s e = let z : s.end - s.beg ≡ 0 = omega arith in rw z

  one_held : (s : Span) (k : NodeNumber) → suc s.beg ≡ s.end → g.log s.beg ≡ k.0 → span_list g.log s ≡ k ∷ []
  one_held s k e f =
      let z : s.end - s.beg ≡ 1 = omega arith in rw z (ap (λ x. x ∷ []) (sym (node_is k (g.log s.beg) (sym f))))

  first_held : (a b : ℕ) (k : NodeNumber)
      → a < b
      → g.log a ≡ k.0
      → up g.log a (b - a) ≡ k ∷ up g.log (suc a) (b - suc a)
  first_held a b k l f =
      let z : b - a ≡ suc (b - suc a) = omega arith in
      rw z (ap (λ x. x ∷ up g.log (suc a) (b - suc a)) (sym (node_is k (g.log a) (sym f))))

  -- another thread's interval is not replaced
  not_mine : (s : Span) (u : ℕ) → u ≢ t → span_list g.log (upd g.taken t s u) ≡ held_list g u
  not_mine s u ne = ap (span_list g.log) (upd_other g.taken t s u ne)

  mine : (s : Span) → span_list g.log (upd g.taken t s t) ≡ span_list g.log s
  mine s = ap (span_list g.log) (upd_same g.taken t s)

  -- a registration leaves the older tickets
  older : (a k : ℕ)
      → ((j : ℕ) → a ≤ j → j < a + k → j < g.hi)
      → up (upd g.log g.hi (suc t)) a k ≡ up g.log a k
  older a k h =
      up_same g.log (upd g.log g.hi (suc t)) a k
      (λ j x y. upd_other g.log g.hi (suc t) j (λ e. omega (arith, h j x y)))

  held_older : (u : ℕ) → span_list (upd g.log g.hi (suc t)) (g.taken u) ≡ held_list g u
  held_older u = older (g.taken u).beg ((g.taken u).end - (g.taken u).beg) (λ j x y. (p.held u j x (omega arith)).0)

  lists_after : (e : QueueEffect) (g' : Ghost) → Moved e g t g' → After e g'
  lists_after stands g' z = subst (After stands) (sym z) (record { moves = (refl, refl); others = λ u ne. refl })
  lists_after (registers k) g' z = subst (After (registers k)) (sym z.is) (record {
    moves = (newest, held_older t);
    others = λ u ne. held_older u;
  })
    where
      newest : up (upd g.log g.hi (suc t)) g.lo (suc g.hi - g.lo) ≡ queue_list g ++ (k ∷ [])
      newest =
          let size : suc g.hi - g.lo ≡ suc (g.hi - g.lo) = omega (arith, p.order) in
          let top : g.lo + (g.hi - g.lo) ≡ g.hi = omega (arith, p.order) in
          rw size (up_more (upd g.log g.hi (suc t)) g.lo (g.hi - g.lo)
          ∙ ap (λ l. l ++ (node (upd g.log g.hi (suc t) (g.lo + (g.hi - g.lo))) ∷ []))
          (older g.lo (g.hi - g.lo) (λ j x y. omega arith))
          ∙ ap (λ i. queue_list g ++ (node (upd g.log g.hi (suc t) i) ∷ [])) top
          ∙ ap (λ x. queue_list g ++ (x ∷ []))
          (ap node (upd_same g.log g.hi (suc t)) ∙ sym (node_is k (suc t) (sym z.node))))
  lists_after (sets_aside k) g' z = subst (After (sets_aside k)) (sym z.is) (record {
    moves = (
      first_held g.lo g.hi k z.some z.node,
      none_held (g.taken t) z.none,
      mine (oldest_span g) ∙ one_held (oldest_span g) k refl z.node,
    );
    others = not_mine (oldest_span g);
  })
  lists_after (restores k) g' z = subst (After (restores k)) (sym z.is) (record {
    moves = (
      back,
      one_held (g.taken t) k (omega (arith, z.one, z.end)) z.node,
      mine (empty_span (g.taken t).beg) ∙ none_held (empty_span (g.taken t).beg) (omega arith),
    );
    others = not_mine (empty_span (g.taken t).beg);
  })
    where
      back : up g.log (g.taken t).beg (g.hi - (g.taken t).beg) ≡ k ∷ queue_list g
      back =
          first_held (g.taken t).beg g.hi k (omega (arith, z.one, p.order)) z.node
          ∙ ap (λ a. k ∷ up g.log a (g.hi - a)) z.one
  lists_after (takes_tail k) g' z = subst (After (takes_tail k)) (sym z.is) (record {
    moves = (refl, one_held (g.taken t) k z.one z.node, one_held (g.taken t) k z.one z.node);
    others = λ u ne. refl;
  })
  lists_after takes_all g' z = subst (After takes_all) (sym z.is) (record {
    moves = (none_held (empty_span g.hi) (omega arith), none_held (g.taken t) z.none, mine (whole_span g));
    others = not_mine (whole_span g);
  })
  lists_after (completes k) g' z = subst (After (completes k)) (sym z.is) (record {
    moves = (
      refl,
      first_held (g.taken t).beg (g.taken t).end k z.some z.node
          ∙ ap (λ l. k ∷ l) (sym (mine (rest_span g t))),
    );
    others = not_mine (rest_span g t);
  })

-- ── on the machine ──

module _ (m : Machine) (ok : Sound m) where
  abbrev aside_now : ℕ → Bool
  aside_now u = aside_of (part_of (thread_at m u).place)

  pub lists_of : Lists m
  lists_of = record {
    queue = queue_list ok.ghost;
    aside = λ u. pick (aside_now u) (held_list ok.ghost u) [];
    wakes = λ u. pick (aside_now u) [] (held_list ok.ghost u);
    queue_is = queue_is m ok;
    aside_is = λ u. kept (aside_now u) (held_is m ok u);
    wakes_is = λ u. given (aside_now u) (held_is m ok u);
  }
    where
      kept : (a : Bool) {l : Listed} {h : List NodeNumber} → l ≡ listed h → pick a l (listed []) ≡ listed (pick a h [])
      kept true e = e
      kept false e = refl

      given : (a : Bool) {l : Listed} {h : List NodeNumber} → l ≡ listed h → pick a (listed []) l ≡ listed (pick a [] h)
      given true e = refl
      given false e = e

pub event_lists : (m : Machine) → Sound m → (e : Event) → Move m (after m e) e.thread.0 (effect_in m e).queue
unfolding lists_of
event_lists m ok e =
    record {
      before = lists_of m ok;
      after = lists_of (after m e) safe.ok;
      own = lists_apart (effect_in m e).queue _ _ _ _ _ _ moved_aside held.moves;
      others =
          λ u ne. (
            ap₂ (λ a l. pick a l []) (same_place u ne) (held.others u ne),
            ap₂ (λ a l. pick a [] l) (same_place u ne) (held.others u ne),
          );
    }
  where
    safe : Safe m ok.ghost e.thread (event_of m e.code e.thread)
    safe = event_safe m ok e.thread e.code

    held : After ok.ghost (wait_of (thread_at m) (node_in m.nodes)) ok.inv.queue.parts e.thread.0
        (effect_in m e).queue (event_safe m ok e.thread e.code).ok.ghost
    held =
        lists_after ok.ghost _ ok.inv.queue.parts e.thread.0 (effect_in m e).queue
        (event_safe m ok e.thread e.code).ok.ghost (event_safe m ok e.thread e.code).moved.0

    moved_aside : AsideAfter (effect_in m e).queue
        (aside_now m ok e.thread.0) (aside_now (after m e) safe.ok e.thread.0)
    moved_aside =
        rw (
          ← (same_part (thread_at m e.thread.0).place).aside,
          ← (same_part (thread_at (after m e) e.thread.0).place).aside,
        )
        safe.moved.1

    same_place : (u : ℕ) → u ≢ e.thread.0 → aside_now (after m e) safe.ok u ≡ aside_now m ok u
    same_place u ne = by (event_of m e.code e.thread).reply refl
      where
        by : (r : Reply) → (event_of m e.code e.thread).reply ≡ r
            → aside_now (after m e) safe.ok u ≡ aside_now m ok u
        by (Ok told) f =
            let little = changes_little m e.code e.thread told.answer told.woken f in
            ap (λ p. aside_of (part_of p)) (little.places u ne)
        by (Err r) f =
            ap (λ x. aside_of (part_of (thread_at x u).place)) (refusal_changes_nothing m e.code e.thread r f)
