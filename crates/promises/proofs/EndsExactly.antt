-- Proof of ends_exactly: how calls begin and end. In order: what each rule ends with, place by place; what is left over
-- for `no`; the place of a code; a step and a begin.
-- Not here: the statement (Statements.antt); yes at the grant (Grants.antt).
-- Assumes nothing.
use Rattle.std.specs.Prelude.{ℕ, Bool, true, false, not, ◌≡◌, refl, eqb, leb, Some, Option, None}
use Rattle.std.proofs.Common.{sym, ap, ◌∙◌, arith, get_or-set_same}
use Rattle.word.specs.Base.{pick}
use Rattle.word.specs.Cases.{pick_yes}
use Rattle.word.specs.declared.number.ThreadNumber.{ThreadNumber}
use Rattle.state.specs.Replies.{same_answer, same_woken}
use Rattle.state.specs.Answer.{accepted_with}
use Rattle.state.specs.Access.{access_of}
use Rattle.state.specs.Machine.{Sized, thread_at, blank_thread}
use Rattle.state.specs.declared.answer.Answer.{Answer}
use Rattle.state.specs.declared.answer.Answer.TheVariants.{Begun, Went, Done, Yes, No}
use Rattle.state.specs.declared.machine.Machine.{Machine}
use Rattle.state.specs.declared.machine.Outcome.{Outcome}
use Rattle.state.specs.declared.machine.Thread.{Thread}
use Rattle.state.specs.declared.place.Place.{Place}
use Rattle.state.specs.declared.place.Place.TheVariants as At
use Rattle.state.specs.declared.place.Walk.TheVariants.{Queue, ReadUnlock as ForReadUnlock, Downgrade as ForDowngrade}
use Rattle.state.specs.declared.place.Who.TheVariants.{Waiter, Leaver}
use Rattle.state.specs.declared.view.Change.{Change}
use Rattle.state.specs.declared.view.View.{View}
use Rattle.lock.specs.Advance.{advance_of}
use Rattle.lock.specs.Begin.{is_idle, first_place, placed_of}
use Rattle.lock.specs.Code.{call_of}
use Rattle.lock.specs.Event.{event_of}
use Rattle.lock.specs.Laws.{good_count_lem}
use Rattle.lock.specs.declared.code.Call.{Call}
use Rattle.lock.specs.declared.code.Call.TheVariants.{Read, Write, TryRead, TryWrite, ReadUnlock, WriteUnlock}
use Rattle.lock.specs.declared.code.Call.TheVariants.{Downgrade}
use Rattle.lock.specs.declared.code.Code.TheVariants.{Begin}
use Rattle.promises.proofs.Afterwards.{step_made, step_not_begin, by_rule, seen, own_place, answered}
use Rattle.promises.proofs.Afterwards.{begun_is}
use Rattle.promises.proofs.Grants.{answered_at_the_grant}
use Rattle.promises.specs.Happened.{Begun as BegunCall, Stepping, Happened, begun, stepped, happened}
use Rattle.promises.proofs.Obeys.{All}
use Rattle.promises.specs.Places.{never}
use Rattle.promises.specs.Program.{place_of}
use Rattle.promises.specs.Refusals.{and, begins}
use Rattle.promises.proofs.RuleEnds.{try_read_ends, try_read_cas_ends, try_write_ends, contend_ends}
use Rattle.promises.proofs.RuleEnds.{contend_cas_ends}
use Rattle.promises.proofs.RuleEnds.{register_ends, completed_ends, park_ends, walk_tail_ends, found_ends}
use Rattle.promises.proofs.RuleEnds.{queue_cas_ends, split_prev_ends, split_cas_ends, take_cas_ends}
use Rattle.promises.proofs.RuleEnds.{wake_store_ends}
use Rattle.promises.proofs.RuleEnds.{read_unlock_ends, read_unlock_cas_ends, subtract_ends, write_unlock_ends}
use Rattle.promises.proofs.RuleEnds.{release_ends, downgrade_ends, downgrade_slow_ends}
use Rattle.promises.specs.Shared.{tries, is_yes, is_done, is_no, is_went, ends}
use Rattle.promises.specs.Statements.{Ended, Began, EndsExactly}
use Rattle.promises.specs.Tables.{begins_at}

-- ── what each rule ends with ──

-- idle by the answer, went and done by being idle
abbrev Ends : Place → Change → Type 0
Ends p c =
    (is_idle c.thread.place ≡ ends c.answer)
    × (is_went c.answer ≡ not (is_idle c.thread.place))
    × (is_done c.answer ≡ and (not (tries p)) (is_idle c.thread.place))

rule_ends : (v : View) (p : Place) → All (Ends p) (advance_of v p)
unfolding advance_of access_of tries
rule_ends v At.Idle = tt
rule_ends v (At.TryReadLoad true) = try_read_ends v _ true (refl, refl, refl) (refl, refl, refl)
rule_ends v (At.TryReadLoad false) = try_read_ends v _ false (refl, refl, refl) (refl, refl, refl)
rule_ends v (At.TryReadCas true x) =
    try_read_cas_ends v _ true x
    (λ _ _ _. (refl, refl, refl))
    (try_read_ends v _ true (refl, refl, refl) (refl, refl, refl))
rule_ends v (At.TryReadCas false x) =
    try_read_cas_ends v _ false x
    (λ _ _ _. (refl, refl, refl))
    (try_read_ends v _ false (refl, refl, refl) (refl, refl, refl))
rule_ends v (At.TryWriteOr true) = try_write_ends v _ true (λ _. (refl, refl, refl)) (λ _. (refl, refl, refl))
rule_ends v (At.TryWriteOr false) = try_write_ends v _ false (λ _. (refl, refl, refl)) (λ _. (refl, refl, refl))
rule_ends v (At.ContendLoad w r) = contend_ends v _ w r (refl, refl, refl) (refl, refl, refl) (refl, refl, refl)
rule_ends v (At.ContendCas w r x) =
    contend_cas_ends v _ w r x
    (λ _ _ _. (refl, refl, refl))
    (contend_ends v _ w r (refl, refl, refl) (refl, refl, refl) (refl, refl, refl))
rule_ends v (At.RegisterCas w r x) =
    register_ends v _ w r x
    (refl, refl, refl)
    (refl, refl, refl)
    (contend_ends v _ w r (refl, refl, refl) (refl, refl, refl) (refl, refl, refl))
rule_ends v (At.CompletedLoad w) = completed_ends v _ w (refl, refl, refl) (refl, refl, refl)
rule_ends v (At.Park w) = park_ends v _ w (λ _. (refl, refl, refl)) (λ _. (refl, refl, refl))
rule_ends v (At.WalkTail k x n) = walk_tail_ends v _ k x n (refl, refl, refl) (refl, refl, refl)
rule_ends v (At.WalkNext k x n) = (refl, refl, refl)
rule_ends v (At.WalkPrev k x n y) = (refl, refl, refl)
rule_ends v (At.WalkHead (Queue who) x z) =
    found_ends v _ who x z (refl, refl, refl) (refl, refl, refl) (refl, refl, refl)
rule_ends v (At.WalkHead ForReadUnlock x z) = (refl, refl, refl)
rule_ends v (At.WalkHead ForDowngrade x z) = (refl, refl, refl)
rule_ends v (At.QueueCas (Waiter w) x) = queue_cas_ends v _ (Waiter w) x (refl, refl, refl) (refl, refl, refl)
rule_ends v (At.QueueCas Leaver x) = queue_cas_ends v _ Leaver x (refl, refl, refl) (refl, refl, refl)
rule_ends v (At.SplitPrev who x z) = split_prev_ends v _ who x z (refl, refl, refl) (refl, refl, refl)
rule_ends v (At.SplitStore who x z y) = (refl, refl, refl)
rule_ends v (At.SplitCas who x z) = split_cas_ends v _ who x z (refl, refl, refl) (refl, refl, refl)
rule_ends v (At.SplitRestore who x z y) = (refl, refl, refl)
rule_ends v (At.TakeCas who x z) = take_cas_ends v _ who x z (refl, refl, refl) (refl, refl, refl)
rule_ends v (At.WakePrev who n) = (refl, refl, refl)
rule_ends v (At.WakeStore (Waiter w) n y) = wake_store_ends v _ (Waiter w) n y (refl, refl, refl) (refl, refl, refl)
rule_ends v (At.WakeStore Leaver n y) = wake_store_ends v _ Leaver n y (refl, refl, refl) (refl, refl, refl)
rule_ends v At.ReadUnlockLoad = read_unlock_ends v _ (refl, refl, refl) (refl, refl, refl)
rule_ends v (At.ReadUnlockCas x) =
    read_unlock_cas_ends v _ x
    (λ _ _ _. (refl, refl, refl))
    (read_unlock_ends v _ (refl, refl, refl) (refl, refl, refl))
rule_ends v (At.Subtract x z) = subtract_ends v _ x z (refl, refl, refl) (refl, refl, refl)
rule_ends v At.WriteUnlockCas = write_unlock_ends v _ (λ _. (refl, refl, refl)) (refl, refl, refl)
rule_ends v (At.ReleaseCas x) =
    release_ends v _ x (λ _. (refl, refl, refl)) (λ _. (refl, refl, refl)) (refl, refl, refl)
rule_ends v At.DowngradeCas = downgrade_ends v _ (λ _. (refl, refl, refl)) (refl, refl, refl)
rule_ends v (At.DowngradeSlowCas x) =
    downgrade_slow_ends v _ x (λ _. (refl, refl, refl)) (λ _. (refl, refl, refl)) (refl, refl, refl)

-- ── what is left over for `no` ──

-- no is what is left of a try's ends, where yes is the grant and done no try's
left_over : (a : Answer) (try idle grant : Bool)
    → idle ≡ ends a
    → is_done a ≡ and (not try) idle
    → is_yes a ≡ and try grant
    → is_no a ≡ and try (and idle (not grant))
left_over Begun true false g i d y = refl
left_over Begun true true g i d y = never (sym i)
left_over Begun false idle g i d y = refl
left_over Went true false g i d y = refl
left_over Went true true g i d y = never (sym i)
left_over Went false idle g i d y = refl
left_over Done true idle g i d y = never (sym d)
left_over Done false idle g i d y = refl
left_over Yes true false g i d y = refl
left_over Yes true true true i d y = refl
left_over Yes true true false i d y = never (sym y)
left_over Yes false idle g i d y = refl
left_over No true false g i d y = never i
left_over No true true true i d y = never y
left_over No true true false i d y = refl
left_over No false true g i d y = never d
left_over No false false g i d y = never i

-- ── the place of a code ──

-- a code's first place is the first place of its call
pub call_place : (code : ℕ) → first_place (call_of code) ≡ begins_at code
call_place code =
    first (eqb code 0) Read _ _ _ refl
    (first (eqb code 1) Write _ _ _ refl
    (first (eqb code 2) TryRead _ _ _ refl
    (first (eqb code 3) TryWrite _ _ _ refl
    (first (eqb code 4) ReadUnlock _ _ _ refl (first (eqb code 5) WriteUnlock Downgrade _ _ refl refl)))))
  where
    first : (b : Bool) (x y : Call) (p q : Place)
        → first_place x ≡ p
        → first_place y ≡ q
        → first_place (pick b x y) ≡ pick b p q
    first true x y p q f g = f
    first false x y p q f g = g

-- ── a step and a begin ──

step_ends : (m : Machine) (code : ℕ) (t : ThreadNumber) (a : Answer) (w : Option ThreadNumber)
    → Sized m
    → (e : (event_of m code t).reply ≡ accepted_with a w)
    → Stepping m code t (event_of m code t)
    → Ended m t a (event_of m code t).machine
step_ends m code t a w z e s =
    let m' = (event_of m code t).machine in
    let facts = by_rule m code t a w e s (Ends (place_of m t)) (rule_ends (seen m code t a w e s) (place_of m t)) in
    let place : place_of m' t ≡ s.c.thread.place = own_place m code t a w e s z in
    let same : s.c.answer ≡ a = answered m code t a w e s in
    let idle : is_idle (place_of m' t) ≡ ends a = ap is_idle place ∙ facts.0 ∙ ap ends same in
    let done : is_done a ≡ and (not (tries (place_of m t))) (is_idle (place_of m' t)) =
    sym (ap is_done same) ∙ facts.2 ∙ sym (ap (λ p. and (not (tries (place_of m t))) (is_idle p)) place) in
    let granted = (answered_at_the_grant m code t a w z e).0 in
    record {
      idle = idle;
      went = sym (ap is_went same) ∙ facts.1 ∙ sym (ap (λ p. not (is_idle p)) place);
      done = done;
      no = left_over a (tries (place_of m t)) (is_idle (place_of m' t)) _ idle done granted;
    }

begun_ends : (m : Machine) (code : ℕ) (t : ThreadNumber) (a : Answer) (w : Option ThreadNumber)
    → Sized m
    → begins code ≡ true
    → (event_of m code t).reply ≡ accepted_with a w
    → BegunCall m code t (event_of m code t)
    → Began code t a w (event_of m code t).machine
begun_ends m code t a w z begins_it e b =
    let reply : accepted_with Begun None ≡ accepted_with a w = sym (ap (λ (o : Outcome). o.reply) b.is) ∙ e in
    let coded : Some (Begin (call_of code)) ≡ Some (Begin b.call) =
    pick_yes (leb code 6) (Some (Begin (call_of code))) (Some (Begin (call_of code))) _ begins_it refl ∙ b.codes in
    let call : call_of code ≡ b.call = cc in
    let placed =
    get_or-set_same m.threads t.0 (placed_of (thread_at m t.0) (first_place b.call)) blank_thread
    (omega (arith, b.below, (good_count_lem m.count b.good).1, z.threads)) in
    record {
      answer = sym (same_answer reply);
      woken = sym (same_woken reply);
      place = ap (λ x. place_of x t) (begun_is m code t b) ∙
          (ap (λ (u : Thread). u.place) placed ∙ (ap first_place (sym call) ∙ call_place code));
    }

pub ends_exactly : EndsExactly event_of
ends_exactly =
    record {
      step = λ m code t a w z is_step e. step_ends m code t a w z e (step_made m code t a w is_step e);
      begin = λ m code t a w z b e. by m code t a w z b e (happened m code t a w e);
    }
  where
    by : (m : Machine) (code : ℕ) (t : ThreadNumber) (a : Answer) (w : Option ThreadNumber)
        → Sized m
        → begins code ≡ true
        → (event_of m code t).reply ≡ accepted_with a w
        → Happened m code t (event_of m code t)
        → Began code t a w (event_of m code t).machine
    by m code t a w z b e (stepped s) = step_not_begin m code t b s
    by m code t a w z b e (begun x) = begun_ends m code t a w z b e x
