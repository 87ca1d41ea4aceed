-- Proof of goes_exactly: where a step goes on to. In order: choices of steps and of places; what a judged word leads
-- to; every place; the tail's mark; the machine.
-- Not here: the statement (Statements.antt); the table (Goes.antt).
-- Assumes nothing.
use Rattle.std.specs.Prelude.{ℕ, ◌+◌, ◌-◌, Bool, true, false, ◌≡◌, eqb, ltb, Err, Option, Some, None}
use Rattle.std.proofs.Math.Path.{refl}
use Rattle.std.proofs.Common.{sym, ap, subst, ◌∙◌, arith}
use Rattle.word.specs.Base.{pick}
use Rattle.word.specs.Flags.{LOCKED, SINGLE, locked, queued, queue_locked, downgraded, clear_queue_locked}
use Rattle.word.specs.Number.{is_none, owner_of, slot_of}
use Rattle.word.specs.Rules.{read_lock_of, registered_of, read_unlock_of}
use Rattle.word.specs.declared.flags.Word.{Word}
use Rattle.word.specs.declared.number.NodeNumber.{NodeNumber}
use Rattle.word.specs.declared.rules.ReadUnlocked.{ReadUnlocked}
use Rattle.word.specs.declared.rules.ReadUnlocked.TheVariants.{To as UnlockTo, Contended, Refused as UnlockRefused}
use Rattle.state.specs.Access.{access_of}
use Rattle.state.specs.Holding.{released_write, downgraded_to}
use Rattle.state.specs.Machine.{thread_at, node_at}
use Rattle.state.specs.Node.{with_tail, with_completed}
use Rattle.state.specs.View.{at, agrees_of, stays, writes, completes, after_queue, Stepped}
use Rattle.state.specs.declared.answer.Refusal.TheVariants.{Damaged}
use Rattle.state.specs.declared.machine.Machine.{Machine}
use Rattle.state.specs.declared.place.Place.{Place}
use Rattle.state.specs.declared.place.Place.TheVariants as At
use Rattle.state.specs.declared.place.Walk.TheVariants.{Queue, ReadUnlock, Downgrade}
use Rattle.state.specs.declared.place.Who.{Who}
use Rattle.state.specs.declared.place.Who.TheVariants.{Waiter, Leaver}
use Rattle.state.specs.declared.view.Change.{Change}
use Rattle.state.specs.declared.view.Mark.{Mark}
use Rattle.state.specs.declared.view.Mark.TheVariants.{Missing, Reader, Writer}
use Rattle.state.specs.declared.view.Next.{Next}
use Rattle.state.specs.declared.view.View.{View}
use Rattle.acquire.specs.LockContended.{permitted_of, contend_by, contend_judged, contend_cas_by, after_register}
use Rattle.acquire.specs.TryRead.{try_read_by, try_read_judged, try_read_cas_by}
use Rattle.unlock.specs.AfterWalk.{marked_by}
use Rattle.release.specs.Downgrade.{downgraded_word, after_downgrade}
use Rattle.release.specs.ReadUnlock.{read_unlock_by, read_unlock_judged, read_unlock_cas_by}
use Rattle.release.specs.UnlockContended.{released_to, after_release}
use Rattle.lock.specs.Advance.{advance_of}
use Rattle.lock.specs.Event.{event_of}
use Rattle.lock.specs.Laws.{slot_at}
use Rattle.lock.specs.Step.{marked_of, mark_by, mark_of}
use Rattle.promises.proofs.Afterwards.{fails_17, step_made, by_rule, seen, touched, own_place}
use Rattle.promises.specs.Goes.{over_for, tries_on, tried_on, contends_on, contended_on, marked_on, unlocks_on}
use Rattle.promises.specs.Goes.{unlocked_on}
use Rattle.promises.specs.Goes.{goes_to}
use Rattle.promises.proofs.Obeys.{All}
use Rattle.promises.specs.Program.{place_of, access_at}
use Rattle.promises.proofs.RuleEnds.{park_ends}
use Rattle.promises.specs.Statements.{GoesExactly}
use Rattle.promises.specs.Tables.{bit, writer_of}
use Rattle.promises.specs.Values.{value_in, own_token, value_in_lem}

-- ── choices ──

abbrev To : Place → Change → Type 0
To p c = c.thread.place ≡ p

-- a choice of steps leads to a choice of places
either : (b : Bool) (s s' : Stepped) (p p' : Place)
    → All (To p) s
    → All (To p') s'
    → All (To (pick b p p')) (pick b s s')
either true s s' p p' f g = f
either false s s' p p' f g = g

next_either : (b : Bool) (n n' : Next) (p p' : Place) → n.place ≡ p → n'.place ≡ p' → (pick b n n').place ≡ pick b p p'
next_either true n n' p p' f g = f
next_either false n n' p p' f g = g

-- the same, by a flag that was found as a number
by_bit : (b : Bool) (s s' : Stepped) (p p' : Place)
    → All (To p) s
    → All (To p') s'
    → All (To (pick (eqb (bit b) 1) p p')) (pick b s s')
by_bit true s s' p p' f g = f
by_bit false s s' p p' f g = g

unless_refused_lem : (b : Bool) (s : Stepped) (p : Place) → All (To p) s → All (To p) (pick b (Err Damaged) s)
unless_refused_lem true s p f = tt
unless_refused_lem false s p f = f

over_is : (who : Who) → (after_queue who).place ≡ over_for who
over_is (Waiter w) = refl
over_is Leaver = refl

-- a mark read is the one of a node
abbrev Marked : Mark → Bool → Type 0
Marked Missing b = Unit {0}
Marked Reader b = b ≡ false
Marked Writer b = b ≡ true

module _ (v : View) where
  -- ── what a judged word leads to ──

  tries_to : (b : Bool) (r : Option Word) → All (To (tries_on b v.word r)) (try_read_by v b v.word r)
  tries_to b (Some to) = refl
  tries_to true None = refl
  tries_to false None = refl

  tried_to : (b : Bool) (r : Option Word) → All (To (tried_on b v.word r)) (try_read_cas_by v b r)
  tried_to true (Some to) = refl
  tried_to false (Some to) = refl
  tried_to b None = tries_to b (read_lock_of v.word)

  contends_to : (w : Bool) (r : ℕ) (y : Option Word) → All (To (contends_on w r v.word y)) (contend_by v w r v.word y)
  contends_to w r (Some to) = refl
  contends_to w r None = either (queued v.word) _ _ _ _ refl (either (ltb r 7) _ _ _ _ refl refl)

  contended_to : (w : Bool) (r : ℕ) (y : Option Word) → All (To (contended_on w r v.word y)) (contend_cas_by v w r y)
  contended_to w r (Some to) = refl
  contended_to w r None = contends_to w r (permitted_of w v.word)

  unlocks_to : (y : ReadUnlocked) → All (To (unlocks_on v.word y)) (read_unlock_by v v.word y)
  unlocks_to (UnlockTo to) = refl
  unlocks_to Contended = refl
  unlocks_to UnlockRefused = tt

  unlocked_to : (y : ReadUnlocked) → All (To (unlocked_on v.word y)) (read_unlock_cas_by v y)
  unlocked_to (UnlockTo to) = refl
  unlocked_to Contended = unlocks_to (read_unlock_of v.word)
  unlocked_to UnlockRefused = unlocks_to (read_unlock_of v.word)

  marks_to : (who : Who) (x : Word) (tail : NodeNumber) (mark : Mark) (b : Bool)
      → Marked mark b
      → All (To (marked_on who x tail b)) (marked_by v (with_tail v.node tail) who x tail mark)
  marks_to who x tail Missing b e = tt
  marks_to who x tail Reader b e = rw e
  marks_to who x tail Writer b e = rw e (either (downgraded x) _ _ _ _ refl refl)

  -- ── every place ──

  module _ (writer : NodeNumber → Bool) where
    abbrev Goes : Place → Type 0
    Goes p =
        let found = value_in (access_of v.me p).location v.word v.node v.token in
        All (To (goes_to v.me p v.fails found writer)) (advance_of v p)

    register_goes : (w : Bool) (r : ℕ) (x : Word) → Goes (At.RegisterCas w r x)
    unfolding advance_of access_of goes_to
    register_goes w r x =
        either (agrees_of v x)
        (writes v (registered_of x v.me) v.holding (after_register w x (registered_of x v.me)))
        (contend_judged v w r v.word)
        _
        _
        (next_either (queued x) _ _ _ _ (next_either (queue_locked x) _ _ _ _ refl refl) refl)
        (contends_to w r (permitted_of w v.word))

    found_goes : (who : Who) (x : Word) (tail : NodeNumber)
        → Marked v.mark (writer tail)
        → Goes (At.WalkHead (Queue who) x tail)
    unfolding advance_of access_of goes_to
    found_goes who x tail e =
        let marked = marked_by v (with_tail v.node tail) who x tail v.mark in
        let mark = marks_to who x tail v.mark (writer tail) e in
        either (locked x) _ _ _ _ (either (downgraded x) marked _ _ _ mark refl) mark

    release_goes : (x : Word) → Goes (At.ReleaseCas x)
    unfolding advance_of access_of goes_to
    release_goes x =
        either (agrees_of v x)
        (writes v (released_to x) (released_write v.holding) (after_release x (released_to x)))
        (stays v (at (At.ReleaseCas v.word)))
        _
        _
        (next_either (queue_locked x) _ _ _ _ refl refl)
        refl

    downgrade_slow_goes : (x : Word) → Goes (At.DowngradeSlowCas x)
    unfolding advance_of access_of goes_to
    downgrade_slow_goes x =
        either (agrees_of v x)
        (writes v (downgraded_word x) (downgraded_to v.holding) (after_downgrade x))
        (stays v (at (At.DowngradeSlowCas v.word)))
        _
        _
        (next_either (queue_locked x) _ _ _ _ refl refl)
        refl

    -- whose writer mark local code reads, at a walk's end
    abbrev Reads : Place → Type 0
    Reads p =
        (who : Who) (x : Word) (tail : NodeNumber)
        → p ≡ At.WalkHead (Queue who) x tail
        → Marked v.mark (writer tail)

    rule_goes : (p : Place) → Reads p → Goes p
    unfolding advance_of access_of goes_to
    rule_goes At.Idle mark = tt
    rule_goes (At.TryReadLoad b) mark = tries_to b (read_lock_of v.word)
    rule_goes (At.TryReadCas b x) mark =
        either (agrees_of v x) (try_read_cas_by v b (read_lock_of x)) (try_read_judged v b v.word) _ _
        (tried_to b (read_lock_of x))
        (tries_to b (read_lock_of v.word))
    rule_goes (At.TryWriteOr true) mark = either (locked v.word) _ _ _ _ refl refl
    rule_goes (At.TryWriteOr false) mark = either (locked v.word) _ _ _ _ refl refl
    rule_goes (At.ContendLoad w r) mark = contends_to w r (permitted_of w v.word)
    rule_goes (At.ContendCas w r x) mark =
        either (agrees_of v x) (contend_cas_by v w r (permitted_of w x)) (contend_judged v w r v.word) _ _
        (contended_to w r (permitted_of w x))
        (contends_to w r (permitted_of w v.word))
    rule_goes (At.RegisterCas w r x) mark = register_goes w r x
    rule_goes (At.CompletedLoad w) mark = by_bit v.node.completed _ _ _ _ refl refl
    rule_goes (At.Park w) mark = park_ends v _ w (λ _. refl) (λ _. refl)
    rule_goes (At.WalkTail k x n) mark = either (is_none v.node.tail) _ _ _ _ refl refl
    rule_goes (At.WalkNext k x n) mark = refl
    rule_goes (At.WalkPrev k x n y) mark = refl
    rule_goes (At.WalkHead (Queue who) x z) mark = found_goes who x z (mark who x z refl)
    rule_goes (At.WalkHead ReadUnlock x z) mark = refl
    rule_goes (At.WalkHead Downgrade x z) mark = refl
    rule_goes (At.QueueCas who x) mark =
        either (agrees_of v x) (writes v (clear_queue_locked x) v.holding (after_queue who)) _ _ _ (over_is who) refl
    rule_goes (At.SplitPrev who x z) mark = either (is_none v.node.prev) _ _ _ _ refl refl
    rule_goes (At.SplitStore who x z y) mark = refl
    rule_goes (At.SplitCas who x z) mark = either (agrees_of v x) _ _ _ _ refl refl
    rule_goes (At.SplitRestore who x z y) mark = refl
    rule_goes (At.TakeCas who x z) mark = either (agrees_of v x) _ _ _ _ refl refl
    rule_goes (At.WakePrev who n) mark = refl
    rule_goes (At.WakeStore who n y) mark =
        either (is_none y)
        (completes v (with_completed v.node) (owner_of n) (after_queue who))
        (completes v (with_completed v.node) (owner_of n) (at (At.WakePrev who y)))
        _
        _
        (over_is who)
        refl
    rule_goes At.ReadUnlockLoad mark = unlocks_to (read_unlock_of v.word)
    rule_goes (At.ReadUnlockCas x) mark =
        either (agrees_of v x) (read_unlock_cas_by v (read_unlock_of x)) (read_unlock_judged v v.word) _ _
        (unlocked_to (read_unlock_of x))
        (unlocks_to (read_unlock_of v.word))
    rule_goes (At.Subtract x z) mark =
        unless_refused_lem (ltb v.node.next.0 SINGLE) _ _
        (next_either (eqb (v.node.next.0 - SINGLE) 0) _ _ _ _ refl refl)
    rule_goes At.WriteUnlockCas mark = either (eqb v.word.0 LOCKED) _ _ _ _ refl refl
    rule_goes (At.ReleaseCas x) mark = release_goes x
    rule_goes At.DowngradeCas mark = either (eqb v.word.0 LOCKED) _ _ _ _ refl refl
    rule_goes (At.DowngradeSlowCas x) mark = downgrade_slow_goes x

-- ── the tail's mark ──

marked_by_lem : (b : Bool) → Marked (pick b Writer Reader) b
marked_by_lem true = refl
marked_by_lem false = refl

mark_is : (m : Machine) (tail : NodeNumber) → Marked (mark_of m tail) (writer_of m tail)
mark_is m tail = by (slot_of tail m.count) refl
  where
    by : (s : Option ℕ) → slot_of tail m.count ≡ s → Marked (mark_by m s) (writer_of m tail)
    by None e = tt
    by (Some k) e =
        subst (λ j. Marked (pick (node_at m j).writer Writer Reader) (writer_of m tail))
        (let f : tail.0 ≡ k + 1 = (slot_at tail m.count k e).0 in omega (arith, f))
        (marked_by_lem (writer_of m tail))

mark_read_lem : (m : Machine) (p : Place) (who : Who) (x : Word) (tail : NodeNumber)
    → p ≡ At.WalkHead (Queue who) x tail
    → Marked (mark_of m (marked_of p)) (writer_of m tail)
unfolding marked_of
mark_read_lem m p who x tail e =
    subst (λ q. Marked (mark_of m (marked_of q)) (writer_of m tail)) (sym e) (mark_is m tail)

-- ── the machine ──

pub goes_exactly : GoesExactly event_of
goes_exactly m code t a w z is_step e =
    let s = step_made m code t a w is_step e in
    let p = place_of m t in
    let l = (access_at m t).location in
    let v = seen m code t a w e s in
    let found = value_in l m.word (node_at m s.k) (thread_at m t.0).token in
    let facts : s.c.thread.place ≡ goes_to t p s.fails found (writer_of m) =
    by_rule m code t a w e s
    (To (goes_to t p s.fails found (writer_of m)))
    (rule_goes v (writer_of m) p (mark_read_lem m p)) in
    own_place m code t a w e s z ∙
    (facts ∙
    (ap (λ f. goes_to t p f found (writer_of m)) (fails_17 code s.fails s.codes) ∙
    ap (λ y. goes_to t p (eqb code 17) y (writer_of m))
    (sym (value_in_lem m t l s.k (touched m code t a w e s) (own_token t p).own))))
