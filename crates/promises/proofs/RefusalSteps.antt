-- The refusal table at a step: which places' rules refuse, and that 5, 6, 7 and 8 are given as the table says.
-- Assumes nothing.
use Rattle.std.specs.Prelude.{ℕ, ◌+◌, ◌-◌, ◌<◌, Bool, true, false, not, [], ◌∷◌, ◌≡◌, refl, T, ltb, eqb, Err, Ok}
use Rattle.std.specs.Prelude.{Option, Some, None}
use Rattle.std.proofs.Common.{sym, ap, subst, ◌∙◌, arith, eqb-true, le-ltb}
use Rattle.word.specs.Base.{pick}
use Rattle.word.specs.Cases.{pick_both, pick_second}
use Rattle.word.specs.Flags.{word, LOCKED, SINGLE, locked, queued, downgraded, to_node}
use Rattle.word.specs.Number.{node_of}
use Rattle.word.specs.Rules.{read_lock_of, read_unlock_of}
use Rattle.word.specs.declared.flags.Word.{Word}
use Rattle.word.specs.declared.number.NodeNumber.{NodeNumber}
use Rattle.word.specs.declared.number.ThreadNumber.{ThreadNumber}
use Rattle.word.specs.declared.rules.ReadUnlocked.{ReadUnlocked}
use Rattle.word.specs.declared.rules.ReadUnlocked.TheVariants.{To as UnlockTo, Contended, Refused as UnlockRefused}
use Rattle.state.specs.Access.{access_of, touched_at, touched_of}
use Rattle.state.specs.Machine.{thread_at, node_at}
use Rattle.state.specs.View.{agrees_of, Stepped}
use Rattle.state.specs.declared.access.Kind.{Kind}
use Rattle.state.specs.declared.access.Kind.TheVariants.{Nothing, Load, Store, WeakCompare, StrongCompare, FetchOr}
use Rattle.state.specs.declared.access.Kind.TheVariants.{Subtract as Subtracting, Complete, Park as Parking}
use Rattle.state.specs.declared.access.Location.{Location}
use Rattle.state.specs.declared.access.Location.TheVariants.{Nowhere, Word as TheWord, Next}
use Rattle.state.specs.declared.access.Location.TheVariants.{Prev, Tail, Completed, Token}
use Rattle.state.specs.declared.answer.Refusal.TheVariants.{Damaged}
use Rattle.state.specs.declared.machine.Machine.{Machine}
use Rattle.state.specs.declared.node.Node.{Node}
use Rattle.state.specs.declared.place.Place.{Place}
use Rattle.state.specs.declared.place.Place.TheVariants as At
use Rattle.state.specs.declared.place.Walk.{Walk}
use Rattle.state.specs.declared.place.Walk.TheVariants.{Queue, ReadUnlock, Downgrade}
use Rattle.state.specs.declared.place.Who.{Who}
use Rattle.state.specs.declared.view.Change.{Change}
use Rattle.state.specs.declared.view.Mark.TheVariants.{Reader, Writer}
use Rattle.state.specs.declared.view.View.{View}
use Rattle.acquire.specs.LockContended.{contend_by, contend_cas_by, permitted_of}
use Rattle.acquire.specs.TryRead.{try_read_by, try_read_cas_by}
use Rattle.unlock.specs.AfterWalk.{marked_by, walked_of}
use Rattle.release.specs.ReadUnlock.{read_unlock_by, read_unlock_cas_by, read_unlock_judged, read_unlock_cas_of}
use Rattle.lock.specs.Advance.{advance_of}
use Rattle.lock.specs.Landed.{landed_of}
use Rattle.lock.specs.Step.{halted_of, marked_of, mark_by, mark_of, view_at, touching_by, step_by, step_at}
use Rattle.promises.specs.Refusals.{and, or, number_given, row, first_of, idle, asleep}
use Rattle.promises.specs.Refusals.{may_fail, outside, any_outside, accessed, mark_read}
use Rattle.promises.specs.Refusals.{then_touched, below_one, subtracts_below, damaged, step_rows}

-- ── the rules ──

-- a rule refuses, by 8, where the flag holds; else it goes on
data Gives : Stepped → Bool → Type 0 where
  goes : (c : Change) → Gives (Ok c) false
  refuses : Gives (Err Damaged) true

-- a choice between two rules of which both refuse or both go on
gives_both : (b flag : Bool) (x y : Stepped) → Gives x flag → Gives y flag → Gives (pick b x y) flag
gives_both true flag x y p q = p
gives_both false flag x y p q = q

-- a test that refuses
gives_test : (b : Bool) (c : Change) → Gives (pick b (Err Damaged) (Ok c)) b
gives_test true c = refuses
gives_test false c = goes c

-- what a rule that goes on changes is no matter
gives_other : {c : Change} {flag : Bool} (d : Change) → Gives (Ok c) flag → Gives (Ok d) flag
gives_other d (goes c) = goes d

try_read_goes : (v : View) (blocking : Bool) (seen : Word) (r : Option Word)
    → Gives (try_read_by v blocking seen r) false
try_read_goes v blocking seen (Some to) = goes _
try_read_goes v blocking seen None = goes _

try_read_cas_goes : (v : View) (blocking : Bool) (r : Option Word) → Gives (try_read_cas_by v blocking r) false
try_read_cas_goes v blocking (Some to) = goes _
try_read_cas_goes v blocking None = try_read_goes v blocking v.word (read_lock_of v.word)

contend_goes : (v : View) (writer : Bool) (reloads : ℕ) (seen : Word) (r : Option Word)
    → Gives (contend_by v writer reloads seen r) false
contend_goes v writer reloads seen (Some to) = goes _
contend_goes v writer reloads seen None = search (goes, gives_both)

contend_cas_goes : (v : View) (writer : Bool) (reloads : ℕ) (r : Option Word)
    → Gives (contend_cas_by v writer reloads r) false
contend_cas_goes v writer reloads (Some to) = goes _
contend_cas_goes v writer reloads None = contend_goes v writer reloads v.word (permitted_of writer v.word)

ruleset going = (goes, gives_both, try_read_goes, try_read_cas_goes, contend_goes, contend_cas_goes)

-- the tail's mark is missing exactly where the tail is outside
marked_gives : (m : Machine) (v : View) (n : Node) (who : Who) (seen : Word) (tail : NodeNumber)
    → Gives (marked_by v n who seen tail (mark_of m tail)) (outside m.count tail)
marked_gives m v n who seen tail = by_slot (ltb tail.0 1) (ltb m.count tail.0)
  where
    by_mark : (w : Bool) → Gives (marked_by v n who seen tail (pick w Writer Reader)) false
    by_mark true = search (goes, gives_both)
    by_mark false = goes _

    by_slot : (low high : Bool)
        → Gives (marked_by v n who seen tail (mark_by m (pick low None (pick high None (Some (tail.0 - 1))))))
        (or low high)
    by_slot true high = refuses
    by_slot false true = refuses
    by_slot false false = by_mark (node_at m (tail.0 - 1)).writer

or_false : (b : Bool) → or b false ≡ b
or_false true = refl
or_false false = refl

-- the walk's end refuses exactly where it reads the mark of a tail outside
walked_gives : (m : Machine) (v : View) (n : Node) (walk : Walk) (seen : Word) (tail : NodeNumber)
    → v.mark ≡ mark_of m tail
    → Gives (walked_of v n walk seen tail) (or (any_outside m.count (mark_read walk seen tail)) false)
walked_gives m v n (Queue who) seen tail e = by_flags (locked seen) (downgraded seen) _ _ read (goes _)
  where
    read : Gives (marked_by v n who seen tail v.mark) (or (or (outside m.count tail) false) false)
    read = simp (e, or_false) (marked_gives m v n who seen tail)

    by_flags : (l d : Bool) (x y : Stepped)
        → Gives x (or (or (outside m.count tail) false) false)
        → Gives y false
        → Gives (pick l (pick d x y) x) (or (any_outside m.count (pick l (pick d (tail ∷ []) []) (tail ∷ []))) false)
    by_flags true true x y p q = p
    by_flags true false x y p q = q
    by_flags false d x y p q = p
walked_gives m v n ReadUnlock seen tail e = goes _
walked_gives m v n Downgrade seen tail e = goes _

-- read_unlock judged on a word refuses exactly where it would subtract 17 from less
unlock_gives : (v : View) (seen w : Word) → Gives (read_unlock_by v seen (read_unlock_of w)) (below_one w)
unlock_gives v seen w = by_tests (queued w) (downgraded w) (ltb w.0 (SINGLE + LOCKED)) _ _
  where
    by_tests : (q d below : Bool) (x y : Word)
        → Gives (read_unlock_by v seen (pick q (pick d (UnlockTo x) Contended) (pick below UnlockRefused (UnlockTo y))))
        (and (not q) below)
    by_tests true true below x y = goes _
    by_tests true false below x y = goes _
    by_tests false d true x y = refuses
    by_tests false d false x y = goes _

-- a compare that agrees saw the word
agreed : (v : View) (seen : Word) → agrees_of v seen ≡ true → v.word ≡ seen
agreed v seen h =
    let same = (pick_second v.fails false (eqb v.word.0 seen.0) true (λ bad. subst T (sym bad) tt) h).1 in
    ap word (eqb-true v.word.0 seen.0 same)

-- read_unlock's compare refuses by the word that it meets, whether or not it agrees
unlock_cas_gives : (v : View) (seen : Word) → Gives (read_unlock_cas_of v seen) (below_one v.word)
unlock_cas_gives v seen =
    pick_both (λ s. Gives s (below_one v.word)) (agrees_of v seen) _ _
    (λ h. by_rule (read_unlock_of seen) (ap read_unlock_of (agreed v seen h)))
    (λ _. judged)
  where
    judged : Gives (read_unlock_judged v v.word) (below_one v.word)
    judged = unlock_gives v v.word v.word

    by_rule : (r : ReadUnlocked) → read_unlock_of v.word ≡ r → Gives (read_unlock_cas_by v r) (below_one v.word)
    by_rule (UnlockTo to) e = gives_other _ (rw e at judged)
    by_rule Contended e = judged
    by_rule UnlockRefused e = judged

-- past refusals 5, 6 and 7, a rule refuses exactly where the local code would touch a node
-- outside, or subtract too much
rule_gives : (m : Machine) (t : ThreadNumber) (fails : Bool) (p : Place)
    → idle (access_of t p).kind ≡ false
    → Gives (advance_of (view_at m t ((touched_of (access_of t p) t).0 - 1) fails p) p)
    (or (any_outside m.count (then_touched p)) (subtracts_below m p))
unfolding access_of advance_of marked_of then_touched subtracts_below
rule_gives m t fails At.Idle h = absurd (subst T h tt)
rule_gives m t fails (At.TryReadLoad _) h = search going
rule_gives m t fails (At.TryReadCas _ _) h = search going
rule_gives m t fails (At.TryWriteOr _) h = search going
rule_gives m t fails (At.ContendLoad _ _) h = search going
rule_gives m t fails (At.ContendCas _ _ _) h = search going
rule_gives m t fails (At.RegisterCas _ _ _) h = search going
rule_gives m t fails (At.CompletedLoad _) h = search going
rule_gives m t fails (At.Park _) h = search going
rule_gives m t fails (At.WalkTail _ _ _) h = search going
rule_gives m t fails (At.WalkNext _ _ _) h = search going
rule_gives m t fails (At.WalkPrev _ _ _ _) h = search going
rule_gives m t fails (At.WalkHead walk seen tail) h =
    walked_gives m (view_at m t ((to_node seen).0 - 1) fails (At.WalkHead walk seen tail)) _ walk seen tail refl
rule_gives m t fails (At.QueueCas _ _) h = search going
rule_gives m t fails (At.SplitPrev _ _ _) h = search going
rule_gives m t fails (At.SplitStore _ _ _ _) h = search going
rule_gives m t fails (At.SplitCas _ _ _) h = search going
rule_gives m t fails (At.SplitRestore _ _ _ _) h = search going
rule_gives m t fails (At.TakeCas _ _ _) h = search going
rule_gives m t fails (At.WakePrev _ _) h = search going
rule_gives m t fails (At.WakeStore _ _ _) h = search going
rule_gives m t fails At.ReadUnlockLoad h =
    unlock_gives (view_at m t ((node_of t).0 - 1) fails At.ReadUnlockLoad) _ m.word
rule_gives m t fails (At.ReadUnlockCas seen) h =
    unlock_cas_gives (view_at m t ((node_of t).0 - 1) fails (At.ReadUnlockCas seen)) seen
rule_gives m t fails (At.Subtract _ tail) h = gives_test (ltb (node_at m (tail.0 - 1)).next.0 SINGLE) _
rule_gives m t fails At.WriteUnlockCas h = search going
rule_gives m t fails (At.ReleaseCas _) h = search going
rule_gives m t fails At.DowngradeCas h = search going
rule_gives m t fails (At.DowngradeSlowCas _) h = search going

-- ── the step ──

-- the number of a condition's refusal 8
abbrev eight_if : Bool → ℕ
eight_if b = pick b 8 0

landed_number : (m : Machine) (i k : ℕ) {s : Stepped} {flag : Bool} → Gives s flag
    → number_given (landed_of m i k s).reply ≡ eight_if flag
landed_number m i k (goes c) = refl
landed_number m i k refuses = refl

-- a thread's own node is in 1..count
own_inside : (count : ℕ) (t : ThreadNumber) → t.0 < count → outside count (node_of t) ≡ false
own_inside count t h = rw (le-ltb (t.0 + 1) 1 (omega arith), le-ltb count (t.0 + 1) (omega arith))

-- the node that an access touches is outside exactly where the table says; the thread's own never is
touched_outside : (count : ℕ) (t : ThreadNumber) → t.0 < count → (l : Location)
    → outside count (touched_at l t) ≡ any_outside count (accessed l)
touched_outside count t h Nowhere = own_inside count t h
touched_outside count t h TheWord = own_inside count t h
touched_outside count t h (Next n) = sym (or_false (outside count n))
touched_outside count t h (Prev n) = sym (or_false (outside count n))
touched_outside count t h (Tail n) = sym (or_false (outside count n))
touched_outside count t h (Completed n) = sym (or_false (outside count n))
touched_outside count t h (Token _) = own_inside count t h

or_eight : (a b : Bool) → pick a 8 (eight_if b) ≡ eight_if (or a b)
or_eight true b = refl
or_eight false b = refl

-- a step past refusals 5, 6 and 7 is refused, by 8, exactly where it would do damage
fine_number : (m : Machine) (t : ThreadNumber) → t.0 < m.count → (fails : Bool) (p : Place)
    → idle (access_of t p).kind ≡ false
    → number_given (step_by m t fails p (Ok tt)).reply ≡ eight_if (damaged m t p)
fine_number m t h fails p busy =
    by_slot (ltb n.0 1) (ltb m.count n.0)
    ∙ rw (touched_outside m.count t h (access_of t p).location, or_eight)
  where
    n : NodeNumber
    n = touched_of (access_of t p) t

    rest : Bool
    rest = or (any_outside m.count (then_touched p)) (subtracts_below m p)

    by_slot : (low high : Bool)
        → number_given (touching_by m t fails p (pick low None (pick high None (Some (n.0 - 1))))).reply
        ≡ pick (or low high) 8 (eight_if rest)
    by_slot true high = refl
    by_slot false true = refl
    by_slot false false = landed_number m t.0 (n.0 - 1) (rule_gives m t fails p busy)

-- ── the rows of a step ──

-- 5, 6, 7, then 8, by the kind of access
halted_number : (m : Machine) (t : ThreadNumber) (p : Place) (k : Kind) (token fails damage : Bool)
    → (idle k ≡ false → number_given (step_by m t fails p (Ok tt)).reply ≡ eight_if damage)
    → number_given (step_by m t fails p (halted_of k token fails)).reply
    ≡ first_of
    (row 5 (idle k)
    ∷ row 6 (and (not fails) (and (asleep k) (not token)))
    ∷ row 7 (and fails (not (may_fail k)))
    ∷ row 8 damage
    ∷ [])
halted_number m t p Nothing token fails damage fine = refl
halted_number m t p Parking token true damage fine = fine refl
halted_number m t p Parking true false damage fine = fine refl
halted_number m t p Parking false false damage fine = refl
halted_number m t p WeakCompare token true damage fine = fine refl
halted_number m t p WeakCompare token false damage fine = fine refl
halted_number m t p Load token true damage fine = refl
halted_number m t p Load token false damage fine = fine refl
halted_number m t p Store token true damage fine = refl
halted_number m t p Store token false damage fine = fine refl
halted_number m t p StrongCompare token true damage fine = refl
halted_number m t p StrongCompare token false damage fine = fine refl
halted_number m t p FetchOr token true damage fine = refl
halted_number m t p FetchOr token false damage fine = fine refl
halted_number m t p Subtracting token true damage fine = refl
halted_number m t p Subtracting token false damage fine = fine refl
halted_number m t p Complete token true damage fine = refl
halted_number m t p Complete token false damage fine = fine refl

-- a step that does not fail is code 16, and one that does 17
pub step_table : (m : Machine) (t : ThreadNumber) → t.0 < m.count → (fails : Bool) (p : Place)
    → number_given (step_at m t fails p).reply ≡ first_of (step_rows m (pick fails 17 16) t p)
step_table m t h true p =
    halted_number m t p (access_of t p).kind (thread_at m t.0).token true (damaged m t p) (fine_number m t h true p)
step_table m t h false p =
    halted_number m t p (access_of t p).kind (thread_at m t.0).token false (damaged m t p)
    (fine_number m t h false p)
