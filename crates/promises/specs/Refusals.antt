-- Document 01's refusal table: each number with its condition, in the order of checking.
-- Assumes nothing.
use Rattle.std.specs.Prelude.{ℕ, ◌+◌, ◌-◌, Bool, true, false, not, List, [], ◌∷◌, leb, ltb, eqb, Err, Ok}
use Rattle.word.specs.Base.{pick}
use Rattle.word.specs.Flags.{LOCKED, SINGLE, locked, queued, downgraded}
use Rattle.word.specs.declared.flags.Word.{Word}
use Rattle.word.specs.declared.number.NodeNumber.{NodeNumber}
use Rattle.word.specs.declared.number.ThreadNumber.{ThreadNumber}
use Rattle.state.specs.Access.{access_of}
use Rattle.state.specs.Answer.{refusal_number, Reply}
use Rattle.state.specs.Holding.{reads_of, writes_of}
use Rattle.state.specs.Machine.{good_count, thread_at, node_at}
use Rattle.state.specs.declared.access.Kind.{Kind}
use Rattle.state.specs.declared.access.Kind.TheVariants.{Nothing, Load, Store, WeakCompare, StrongCompare, FetchOr}
use Rattle.state.specs.declared.access.Kind.TheVariants.{Subtract as Subtracting, Complete, Park as Parking}
use Rattle.state.specs.declared.access.Location.{Location}
use Rattle.state.specs.declared.access.Location.TheVariants.{Nowhere, Word as TheWord, Next}
use Rattle.state.specs.declared.access.Location.TheVariants.{Prev, Tail, Completed, Token}
use Rattle.state.specs.declared.holding.Holding.{Holding}
use Rattle.state.specs.declared.machine.Machine.{Machine}
use Rattle.state.specs.declared.place.Walk.{Walk}
use Rattle.state.specs.declared.place.Walk.TheVariants.{Queue, ReadUnlock, Downgrade}
use Rattle.state.specs.declared.place.Place.{Place}
use Rattle.state.specs.declared.place.Place.TheVariants as At

abbrev pub and : Bool → Bool → Bool
and a b = pick a b false

abbrev pub or : Bool → Bool → Bool
or a b = pick a true b

-- the number that a reply gives; 0 where the event is accepted
abbrev pub number_given : Reply → ℕ
number_given (Ok told) = 0
number_given (Err r) = refusal_number r

pub record Row : Type 0 where
  pub number : ℕ
  pub given_when : Bool

abbrev pub row : ℕ → Bool → Row
row n b = record { number = n; given_when = b }

-- the number of the first row whose condition holds; 0 where none does
abbrev pub first_of : List Row → ℕ
first_of [] = 0
first_of (r ∷ rows) = pick r.given_when r.number (first_of rows)

-- ── the conditions ──

abbrev pub begins : ℕ → Bool
begins code = leb code 6

abbrev pub steps : ℕ → Bool
steps code = or (eqb code 16) (eqb code 17)

abbrev pub idle : Kind → Bool
idle Nothing = true
idle Load = false
idle Store = false
idle WeakCompare = false
idle StrongCompare = false
idle FetchOr = false
idle Subtracting = false
idle Complete = false
idle Parking = false

abbrev pub asleep : Kind → Bool
asleep Nothing = false
asleep Load = false
asleep Store = false
asleep WeakCompare = false
asleep StrongCompare = false
asleep FetchOr = false
asleep Subtracting = false
asleep Complete = false
asleep Parking = true

-- a weak compare or park
abbrev pub may_fail : Kind → Bool
may_fail Nothing = false
may_fail Load = false
may_fail Store = false
may_fail WeakCompare = true
may_fail StrongCompare = false
may_fail FetchOr = false
may_fail Subtracting = false
may_fail Complete = false
may_fail Parking = true

-- begin 0..3 while holding; 4 not holding read; 5 or 6 not holding write
abbrev pub wrong_holding : ℕ → Holding → Bool
wrong_holding code h =
    pick (leb code 3) (ltb 0 (reads_of h + writes_of h)) (pick (eqb code 4) (eqb (reads_of h) 0) (eqb (writes_of h) 0))

abbrev pub outside : ℕ → NodeNumber → Bool
outside count n = or (ltb n.0 1) (ltb count n.0)

abbrev pub any_outside : ℕ → List NodeNumber → Bool
any_outside count [] = false
any_outside count (n ∷ ns) = or (outside count n) (any_outside count ns)

-- the node that an access touches
abbrev pub accessed : Location → List NodeNumber
accessed Nowhere = []
accessed TheWord = []
accessed (Next n) = n ∷ []
accessed (Prev n) = n ∷ []
accessed (Tail n) = n ∷ []
accessed (Completed n) = n ∷ []
accessed (Token t) = []

-- unlock queue reads the tail's writer mark, unless it saw LOCKED without DOWNGRADED
abbrev pub mark_read : Walk → Word → NodeNumber → List NodeNumber
mark_read (Queue who) seen tail = pick (locked seen) (pick (downgraded seen) (tail ∷ []) []) (tail ∷ [])
mark_read ReadUnlock seen tail = []
mark_read Downgrade seen tail = []

-- the node that local code after the access touches
unfoldable pub then_touched : Place → List NodeNumber
then_touched At.Idle = []
then_touched (At.TryReadLoad _) = []
then_touched (At.TryReadCas _ _) = []
then_touched (At.TryWriteOr _) = []
then_touched (At.ContendLoad _ _) = []
then_touched (At.ContendCas _ _ _) = []
then_touched (At.RegisterCas _ _ _) = []
then_touched (At.CompletedLoad _) = []
then_touched (At.Park _) = []
then_touched (At.WalkTail _ _ _) = []
then_touched (At.WalkNext _ _ _) = []
then_touched (At.WalkPrev _ _ _ _) = []
then_touched (At.WalkHead walk seen tail) = mark_read walk seen tail
then_touched (At.QueueCas _ _) = []
then_touched (At.SplitPrev _ _ _) = []
then_touched (At.SplitStore _ _ _ _) = []
then_touched (At.SplitCas _ _ _) = []
then_touched (At.SplitRestore _ _ _ _) = []
then_touched (At.TakeCas _ _ _) = []
then_touched (At.WakePrev _ _) = []
then_touched (At.WakeStore _ _ _) = []
then_touched At.ReadUnlockLoad = []
then_touched (At.ReadUnlockCas _) = []
then_touched (At.Subtract _ _) = []
then_touched At.WriteUnlockCas = []
then_touched (At.ReleaseCas _) = []
then_touched At.DowngradeCas = []
then_touched (At.DowngradeSlowCas _) = []

-- read_unlock would subtract 17 from the word
abbrev pub below_one : Word → Bool
below_one w = and (not (queued w)) (ltb w.0 (SINGLE + LOCKED))

-- subtract 17 from a word below 17 or 16 from a next below 16
unfoldable pub subtracts_below : Machine → Place → Bool
subtracts_below m At.Idle = false
subtracts_below m (At.TryReadLoad _) = false
subtracts_below m (At.TryReadCas _ _) = false
subtracts_below m (At.TryWriteOr _) = false
subtracts_below m (At.ContendLoad _ _) = false
subtracts_below m (At.ContendCas _ _ _) = false
subtracts_below m (At.RegisterCas _ _ _) = false
subtracts_below m (At.CompletedLoad _) = false
subtracts_below m (At.Park _) = false
subtracts_below m (At.WalkTail _ _ _) = false
subtracts_below m (At.WalkNext _ _ _) = false
subtracts_below m (At.WalkPrev _ _ _ _) = false
subtracts_below m (At.WalkHead _ _ _) = false
subtracts_below m (At.QueueCas _ _) = false
subtracts_below m (At.SplitPrev _ _ _) = false
subtracts_below m (At.SplitStore _ _ _ _) = false
subtracts_below m (At.SplitCas _ _ _) = false
subtracts_below m (At.SplitRestore _ _ _ _) = false
subtracts_below m (At.TakeCas _ _ _) = false
subtracts_below m (At.WakePrev _ _) = false
subtracts_below m (At.WakeStore _ _ _) = false
subtracts_below m At.ReadUnlockLoad = below_one m.word
subtracts_below m (At.ReadUnlockCas _) = below_one m.word
subtracts_below m (At.Subtract _ tail) = ltb (node_at m (tail.0 - 1)).next.0 SINGLE
subtracts_below m At.WriteUnlockCas = false
subtracts_below m (At.ReleaseCas _) = false
subtracts_below m At.DowngradeCas = false
subtracts_below m (At.DowngradeSlowCas _) = false

-- the step, local code included, would touch a node outside 1..count, or subtract too much
abbrev pub damaged : Machine → ThreadNumber → Place → Bool
damaged m t p =
    or (any_outside m.count (accessed (access_of t p).location))
    (or (any_outside m.count (then_touched p)) (subtracts_below m p))

-- ── the table ──

abbrev pub step_rows : Machine → ℕ → ThreadNumber → Place → List Row
step_rows m code t p =
    row 5 (and (steps code) (idle (access_of t p).kind)) ∷
    row 6 (and (eqb code 16) (and (asleep (access_of t p).kind) (not (thread_at m t.0).token))) ∷
    row 7 (and (eqb code 17) (not (may_fail (access_of t p).kind))) ∷
    row 8 (and (steps code) (damaged m t p)) ∷
    []

abbrev pub refusal_rows : Machine → ℕ → ThreadNumber → List Row
refusal_rows m code t =
    row 8 (not (good_count m.count)) ∷
    row 1 (not (or (begins code) (steps code))) ∷
    row 2 (leb m.count t.0) ∷
    row 3 (and (begins code) (not (idle (access_of t (thread_at m t.0).place).kind))) ∷
    row 4 (and (begins code) (wrong_holding code (thread_at m t.0).holding)) ∷
    step_rows m code t (thread_at m t.0).place
