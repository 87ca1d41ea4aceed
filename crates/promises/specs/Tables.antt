-- The tables of docs/PLACES.md, to hold beside document 01: place, what was found at its access, what follows.
-- In order: what is found; where a call begins; the word that a place goes by; what is left at the access; the places
-- that the statements on grants name apart. Every table has its rows in the order of docs/PLACES.md.
-- Not here: where a step goes on to and which node it fills (Goes.antt); the access of a place (state, Access.antt);
-- the words that the lock's rules make (word, Rules.antt); the refusals (Refusals.antt). That a step follows the tables
-- is said in Statements.antt.
-- Assumes nothing.
use Rattle.std.specs.Prelude.{ℕ, ◌+◌, ◌-◌, Bool, true, false, not, eqb, Option, Some, None}
use Rattle.word.specs.Base.{pick}
use Rattle.word.specs.Flags.{word, LOCKED, SINGLE, locked, queued, queue_locked, downgraded}
use Rattle.word.specs.Flags.{clear_locked, set_locked, clear_queue_locked, set_queue_locked, set_downgraded}
use Rattle.word.specs.Rules.{read_lock_of, registered_of, taken_of, read_unlock_of}
use Rattle.word.specs.declared.flags.Word.{Word}
use Rattle.word.specs.declared.number.NodeNumber.{NodeNumber}
use Rattle.word.specs.declared.number.ThreadNumber.{ThreadNumber}
use Rattle.word.specs.declared.rules.ReadUnlocked.{ReadUnlocked}
use Rattle.word.specs.declared.rules.ReadUnlocked.TheVariants.{To as UnlockTo, Contended, Refused as UnlockRefused}
use Rattle.state.specs.Machine.{thread_at, node_at}
use Rattle.state.specs.declared.access.Location.{Location}
use Rattle.state.specs.declared.access.Location.TheVariants.{Nowhere, Word as TheWord, Next, Prev, Tail, Completed}
use Rattle.state.specs.declared.access.Location.TheVariants.{Token}
use Rattle.state.specs.declared.machine.Machine.{Machine}
use Rattle.state.specs.declared.place.Place.{Place}
use Rattle.state.specs.declared.place.Place.TheVariants as At
use Rattle.acquire.specs.LockContended.{permitted_of}
use Rattle.promises.specs.Refusals.{and}

-- ── what is found ──

abbrev pub bit : Bool → ℕ
bit true = 1
bit false = 0

-- the value at a location, as a number
abbrev pub value_at : Machine → Location → ℕ
value_at m Nowhere = 0
value_at m TheWord = m.word.0
value_at m (Next n) = (node_at m (n.0 - 1)).next.0
value_at m (Prev n) = (node_at m (n.0 - 1)).prev.0
value_at m (Tail n) = (node_at m (n.0 - 1)).tail.0
value_at m (Completed n) = bit (node_at m (n.0 - 1)).completed
value_at m (Token u) = bit (thread_at m u.0).token

-- the writer mark of a node
abbrev pub writer_of : Machine → NodeNumber → Bool
writer_of m n = (node_at m (n.0 - 1)).writer

abbrev pub in_word : Location → Bool
in_word Nowhere = false
in_word TheWord = true
in_word (Next n) = false
in_word (Prev n) = false
in_word (Tail n) = false
in_word (Completed n) = false
in_word (Token t) = false

-- ── where a call begins ──

-- 0 read, 1 write, 2 try_read, 3 try_write, 4 read_unlock, 5 write_unlock, 6 downgrade; read and write block
abbrev pub begins_at : ℕ → Place
begins_at code =
    pick (eqb code 0)
    (At.TryReadLoad true)
    (pick (eqb code 1)
    (At.TryWriteOr true)
    (pick (eqb code 2)
    (At.TryReadLoad false)
    (pick (eqb code 3)
    (At.TryWriteOr false)
    (pick (eqb code 4) At.ReadUnlockLoad (pick (eqb code 5) At.WriteUnlockCas At.DowngradeCas)))))

-- ── the word that a place goes by ──

pub data Seen : Type 0 where
  nothing : Seen
  saw : Word → Seen

-- the word last loaded, written or reported; at a restore the one reported
unfoldable pub goes_by : Place → Seen
goes_by At.Idle = nothing
goes_by (At.TryReadLoad _) = nothing
goes_by (At.TryReadCas _ seen) = saw seen
goes_by (At.TryWriteOr _) = nothing
goes_by (At.ContendLoad _ _) = nothing
goes_by (At.ContendCas _ _ seen) = saw seen
goes_by (At.RegisterCas _ _ seen) = saw seen
goes_by (At.CompletedLoad _) = nothing
goes_by (At.Park _) = nothing
goes_by (At.WalkTail _ seen _) = saw seen
goes_by (At.WalkNext _ seen _) = saw seen
goes_by (At.WalkPrev _ seen _ _) = saw seen
goes_by (At.WalkHead _ seen _) = saw seen
goes_by (At.QueueCas _ seen) = saw seen
goes_by (At.SplitPrev _ seen _) = saw seen
goes_by (At.SplitStore _ seen _ _) = saw seen
goes_by (At.SplitCas _ seen _) = saw seen
goes_by (At.SplitRestore _ _ _ reported) = saw reported
goes_by (At.TakeCas _ seen _) = saw seen
goes_by (At.WakePrev _ _) = nothing
goes_by (At.WakeStore _ _ _) = nothing
goes_by At.ReadUnlockLoad = nothing
goes_by (At.ReadUnlockCas seen) = saw seen
goes_by (At.Subtract seen _) = saw seen
goes_by At.WriteUnlockCas = nothing
goes_by (At.ReleaseCas seen) = saw seen
goes_by At.DowngradeCas = nothing
goes_by (At.DowngradeSlowCas seen) = saw seen

-- the word whose head a restore stores to, the old one
unfoldable pub restores_at : Place → Seen
restores_at At.Idle = nothing
restores_at (At.TryReadLoad _) = nothing
restores_at (At.TryReadCas _ _) = nothing
restores_at (At.TryWriteOr _) = nothing
restores_at (At.ContendLoad _ _) = nothing
restores_at (At.ContendCas _ _ _) = nothing
restores_at (At.RegisterCas _ _ _) = nothing
restores_at (At.CompletedLoad _) = nothing
restores_at (At.Park _) = nothing
restores_at (At.WalkTail _ _ _) = nothing
restores_at (At.WalkNext _ _ _) = nothing
restores_at (At.WalkPrev _ _ _ _) = nothing
restores_at (At.WalkHead _ _ _) = nothing
restores_at (At.QueueCas _ _) = nothing
restores_at (At.SplitPrev _ _ _) = nothing
restores_at (At.SplitStore _ _ _ _) = nothing
restores_at (At.SplitCas _ _ _) = nothing
restores_at (At.SplitRestore _ seen _ _) = saw seen
restores_at (At.TakeCas _ _ _) = nothing
restores_at (At.WakePrev _ _) = nothing
restores_at (At.WakeStore _ _ _) = nothing
restores_at At.ReadUnlockLoad = nothing
restores_at (At.ReadUnlockCas _) = nothing
restores_at (At.Subtract _ _) = nothing
restores_at At.WriteUnlockCas = nothing
restores_at (At.ReleaseCas _) = nothing
restores_at At.DowngradeCas = nothing
restores_at (At.DowngradeSlowCas _) = nothing

-- ── what is left at the access ──

-- a compare: the new value, where it is not made to fail and the value found is the one seen
abbrev pub compared : Bool → ℕ → ℕ → ℕ → ℕ
compared fails found seen new = pick (pick fails false (eqb found seen)) new found

-- the word that read_lock, the lock rule of a call and read_unlock make of the one seen; that one where they refuse
abbrev pub read_to : Word → Option Word → ℕ
read_to seen (Some to) = to.0
read_to seen None = seen.0

abbrev pub permit_to : Word → Option Word → ℕ
permit_to seen (Some to) = to.0
permit_to seen None = seen.0

abbrev pub unlock_to : Word → ReadUnlocked → ℕ
unlock_to seen (UnlockTo to) = to.0
unlock_to seen Contended = seen.0
unlock_to seen UnlockRefused = seen.0

-- with QUEUE_LOCKED set, LOCKED cleared; else QUEUE_LOCKED set too
abbrev pub release_to : Word → ℕ
release_to seen = (pick (queue_locked seen) (clear_locked seen) (set_queue_locked (clear_locked seen))).0

-- with QUEUE_LOCKED set, DOWNGRADED set; else 17
abbrev pub downgrade_to : Word → ℕ
downgrade_to seen = (pick (queue_locked seen) (set_downgraded seen) (word (SINGLE + LOCKED))).0

-- by the thread, its place, whether the step is made to fail, and the value found
unfoldable pub left_by : ThreadNumber → Place → Bool → ℕ → ℕ
left_by t At.Idle fails found = found
left_by t (At.TryReadLoad _) fails found = found
left_by t (At.TryReadCas _ seen) fails found = compared fails found seen.0 (read_to seen (read_lock_of seen))
left_by t (At.TryWriteOr _) fails found = (set_locked (word found)).0
left_by t (At.ContendLoad _ _) fails found = found
left_by t (At.ContendCas writer _ seen) fails found =
    compared fails found seen.0 (permit_to seen (permitted_of writer seen))
left_by t (At.RegisterCas _ _ seen) fails found = compared fails found seen.0 (registered_of seen t).0
left_by t (At.CompletedLoad _) fails found = found
left_by t (At.Park _) fails found = pick fails found 0
left_by t (At.WalkTail _ _ _) fails found = found
left_by t (At.WalkNext _ _ _) fails found = found
left_by t (At.WalkPrev _ _ current _) fails found = current.0
left_by t (At.WalkHead _ _ tail) fails found = tail.0
left_by t (At.QueueCas _ seen) fails found = compared fails found seen.0 (clear_queue_locked seen).0
left_by t (At.SplitPrev _ _ _) fails found = found
left_by t (At.SplitStore _ _ _ prev) fails found = prev.0
left_by t (At.SplitCas _ seen _) fails found = compared fails found seen.0 (clear_queue_locked seen).0
left_by t (At.SplitRestore _ _ tail _) fails found = tail.0
left_by t (At.TakeCas _ seen _) fails found = compared fails found seen.0 (taken_of seen).0
left_by t (At.WakePrev _ _) fails found = found
left_by t (At.WakeStore _ _ _) fails found = 1
left_by t At.ReadUnlockLoad fails found = found
left_by t (At.ReadUnlockCas seen) fails found = compared fails found seen.0 (unlock_to seen (read_unlock_of seen))
left_by t (At.Subtract _ _) fails found = found - SINGLE
left_by t At.WriteUnlockCas fails found = compared false found LOCKED 0
left_by t (At.ReleaseCas seen) fails found = compared fails found seen.0 (release_to seen)
left_by t At.DowngradeCas fails found = compared false found LOCKED (SINGLE + LOCKED)
left_by t (At.DowngradeSlowCas seen) fails found = compared fails found seen.0 (downgrade_to seen)

-- ── places that grants name apart ──

-- the one place that changes a holding without the word
unfoldable pub subtracting : Place → Bool
subtracting At.Idle = false
subtracting (At.TryReadLoad _) = false
subtracting (At.TryReadCas _ _) = false
subtracting (At.TryWriteOr _) = false
subtracting (At.ContendLoad _ _) = false
subtracting (At.ContendCas _ _ _) = false
subtracting (At.RegisterCas _ _ _) = false
subtracting (At.CompletedLoad _) = false
subtracting (At.Park _) = false
subtracting (At.WalkTail _ _ _) = false
subtracting (At.WalkNext _ _ _) = false
subtracting (At.WalkPrev _ _ _ _) = false
subtracting (At.WalkHead _ _ _) = false
subtracting (At.QueueCas _ _) = false
subtracting (At.SplitPrev _ _ _) = false
subtracting (At.SplitStore _ _ _ _) = false
subtracting (At.SplitCas _ _ _) = false
subtracting (At.SplitRestore _ _ _ _) = false
subtracting (At.TakeCas _ _ _) = false
subtracting (At.WakePrev _ _) = false
subtracting (At.WakeStore _ _ _) = false
subtracting At.ReadUnlockLoad = false
subtracting (At.ReadUnlockCas _) = false
subtracting (At.Subtract _ _) = true
subtracting At.WriteUnlockCas = false
subtracting (At.ReleaseCas _) = false
subtracting At.DowngradeCas = false
subtracting (At.DowngradeSlowCas _) = false

-- what queue.rs asserts of the word that a release or a slow downgrade starts on: QUEUED and LOCKED set, DOWNGRADED
-- clear. Only a damaged machine has another word there
abbrev pub contended : Word → Bool
contended w = and (queued w) (and (locked w) (not (downgraded w)))

unfoldable pub asserted : Place → Bool
asserted At.Idle = true
asserted (At.TryReadLoad _) = true
asserted (At.TryReadCas _ _) = true
asserted (At.TryWriteOr _) = true
asserted (At.ContendLoad _ _) = true
asserted (At.ContendCas _ _ _) = true
asserted (At.RegisterCas _ _ _) = true
asserted (At.CompletedLoad _) = true
asserted (At.Park _) = true
asserted (At.WalkTail _ _ _) = true
asserted (At.WalkNext _ _ _) = true
asserted (At.WalkPrev _ _ _ _) = true
asserted (At.WalkHead _ _ _) = true
asserted (At.QueueCas _ _) = true
asserted (At.SplitPrev _ _ _) = true
asserted (At.SplitStore _ _ _ _) = true
asserted (At.SplitCas _ _ _) = true
asserted (At.SplitRestore _ _ _ _) = true
asserted (At.TakeCas _ _ _) = true
asserted (At.WakePrev _ _) = true
asserted (At.WakeStore _ _ _) = true
asserted At.ReadUnlockLoad = true
asserted (At.ReadUnlockCas _) = true
asserted (At.Subtract _ _) = true
asserted At.WriteUnlockCas = true
asserted (At.ReleaseCas seen) = contended seen
asserted At.DowngradeCas = true
asserted (At.DowngradeSlowCas seen) = contended seen
