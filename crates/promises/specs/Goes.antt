-- The other two tables of docs/PLACES.md: where a step goes on to, by its place, what was found at its access and,
-- where a walk for unlock queue ends, the tail's writer mark; and the own node, filled or not, by where its thread then
-- stands. Document 01's step rules, one row a place, in the order of docs/PLACES.md. First what a judged word leads to,
-- in the order of document 01's step rules: try_read, contend, find tail, unlock queue, read_unlock.
-- Not here: what is found and what is left at the access (Tables.antt); that a step follows them (Statements.antt).
-- Assumes nothing.
use Rattle.std.specs.Prelude.{ℕ, ◌+◌, ◌-◌, Bool, true, false, eqb, ltb, Option, Some, None}
use Rattle.word.specs.Base.{pick}
use Rattle.word.specs.Flags.{word, LOCKED, SINGLE, locked, queued, queue_locked, downgraded, to_node}
use Rattle.word.specs.Number.{is_none, none, node}
use Rattle.word.specs.Rules.{read_lock_of, registered_of, read_unlock_of}
use Rattle.word.specs.declared.flags.Word.{Word}
use Rattle.word.specs.declared.number.NodeNumber.{NodeNumber}
use Rattle.word.specs.declared.number.ThreadNumber.{ThreadNumber}
use Rattle.word.specs.declared.rules.ReadUnlocked.{ReadUnlocked}
use Rattle.word.specs.declared.rules.ReadUnlocked.TheVariants.{To as UnlockTo, Contended, Refused as UnlockRefused}
use Rattle.state.specs.Node.{filled_of}
use Rattle.state.specs.declared.node.Node.{Node}
use Rattle.state.specs.declared.place.Place.{Place}
use Rattle.state.specs.declared.place.Place.TheVariants as At
use Rattle.state.specs.declared.place.Walk.{Walk}
use Rattle.state.specs.declared.place.Walk.TheVariants.{Queue, ReadUnlock, Downgrade}
use Rattle.state.specs.declared.place.Who.{Who}
use Rattle.state.specs.declared.place.Who.TheVariants.{Waiter, Leaver}
use Rattle.acquire.specs.LockContended.{permitted_of}
use Rattle.promises.specs.Tables.{release_to}

-- ── what a judged word leads to ──

-- a weak compare succeeds where it is not made to fail and the word found is the one seen
abbrev pub succeeds : Bool → ℕ → Word → Bool
succeeds fails found seen = pick fails false (eqb found seen.0)

-- try_read, judged on a word: compare; a refusal sends read to contend, and ends a try
abbrev pub tries_on : Bool → Word → Option Word → Place
tries_on blocking w (Some to) = At.TryReadCas blocking w
tries_on blocking w None = pick blocking (At.ContendLoad false 0) At.Idle

-- its compare agreed on the word seen: the end, by the rule on that word
abbrev pub tried_on : Bool → Word → Option Word → Place
tried_on blocking w (Some to) = At.Idle
tried_on blocking w None = tries_on blocking w (read_lock_of w)

-- contend, judged on a word: compare; else QUEUED clear and fewer than 7 reloads so far: reload; else register
abbrev pub contends_on : Bool → ℕ → Word → Option Word → Place
contends_on writer reloads w (Some to) = At.ContendCas writer reloads w
contends_on writer reloads w None =
    pick (queued w)
    (At.RegisterCas writer reloads w)
    (pick (ltb reloads 7) (At.ContendLoad writer (reloads + 1)) (At.RegisterCas writer reloads w))

abbrev pub contended_on : Bool → ℕ → Word → Option Word → Place
contended_on writer reloads w (Some to) = At.Idle
contended_on writer reloads w None = contends_on writer reloads w (permitted_of writer w)

-- registered: whoever turned QUEUE_LOCKED on runs unlock queue; then load completed
abbrev pub registered_on : ThreadNumber → Bool → Word → Place
registered_on t writer seen =
    pick (queued seen)
    (pick (queue_locked seen)
    (At.CompletedLoad writer)
    (At.WalkTail (Queue (Waiter writer)) (registered_of seen t) (to_node (registered_of seen t))))
    (At.CompletedLoad writer)

-- find tail begins at the node of a word
abbrev pub walk_for : Walk → Word → Place
walk_for walk w = At.WalkTail walk w (to_node w)

-- unlock queue or complete all is over: a waiter loads completed, any other call ends
abbrev pub over_for : Who → Place
over_for (Waiter writer) = At.CompletedLoad writer
over_for Leaver = At.Idle

-- unlock queue, the tail's mark read: a writer's without DOWNGRADED is split off, in all other cases the queue is taken
abbrev pub marked_on : Who → Word → NodeNumber → Bool → Place
marked_on who seen tail writer =
    pick writer
    (pick (downgraded seen) (At.TakeCas who seen tail) (At.SplitPrev who seen tail))
    (At.TakeCas who seen tail)

-- the tail found: unlock queue leaves waking to the holder with LOCKED and without DOWNGRADED, else it reads the mark
abbrev pub walked_on : Walk → Word → NodeNumber → Bool → Place
walked_on (Queue who) seen tail writer =
    pick (locked seen)
    (pick (downgraded seen) (marked_on who seen tail writer) (At.QueueCas who seen))
    (marked_on who seen tail writer)
walked_on ReadUnlock seen tail writer = At.Subtract seen tail
walked_on Downgrade seen tail writer = At.WakePrev Leaver tail

-- read_unlock, judged on a word: compare; else find tail. (A word below 17 is refused with 8 and goes nowhere.)
abbrev pub unlocks_on : Word → ReadUnlocked → Place
unlocks_on w (UnlockTo to) = At.ReadUnlockCas w
unlocks_on w Contended = walk_for ReadUnlock w
unlocks_on w UnlockRefused = At.ReadUnlockLoad

abbrev pub unlocked_on : Word → ReadUnlocked → Place
unlocked_on w (UnlockTo to) = At.Idle
unlocked_on w Contended = unlocks_on w (read_unlock_of w)
unlocked_on w UnlockRefused = unlocks_on w (read_unlock_of w)

-- ── where a step goes on to ──

-- by the thread, its place, whether the step is made to fail, the value found and the writer marks
unfoldable pub goes_to : ThreadNumber → Place → Bool → ℕ → (NodeNumber → Bool) → Place
goes_to t At.Idle fails found writer = At.Idle
goes_to t (At.TryReadLoad blocking) fails found writer = tries_on blocking (word found) (read_lock_of (word found))
goes_to t (At.TryReadCas blocking seen) fails found writer =
    pick (succeeds fails found seen)
    (tried_on blocking (word found) (read_lock_of seen))
    (tries_on blocking (word found) (read_lock_of (word found)))
goes_to t (At.TryWriteOr blocking) fails found writer =
    pick (locked (word found)) (pick blocking (At.ContendLoad true 0) At.Idle) At.Idle
goes_to t (At.ContendLoad call reloads) fails found writer =
    contends_on call reloads (word found) (permitted_of call (word found))
goes_to t (At.ContendCas call reloads seen) fails found writer =
    pick (succeeds fails found seen)
    (contended_on call reloads (word found) (permitted_of call seen))
    (contends_on call reloads (word found) (permitted_of call (word found)))
goes_to t (At.RegisterCas call reloads seen) fails found writer =
    pick (succeeds fails found seen)
    (registered_on t call seen)
    (contends_on call reloads (word found) (permitted_of call (word found)))
goes_to t (At.CompletedLoad call) fails found writer = pick (eqb found 1) (At.ContendLoad call 0) (At.Park call)
goes_to t (At.Park call) fails found writer = At.CompletedLoad call
goes_to t (At.WalkTail walk seen current) fails found writer =
    pick (is_none (node found)) (At.WalkNext walk seen current) (At.WalkHead walk seen (node found))
goes_to t (At.WalkNext walk seen current) fails found writer = At.WalkPrev walk seen current (to_node (word found))
goes_to t (At.WalkPrev walk seen current next) fails found writer = At.WalkTail walk seen next
goes_to t (At.WalkHead walk seen tail) fails found writer = walked_on walk seen tail (writer tail)
goes_to t (At.QueueCas who seen) fails found writer =
    pick (succeeds fails found seen) (over_for who) (walk_for (Queue who) (word found))
goes_to t (At.SplitPrev who seen tail) fails found writer =
    pick (is_none (node found)) (At.TakeCas who seen tail) (At.SplitStore who seen tail (node found))
goes_to t (At.SplitStore who seen tail prev) fails found writer = At.SplitCas who seen tail
goes_to t (At.SplitCas who seen tail) fails found writer =
    pick (succeeds fails found seen) (At.WakeStore who tail none) (At.SplitRestore who seen tail (word found))
goes_to t (At.SplitRestore who seen tail reported) fails found writer = walk_for (Queue who) reported
goes_to t (At.TakeCas who seen tail) fails found writer =
    pick (succeeds fails found seen) (At.WakePrev who tail) (walk_for (Queue who) (word found))
goes_to t (At.WakePrev who current) fails found writer = At.WakeStore who current (node found)
goes_to t (At.WakeStore who current prev) fails found writer = pick (is_none prev) (over_for who) (At.WakePrev who prev)
goes_to t At.ReadUnlockLoad fails found writer = unlocks_on (word found) (read_unlock_of (word found))
goes_to t (At.ReadUnlockCas seen) fails found writer =
    pick (succeeds fails found seen)
    (unlocked_on (word found) (read_unlock_of seen))
    (unlocks_on (word found) (read_unlock_of (word found)))
goes_to t (At.Subtract seen tail) fails found writer = pick (eqb (found - SINGLE) 0) (At.ReleaseCas seen) At.Idle
goes_to t At.WriteUnlockCas fails found writer = pick (eqb found LOCKED) At.Idle (At.ReleaseCas (word found))
goes_to t (At.ReleaseCas seen) fails found writer =
    pick (succeeds fails found seen)
    (pick (queue_locked seen) At.Idle (walk_for (Queue Leaver) (word (release_to seen))))
    (At.ReleaseCas (word found))
goes_to t At.DowngradeCas fails found writer = pick (eqb found LOCKED) At.Idle (At.DowngradeSlowCas (word found))
goes_to t (At.DowngradeSlowCas seen) fails found writer =
    pick (succeeds fails found seen)
    (pick (queue_locked seen) At.Idle (walk_for Downgrade seen))
    (At.DowngradeSlowCas (word found))

-- ── the own node, at an access to the word ──

-- filled before registering, by the call and the word gone by; else as it was
unfoldable pub node_for : ThreadNumber → Place → Node → Node
node_for t At.Idle before = before
node_for t (At.TryReadLoad _) before = before
node_for t (At.TryReadCas _ _) before = before
node_for t (At.TryWriteOr _) before = before
node_for t (At.ContendLoad _ _) before = before
node_for t (At.ContendCas _ _ _) before = before
node_for t (At.RegisterCas writer _ seen) before = filled_of t writer seen
node_for t (At.CompletedLoad _) before = before
node_for t (At.Park _) before = before
node_for t (At.WalkTail _ _ _) before = before
node_for t (At.WalkNext _ _ _) before = before
node_for t (At.WalkPrev _ _ _ _) before = before
node_for t (At.WalkHead _ _ _) before = before
node_for t (At.QueueCas _ _) before = before
node_for t (At.SplitPrev _ _ _) before = before
node_for t (At.SplitStore _ _ _ _) before = before
node_for t (At.SplitCas _ _ _) before = before
node_for t (At.SplitRestore _ _ _ _) before = before
node_for t (At.TakeCas _ _ _) before = before
node_for t (At.WakePrev _ _) before = before
node_for t (At.WakeStore _ _ _) before = before
node_for t At.ReadUnlockLoad before = before
node_for t (At.ReadUnlockCas _) before = before
node_for t (At.Subtract _ _) before = before
node_for t At.WriteUnlockCas before = before
node_for t (At.ReleaseCas _) before = before
node_for t At.DowngradeCas before = before
node_for t (At.DowngradeSlowCas _) before = before
