-- The replay runs the longest accepted beginning, its rest begins with the refused event, a cursor goes through its
-- states, and a refused file runs nothing.
-- Assumes nothing.
use Prim.Native.Nat.{ℕ, zero, suc, ◌+◌, ◌*◌, ◌/◌, ◌<◌, ◌≤◌}
use Rattle.std.specs.Prelude.{List, ◌∷◌, ◌≡◌, length, take, drop, Err, Result, Ok}
use Rattle.std.proofs.Math.Path.{refl, ap}
use Rattle.std.proofs.Common.{sym, subst, ◌∙◌, length-take-le, get_or-take}
use native.Mathlib.Omega.{arith}
use Rattle.word.specs.Number.{thread}
use Rattle.state.specs.declared.machine.Machine.{Machine}
use Rattle.state.specs.declared.machine.Outcome.{Outcome}
use Rattle.state.specs.declared.answer.Refusal.{Refusal}
use Rattle.schedule.specs.File.{event_width, checked_of}
use Rattle.schedule.specs.Replay.{code_at, thread_at, event_at, stopped_of, replay_of}
use Rattle.schedule.specs.ReplayLaws.{drop_event}
use Rattle.schedule.specs.Whole.{file_refused_of, file_replay_by, file_replay_of, file_rest_by, file_rest_of}
use Rattle.schedule.specs.Cursor.{start_of, moved_to, moved_of, cursor_after}
use Rattle.schedule.specs.CursorLaws.{moved_ended, moved_refused, moved_accepted}
use Rattle.schedule.specs.Statements.{state_at, reply_at, Accepts, Beginning, End, none_left, refused, seen_at}
use Rattle.schedule.specs.Beginnings.{end, ran_accepted, longest}
use Rattle.schedule.specs.declared.file.FileRefusal.{FileRefusal}
use Rattle.schedule.specs.declared.file.Head.{Head}
use Rattle.schedule.specs.declared.replay.Replayed.{Replayed}
use Rattle.schedule.specs.declared.cursor.Cursor.{Cursor}
use Rattle.schedule.specs.declared.cursor.Moved.{Moved}

-- the number of events run is the length of the longest accepted beginning
pub run_is_longest : (m : Machine) (s : List ℕ)
    → Beginning m s (replay_of m s).run × ((k : ℕ) → Beginning m s k → k ≤ (replay_of m s).run)
run_is_longest m s = (ran_accepted m s (replay_of m s).run (omega arith), longest m s)

-- there the replay ends: the next event is refused, or there is none
pub run_is_the_end : (m : Machine) (s : List ℕ) → End m s (replay_of m s).run
run_is_the_end m s = end m s

-- ── a shorter beginning ──

module _ (m : Machine) (s : List ℕ) (k : ℕ) (h : k ≤ (replay_of m s).run) where
  abbrev first : List ℕ
  first = take (event_width * k) s

  first_length : length first ≡ event_width * k
  first_length = length-take-le (event_width * k) s (omega (arith, (ran_accepted m s k h).there))

  same_event : (x : Machine) (i : ℕ) → i < k → event_at x first i ≡ event_at x s i
  same_event x i j =
      let p : code_at first i ≡ code_at s i = get_or-take (event_width * k) s (event_width * i) 0 (omega arith) in
      let q : thread_at first i ≡ thread_at s i =
      ap thread (get_or-take (event_width * k) s (event_width * i + 1) 0 (omega arith)) in
      rw (p, q)

  same_outcome : (i : ℕ)
      → state_at m first i ≡ state_at m s i
      → i < k
      → event_at (state_at m first i) first i ≡ event_at (state_at m s i) s i
  same_outcome i e j = ap (λ (x : Machine). event_at x first i) e ∙ same_event (state_at m s i) i j

  same_state : (i : ℕ) → i ≤ k → state_at m first i ≡ state_at m s i
  unfolding state_at
  same_state zero j = refl
  same_state (suc i) j = ap (λ (o : Outcome). o.machine) (same_outcome i (same_state i (omega arith)) (omega arith))

  same_reply : (i : ℕ) → i < k → reply_at m first i ≡ reply_at m s i
  same_reply i j = ap (λ (o : Outcome). o.reply) (same_outcome i (same_state i (omega arith)) j)

  accepts : (i : ℕ) → i < k → Accepts m first i
  accepts i j =
      let a = (ran_accepted m s k h).accepted i j in
      record { answer = a.answer; woken = a.woken; is = same_reply i j ∙ a.is }

  all_run : (replay_of m first).run ≡ k
  all_run =
      let low = longest m first k (record { there = omega (arith, first_length); accepted = accepts }) in
      let high = (ran_accepted m first (replay_of m first).run (omega arith)).there in
      omega (arith, first_length)

  by_end : End m first k → replay_of m first ≡ stopped_of (state_at m s k) k (Ok tt)
  by_end (none_left l e) = e ∙ ap (λ (x : Machine). stopped_of x k (Ok tt)) (same_state k (omega arith))
  by_end (refused refusal l r e) = absurd (omega (arith, first_length))

  -- every shorter beginning of whole events is accepted, and leads to the state that the replay went through
  pub beginning_runs : replay_of m (take (event_width * k) s) ≡ stopped_of (state_at m s k) k (Ok tt)
  beginning_runs = by_end (subst (λ (n : ℕ). End m first n) all_run (end m first))

-- ── the unread rest ──

by_stop : (m : Machine) (s : List ℕ) (k : ℕ) (refusal : Refusal)
    → (replay_of m s).stop ≡ Err refusal
    → End m s k
    → (k < length s / event_width) × (reply_at m s k ≡ Err refusal)
by_stop m s k refusal p (none_left h e) =
    let ran : (replay_of m s).stop ≡ Ok tt = ap (λ (r : Replayed Refusal). r.stop) e in
    let z : ◌≡◌ {A = ℕ} 0 1 = cc (p, ran) in
    absurd (omega arith)
by_stop m s k refusal p (refused other h r e) =
    let stopped : (replay_of m s).stop ≡ Err other = ap (λ (r : Replayed Refusal). r.stop) e in
    let same : other ≡ refusal = cc (p, stopped) in
    (h, r ∙ ap Err same)

-- where an event is refused, the rest begins with it
pub rest_begins_refused : (m : Machine) (s : List ℕ) (refusal : Refusal)
    → (replay_of m s).stop ≡ Err refusal
    → (drop (event_width * (replay_of m s).run) s
    ≡ code_at s (replay_of m s).run
    ∷ (thread_at s (replay_of m s).run).0
    ∷ drop (event_width * ((replay_of m s).run + 1)) s)
    × (reply_at m s (replay_of m s).run ≡ Err refusal)
rest_begins_refused m s refusal p =
    let b = by_stop m s (replay_of m s).run refusal p (end m s) in
    (drop_event s (replay_of m s).run b.0, b.1)

-- ── the cursor ──

abbrev standing : Machine → List ℕ → ℕ → Cursor
standing m s k = record { machine = state_at m s k; at = k }

module _ (m : Machine) (s : List ℕ) where
  goes : (k : ℕ) → k ≤ (replay_of m s).run → cursor_after k (start_of m) s ≡ standing m s k
  unfolding state_at cursor_after
  goes zero h = refl
  goes (suc k) h =
      let b = ran_accepted m s (suc k) h in
      let a = b.accepted k (omega arith) in
      let e : k + 1 ≡ suc k = omega arith in
      ap (λ (c : Cursor). (moved_of c s).cursor) (goes k (omega arith))
      ∙ (ap (λ (x : Moved). x.cursor)
      (moved_accepted (standing m s k) s (event_at (state_at m s k) s k) (omega (arith, b.there)) refl a.answer
      a.woken a.is)
      ∙ rw e)

  -- the k-th cursor is the replay of the first k events, for k up to the number run
  pub cursor_follows : (k : ℕ)
      → k ≤ (replay_of m s).run
      → cursor_after k (start_of m) s ≡ record { machine = (replay_of m (take (event_width * k) s)).machine; at = k }
  cursor_follows k h =
      goes k h ∙ ap (λ (r : Replayed Refusal). record { machine = r.machine; at = k }) (sym (beginning_runs m s k h))

  stays : (k : ℕ) → End m s k
      → moved_of (standing m s k) s ≡ moved_to (standing m s k) (seen_at s k (replay_of m s).stop)
  stays k (none_left h e) = moved_ended (standing m s k) s (omega arith) ∙ rw e
  stays k (refused refusal h r e) =
      moved_refused (standing m s k) s (event_at (state_at m s k) s k) h refl refusal r ∙ rw (r, e)

  -- where the replay stops, the cursor stops, with the same refusal
  pub cursor_stops : moved_of (cursor_after (replay_of m s).run (start_of m) s) s
      ≡ moved_to (cursor_after (replay_of m s).run (start_of m) s) (seen_at s (replay_of m s).run (replay_of m s).stop)
  cursor_stops = rw (goes (replay_of m s).run (omega arith)) (stays (replay_of m s).run (end m s))

-- ── a refused file ──

-- it runs nothing, and hands back all its bytes and a fresh machine of one thread
pub refused_file : (s : List ℕ) (refusal : FileRefusal)
    → checked_of s ≡ Err refusal
    → (file_replay_of s ≡ file_refused_of refusal) × (file_rest_of s ≡ s)
refused_file s refusal e = (
  ap (λ (c : Result Head FileRefusal). file_replay_by c s) e,
  ap (λ (c : Result Head FileRefusal). file_rest_by (file_replay_by c s).stop (file_replay_by c s).run s) e,
)
