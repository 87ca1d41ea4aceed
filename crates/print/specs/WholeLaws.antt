-- Laws of lines' bytes, and of the lines of a run of events, for any line of an event.
-- In order: bytes; one event at any position, and the end; as far as the replay runs; two that tell the same run; how
-- many bytes at the most.
-- Not here: what is said of a file's lines (Statements.antt); lines laid on a page (PageLaws.antt).
-- Assumes nothing.
use Prim.Native.Nat.{ℕ, zero, suc, ◌+◌, ◌*◌, ◌/◌, ◌<◌, ◌≤◌}
use mathlib.Core.List.{List, [], ◌∷◌, ◌++◌, append_assoc}
use Rattle.std.specs.Prelude.{◌≡◌, drop, Err, Ok, Option, Result}
use Rattle.std.proofs.Math.Path.{refl, ap}
use Rattle.std.proofs.Common.{sym, ◌∙◌, length-append, length-drop}
use Rattle.std.proofs.Math.Decide.{dec_lt}
use native.Mathlib.Omega.{arith}
use Rattle.std.proofs.Math.ListN.{length, get_or, get_or-append}
use Rattle.state.specs.Answer.{Reply, accepted_with}
use Rattle.state.specs.Replies.{same_answer, same_woken}
use Rattle.state.specs.declared.machine.Machine.{Machine}
use Rattle.word.specs.Number.{thread}
use Rattle.word.specs.declared.number.ThreadNumber.{ThreadNumber}
use Rattle.state.specs.declared.answer.Answer.{Answer}
use Rattle.state.specs.declared.answer.Refusal.{Refusal}
use Rattle.lock.specs.Event.{event_of}
use Rattle.schedule.specs.File.{event_width}
use Rattle.schedule.specs.Replay.{thread_at, event_at, replay_of}
use Rattle.schedule.specs.ReplayLaws.{drop_event}
use Rattle.schedule.specs.Whole.{file_stop_of}
use Rattle.schedule.specs.Statements.{state_at, Accepts, End, none_left, refused}
use Rattle.schedule.specs.Theorems.{run_is_longest, run_is_the_end}
use Rattle.schedule.specs.declared.replay.Replayed.{Replayed}
use Rattle.schedule.specs.declared.whole.FileStop.{FileStop}
use Rattle.schedule.specs.declared.whole.FileStop.TheVariants as Stop
use Rattle.print.specs.Text.{ascii}
use Rattle.print.specs.Line.{line_width}
use Rattle.print.specs.Shown.{stop_text_short}
use Rattle.print.specs.Whole.{stop_text, EventLine, lines_by, event_lines, bytes_of}
use Rattle.print.specs.Statements.{TellsEvent, TellsRun}

-- ── bytes ──

pub bytes_append : (xs ys : List (List ℕ)) → bytes_of (xs ++ ys) ≡ bytes_of xs ++ bytes_of ys
unfolding bytes_of
bytes_append [] ys = refl
bytes_append (x ∷ xs) ys =
    ap (λ (l : List ℕ). x ++ ascii "\n" ++ l) (bytes_append xs ys)
    ∙ sym (append_assoc (x ++ ascii "\n") (bytes_of xs) (bytes_of ys))

-- ── one event ──

module _ (line : EventLine) (m : Machine) where
  -- no whole event left
  lines_short : (at : ℕ) (l : List ℕ) → length l < event_width → event_lines line at m l ≡ stop_text at (Ok tt) ∷ []
  unfolding event_lines
  lines_short at [] h = refl
  lines_short at (x ∷ []) h = refl
  lines_short at (x ∷ y ∷ l) h = absurd (omega arith)

  module _ (s : List ℕ) (k : ℕ) where
    -- the lines from event k on
    abbrev pub lines_from : List (List ℕ)
    lines_from = event_lines line k m (drop (event_width * k) s)

    -- the same by a reply to event k
    abbrev pub lines_on : Reply → List (List ℕ)
    lines_on reply =
        let next = (event_at m s k).machine in
        lines_by line k (thread_at s k) reply next (event_lines line (k + 1) next (drop (event_width * (k + 1)) s))

    pub lines_ended : length s / event_width ≤ k → lines_from ≡ stop_text k (Ok tt) ∷ []
    lines_ended h = lines_short k (drop (event_width * k) s) (omega (arith, length-drop (event_width * k) s))

    pub lines_on_lem : k < length s / event_width → lines_from ≡ lines_on (event_at m s k).reply
    unfolding event_lines
    lines_on_lem h = ap (event_lines line k m) (drop_event s k h)

-- ── as far as the replay runs ──

module _ (line : EventLine) (m : Machine) (s : List ℕ) where
  abbrev run : ℕ
  run = (replay_of m s).run

  abbrev rest : ℕ → List (List ℕ)
  rest k = lines_from line (state_at m s k) s k

  -- what event k's line says
  abbrev told_of : (k : ℕ) → Accepts m s k → List ℕ
  told_of k a = line k (thread_at s k) a.answer a.woken (state_at m s (suc k))

  ran : (k : ℕ) → k < run → Accepts m s k
  ran k h = (run_is_longest m s).0.accepted k h

  one_more : (k : ℕ) (h : k < run) → rest k ≡ told_of k (ran k h) ∷ rest (suc k)
  unfolding state_at
  one_more k h =
      let there : k < length s / event_width = omega (arith, (run_is_longest m s).0.there) in
      let e : k + 1 ≡ suc k = omega arith in
      lines_on_lem line (state_at m s k) s k there ∙ ap (lines_on line (state_at m s k) s k) (ran k h).is ∙ rw e

  last_by_lem : (k : ℕ) → End m s k → rest k ≡ stop_text k (file_stop_of (replay_of m s).stop) ∷ []
  last_by_lem k (none_left h e) =
      lines_ended line (state_at m s k) s k (omega arith)
      ∙ ap (λ (r : Replayed Refusal). stop_text k (file_stop_of r.stop) ∷ []) (sym e)
  last_by_lem k (refused refusal h r e) =
      lines_on_lem line (state_at m s k) s k h
      ∙ ap (lines_on line (state_at m s k) s k) r
      ∙ ap (λ (x : Replayed Refusal). stop_text k (file_stop_of x.stop) ∷ []) (sym e)

  last : rest run ≡ stop_text run (file_stop_of (replay_of m s).stop) ∷ []
  last = last_by_lem run (run_is_the_end m s)

  -- i lines after those of event j
  ahead : (i j : ℕ) → j + i ≤ run → get_or (rest j) i [] ≡ get_or (rest (j + i)) 0 []
  ahead zero j h = let e : j ≡ j + 0 = omega arith in ap (λ (n : ℕ). get_or (rest n) 0 []) e
  ahead (suc i) j h =
      let e : suc j + i ≡ j + suc i = omega arith in
      ap (λ (l : List (List ℕ)). get_or l (suc i) []) (one_more j (omega arith))
      ∙ ahead i (suc j) (omega arith)
      ∙ ap (λ (n : ℕ). get_or (rest n) 0 []) e

  long : (i j : ℕ) → j + i ≡ run → length (rest j) ≡ i + 1
  long zero j h =
      let e : j ≡ run = omega arith in
      ap length (ap rest e ∙ last)
  long (suc i) j h =
      let l : length (rest j) ≡ suc (length (rest (suc j))) = ap length (one_more j (omega arith)) in
      omega (arith, long i (suc j) (omega arith))

  -- one line more than events that run
  pub lines_count : length (event_lines line 0 m s) ≡ run + 1
  unfolding state_at
  lines_count = long run 0 (omega arith)

  line_at : (k : ℕ) → k ≤ run → get_or (event_lines line 0 m s) k [] ≡ get_or (rest k) 0 []
  unfolding state_at
  line_at k h = let e : 0 + k ≡ k = omega arith in ahead k 0 (omega arith) ∙ ap (λ (n : ℕ). get_or (rest n) 0 []) e

  -- each event's line and the last, whatever lines come after
  pub lines_tell : (more : List (List ℕ)) → TellsRun line m s (event_lines line 0 m s ++ more)
  lines_tell more = record { events = event; stop = stop }
    where
      kept : (k : ℕ) → k ≤ run → get_or (event_lines line 0 m s ++ more) k [] ≡ get_or (rest k) 0 []
      kept k h = get_or-append (event_lines line 0 m s) more [] k (omega (arith, lines_count)) ∙ line_at k h

      event : (k : ℕ) → k < run → TellsEvent line m s (event_lines line 0 m s ++ more) k
      event k h =
          record {
            accepted = ran k h;
            told = kept k (omega arith) ∙ ap (λ (l : List (List ℕ)). get_or l 0 []) (one_more k h);
          }

      stop : get_or (event_lines line 0 m s ++ more) run [] ≡ stop_text run (file_stop_of (replay_of m s).stop)
      stop = kept run (omega arith) ∙ ap (λ (l : List (List ℕ)). get_or l 0 []) last

  -- two that tell the same run have the same lines as far as it goes
  module _ (xs ys : List (List ℕ)) where
    same_event : (k : ℕ) → TellsEvent line m s xs k → TellsEvent line m s ys k → get_or xs k [] ≡ get_or ys k []
    same_event k a b =
        let same : accepted_with a.accepted.answer a.accepted.woken ≡ accepted_with b.accepted.answer b.accepted.woken =
        sym a.accepted.is ∙ b.accepted.is in
        a.told ∙ rw (same_answer same, same_woken same) (sym b.told)

    pub tells_same : TellsRun line m s xs → TellsRun line m s ys → (k : ℕ) → k < run + 1
        → get_or xs k [] ≡ get_or ys k []
    tells_same a b k h = by (dec_lt k run)
      where
        by : Dec (k < run) → get_or xs k [] ≡ get_or ys k []
        by (yes l) = same_event k (a.events k l) (b.events k l)
        by (no l) = let e : k ≡ run = omega arith in rw e (a.stop ∙ sym b.stop)

-- ── how many bytes ──

-- a line and those after it
one_line :
    (x : List ℕ) (more : List (List ℕ)) (n : ℕ) → length x < line_width → length (bytes_of more) ≤ n
    → length (bytes_of (x ∷ more)) ≤ line_width + n
unfolding bytes_of
one_line x more n h k =
    omega (arith, length-append (x ++ ascii "\n") (bytes_of more), length-append x (ascii "\n"))

stop_line :
    (at : ℕ) (stop : Result (Unit {0}) FileStop) (n : ℕ)
    → length (bytes_of (stop_text at stop ∷ [])) ≤ line_width + n
unfolding bytes_of
stop_line at stop n = one_line (stop_text at stop) [] n (omega (arith, stop_text_short at stop)) (omega arith)

-- where an event's line fits with its end
module _
    (line : EventLine)
    (short : (at : ℕ) (t : ThreadNumber) (a : Answer) (w : Option ThreadNumber) (m : Machine)
    → length (line at t a w m) < line_width)
  where
    by_reply :
        (at : ℕ) (t : ThreadNumber) (r : Reply) (m : Machine) (later : List (List ℕ)) (n : ℕ)
        → length (bytes_of later) ≤ n
        → length (bytes_of (lines_by line at t r m later)) ≤ line_width + n
    by_reply at t (Ok told) m later n h =
        one_line (line at t told.answer told.woken m) later n (short at t told.answer told.woken m) h
    by_reply at t (Err refusal) m later n h = stop_line at (Err (Stop.Refused refusal)) n

    -- at most a line's width for each event, and one more
    pub bytes_most :
        (at : ℕ) (m : Machine) (s : List ℕ)
        → length (bytes_of (event_lines line at m s)) ≤ line_width * (length s / event_width + 1)
    unfolding event_lines
    bytes_most at m [] = omega (arith, stop_line at (Ok tt) 0)
    bytes_most at m (odd ∷ []) = omega (arith, stop_line at (Ok tt) 0)
    bytes_most at m (code ∷ t ∷ s) =
        let o = event_of m code (thread t) in
        let later = event_lines line (at + 1) o.machine s in
        let n = line_width * (length s / event_width + 1) in
        let rest = bytes_most (at + 1) o.machine s in
        omega (arith, by_reply at (thread t) o.reply o.machine later n rest)
