-- One move of a cursor, by the reply of the event that it stands before.
-- Assumes nothing.
use Rattle.std.specs.Prelude.{ℕ, ◌+◌, ◌/◌, ◌<◌, ◌≤◌, List, ◌≡◌, length, Err, Option, [], Some, None, get_or}
use Rattle.std.proofs.Common.{sym, ap, ◌∙◌, le-leb}
use Rattle.std.proofs.lemmas.Bool.{lt-leb}
use Rattle.std.specs.Simd.{first_chunks}
use Rattle.word.specs.Number.{thread}
use Rattle.word.specs.declared.number.ThreadNumber.{ThreadNumber}
use Rattle.state.specs.Answer.{Reply, accepted_with}
use Rattle.state.specs.declared.machine.Outcome.{Outcome}
use Rattle.state.specs.declared.answer.Answer.{Answer}
use Rattle.state.specs.declared.answer.Refusal.{Refusal}
use Rattle.lock.specs.Event.{event_of}
use Rattle.schedule.specs.File.{event_width}
use Rattle.schedule.specs.Replay.{event_at}
use Rattle.schedule.specs.ReplayLaws.{bytes_read, chunk_read}
use Rattle.schedule.specs.Cursor.{reached, moved_to, moved_by, moved_of, seen_of}
use Rattle.schedule.specs.declared.cursor.Cursor.{Cursor}
use Rattle.schedule.specs.declared.cursor.Moved.{Moved}

module _ (c : Cursor) (s : List ℕ) where
  pub moved_ended : length s / event_width ≤ c.at → moved_of c s ≡ moved_to c None
  unfolding moved_of
  moved_ended h = simp (le-leb)

  module _ (o : Outcome) (h : c.at < length s / event_width) (e : o ≡ event_at c.machine s c.at) where
    by_outcome : moved_of c s ≡ moved_by c s o
    unfolding moved_of
    by_outcome = simp (lt-leb) (ap (moved_by c s) (sym e))

    pub moved_refused : (refusal : Refusal)
        → o.reply ≡ Err refusal
        → moved_of c s ≡ moved_to c (seen_of c s o.reply)
    moved_refused refusal r = by_outcome ∙ ap (λ (x : Reply). moved_to (reached c x o.machine) (seen_of c s o.reply)) r

    pub moved_accepted : (answer : Answer) (woken : Option ThreadNumber)
        → o.reply ≡ accepted_with answer woken
        → moved_of c s ≡ moved_to (record { machine = o.machine; at = c.at + 1 }) (seen_of c s o.reply)
    moved_accepted answer woken r =
        by_outcome ∙ ap (λ (x : Reply). moved_to (reached c x o.machine) (seen_of c s o.reply)) r

-- the same of the event's two bytes as they were read
module _ (c : Cursor) (s : List ℕ) {bytes : List ℕ} {o : Outcome}
    (h : c.at < length s / event_width)
    (p : bytes ≡ get_or (first_chunks event_width (length s / event_width) s) c.at [])
    (e : o ≡ event_of c.machine (get_or bytes 0 0) (thread (get_or bytes 1 0)))
  where
    abbrev read : Cursor → List ℕ → Moved
    read on l =
        moved_to on (Some (record { code = get_or l 0 0; thread = thread (get_or l 1 0); reply = o.reply }))

    pub read_refused : (refusal : Refusal) → o.reply ≡ Err refusal → read c bytes ≡ moved_of c s
    read_refused refusal r =
        ap (read c) (bytes_read s c.at h p) ∙ sym (moved_refused c s o h (chunk_read s c.at h p c.machine e) refusal r)

    pub read_accepted : (answer : Answer) (woken : Option ThreadNumber)
        → o.reply ≡ accepted_with answer woken
        → read (record { machine = o.machine; at = c.at + 1 }) bytes ≡ moved_of c s
    read_accepted answer woken r =
        ap (read (record { machine = o.machine; at = c.at + 1 })) (bytes_read s c.at h p)
        ∙ sym (moved_accepted c s o h (chunk_read s c.at h p c.machine e) answer woken r)
