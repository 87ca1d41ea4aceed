-- Wrong programs, each a definition, and that it breaks a statement of Statements.antt: a computed counterexample.
-- In order: document 01's four ('How tightly it is held'); the mistakes of students' programs; rules that end wrongly,
-- that read more than their access, that go by an old word, that treat the token wrongly; rules that only the tables
-- tell from the right ones.
-- Not here, since they break a statement over runs or files: the replayer that invents the number of events run (crate
-- schedule, WrongReplay.antt); counting readers in the word while QUEUED is set (crate safety, WrongRuns.antt).
-- Assumes nothing.
use Rattle.std.specs.Prelude.{ℕ, Bool, true, false, not, ◌≡◌, refl, eqb, Err, Ok, Option, Some, None}
use Rattle.std.proofs.lemmas.Bool.{false≢true}
use Rattle.std.proofs.Common.{sym, ap, arith}
use Rattle.word.specs.Base.{pick}
use Rattle.word.specs.Flags.{word, queue_locked, downgraded}
use Rattle.word.specs.Number.{thread, node}
use Rattle.word.specs.declared.number.ThreadNumber.{ThreadNumber}
use Rattle.state.specs.Answer.{Reply, accepted_with}
use Rattle.state.specs.Access.{access_of}
use Rattle.state.specs.Machine.{refused_of}
use Rattle.state.specs.Node.{with_completed}
use Rattle.state.specs.View.{at, end, stays, Stepped}
use Rattle.state.specs.declared.answer.Answer.{Answer}
use Rattle.state.specs.declared.answer.Answer.TheVariants.{Begun, Went, Done, Yes, No}
use Rattle.state.specs.declared.answer.Refusal.TheVariants.{UnknownCode}
use Rattle.state.specs.declared.holding.Holding.TheVariants.{Nothing, Read, Write}
use Rattle.state.specs.declared.machine.Machine.{Machine}
use Rattle.state.specs.declared.node.Node.{Node}
use Rattle.state.specs.declared.place.Place.{Place}
use Rattle.state.specs.declared.place.Place.TheVariants as At
use Rattle.state.specs.declared.place.Walk.TheVariants.{Queue}
use Rattle.state.specs.declared.place.Who.TheVariants.{Leaver}
use Rattle.state.specs.declared.view.Change.{Change}
use Rattle.state.specs.declared.view.View.{View}
use Rattle.lock.specs.Advance.{advance_of}
use Rattle.lock.specs.Effect.{lock_effect, queue_effect, stand_of}
use Rattle.lock.specs.Event.{event_of}
use Rattle.lock.specs.Step.{step_of, marked_of}
use Rattle.promises.specs.Changed.{program_of, which, changed_at}
use Rattle.promises.specs.Changed.{answering, waking, leaving_node, with_token, going_to, failing, marked_reader}
use Rattle.promises.specs.Changed.{machine_at, standing, only, sized}
use Rattle.promises.specs.Goes.{goes_to, node_for}
use Rattle.promises.specs.Program.{Program, place_of}
use Rattle.promises.specs.Refusals.{then_touched, subtracts_below}
use Rattle.promises.specs.Shared.{tries, acquires, fills}
use Rattle.promises.specs.Statements.{RefusalTable, EndsExactly, ReadsOneAccess, WritesExactly, GoesExactly}
use Rattle.promises.specs.Statements.{FillsExactly, SeenIsTheLastWord, ParkTakesTheToken, WokenIsTheOwner}
use Rattle.promises.specs.Statements.{OneAccess, NodeAfter, same, accessed, filled, AnsweredAtTheGrant}
use Rattle.promises.specs.Tables.{Seen, nothing, saw, goes_by, restores_at, left_by}

-- ── document 01's four ──

-- refuses everything
abbrev pub refuses_everything : Program
refuses_everything m code t = refused_of m UnknownCode

pub refuses_everything_refuted : RefusalTable refuses_everything → ⊥
unfolding access_of then_touched subtracts_below
refuses_everything_refuted holds = false≢true (ap (λ n. eqb n 0) (holds (standing 0 At.Idle Nothing) 0 only))

-- answers went each time
abbrev went_reply : Reply → Reply
went_reply (Ok told) = accepted_with Went told.woken
went_reply (Err r) = Err r

abbrev pub went_each_time : Program
went_each_time m code t = record { machine = (event_of m code t).machine; reply = went_reply (event_of m code t).reply }

pub went_each_time_refuted : EndsExactly went_each_time → ⊥
unfolding event_of step_of advance_of access_of marked_of
went_each_time_refuted holds =
    let p = At.TryWriteOr false in
    let after = holds.step (standing 1 p Nothing) 16 only Went None (sized 1 p Nothing false 0 false) refl refl in
    false≢true (sym after.idle)

-- never moves
abbrev pub never_moves : Program
never_moves m code t = record { machine = m; reply = (event_of m code t).reply }

pub never_moves_refuted : EndsExactly never_moves → ⊥
unfolding event_of step_of advance_of access_of marked_of tries
never_moves_refuted holds =
    let p = At.Idle in
    let after = holds.begin (standing 0 p Nothing) 2 only Begun None (sized 0 p Nothing false 0 false) refl refl in
    false≢true (ap tries after.place)

-- finishes a call at its first step, and idles later
abbrev pub finishes_at_the_first_step : Program
finishes_at_the_first_step = program_of (λ v p. stays v (end Done))

pub finishes_at_the_first_step_refuted : AnsweredAtTheGrant finishes_at_the_first_step → ⊥
unfolding access_of marked_of acquires lock_effect
finishes_at_the_first_step_refuted holds =
    let p = At.TryReadLoad true in
    false≢true (sym (holds (standing 0 p Nothing) 16 only Done None (sized 0 p Nothing false 0 false) refl).1)

-- ── what students' programs do wrong ──

-- waking on a retracted downgrade: a read_unlock that clears DOWNGRADED wakes a thread
abbrev pub wakes_on_a_retracted_downgrade : Program
wakes_on_a_retracted_downgrade =
    program_of (changed_at 22 (λ v s. pick (downgraded v.word) (waking (Some (thread 0)) s) s))

is_nobody : Option ThreadNumber → Bool
is_nobody None = true
is_nobody (Some t) = false

pub wakes_on_a_retracted_downgrade_refuted : WokenIsTheOwner wakes_on_a_retracted_downgrade → ⊥
unfolding advance_of access_of marked_of which is_nobody
wakes_on_a_retracted_downgrade_refuted holds =
    let p = At.ReadUnlockCas (word 31) in
    let woken = holds.otherwise (standing 31 p Read) 16 only Done (Some (thread 0)) refl in
    false≢true (ap is_nobody (woken (λ e. cc)))

-- restoring the new head's tail after a failed split
unfoldable pub at_new_head : Place → Place
at_new_head At.Idle = At.Idle
at_new_head (At.TryReadLoad a) = At.TryReadLoad a
at_new_head (At.TryReadCas a b) = At.TryReadCas a b
at_new_head (At.TryWriteOr a) = At.TryWriteOr a
at_new_head (At.ContendLoad a b) = At.ContendLoad a b
at_new_head (At.ContendCas a b c) = At.ContendCas a b c
at_new_head (At.RegisterCas a b c) = At.RegisterCas a b c
at_new_head (At.CompletedLoad a) = At.CompletedLoad a
at_new_head (At.Park a) = At.Park a
at_new_head (At.WalkTail a b c) = At.WalkTail a b c
at_new_head (At.WalkNext a b c) = At.WalkNext a b c
at_new_head (At.WalkPrev a b c d) = At.WalkPrev a b c d
at_new_head (At.WalkHead a b c) = At.WalkHead a b c
at_new_head (At.QueueCas a b) = At.QueueCas a b
at_new_head (At.SplitPrev a b c) = At.SplitPrev a b c
at_new_head (At.SplitStore a b c d) = At.SplitStore a b c d
at_new_head (At.SplitCas a b c) = At.SplitCas a b c
at_new_head (At.SplitRestore who seen tail reported) = At.SplitRestore who reported tail reported
at_new_head (At.TakeCas a b c) = At.TakeCas a b c
at_new_head (At.WakePrev a b) = At.WakePrev a b
at_new_head (At.WakeStore a b c) = At.WakeStore a b c
at_new_head At.ReadUnlockLoad = At.ReadUnlockLoad
at_new_head (At.ReadUnlockCas a) = At.ReadUnlockCas a
at_new_head (At.Subtract a b) = At.Subtract a b
at_new_head At.WriteUnlockCas = At.WriteUnlockCas
at_new_head (At.ReleaseCas a) = At.ReleaseCas a
at_new_head At.DowngradeCas = At.DowngradeCas
at_new_head (At.DowngradeSlowCas a) = At.DowngradeSlowCas a

abbrev pub restores_the_new_heads_tail : Program
restores_the_new_heads_tail = program_of (λ v p. going_to at_new_head (advance_of v p))

abbrev seen_number : Seen → ℕ
seen_number nothing = 0
seen_number (saw x) = x.0

pub restores_the_new_heads_tail_refuted : SeenIsTheLastWord restores_the_new_heads_tail → ⊥
unfolding advance_of access_of marked_of at_new_head goes_by restores_at
restores_the_new_heads_tail_refuted holds =
    let p = At.SplitCas Leaver (word 22) (node 1) in
    let m = standing 38 p Nothing in
    let after = holds m 16 only Went None (sized 38 p Nothing false 0 false) refl refl (word 38) in
    false≢true (ap (λ s. eqb (seen_number s) 22) (after.1 refl))

-- reading prev after completing a node: completed is stored where prev is to be loaded
abbrev pub reads_prev_after_completing : Program
reads_prev_after_completing = program_of (changed_at 19 (λ v s. leaving_node (λ c. with_completed c.node) s))

abbrev is_completed : Node → Bool
is_completed n = n.completed

pub reads_prev_after_completing_refuted : OneAccess reads_prev_after_completing → ⊥
unfolding advance_of access_of marked_of which fills
reads_prev_after_completing_refuted holds = by ((holds m 16 only Went None refl refl).nodes 0)
  where
    m : Machine
    m = standing 0 (At.WakePrev Leaver (node 1)) Nothing

    by : NodeAfter m only (reads_prev_after_completing m 16 only).machine 0 → ⊥
    by (same e) = false≢true (sym (ap is_completed e))
    by (accessed i e) = false≢true (sym (ap is_completed e))
    by (filled i f w e) = false≢true f

-- letting code 17 fail a strong compare: write_unlock's
abbrev pub fails_a_strong_compare : Program
fails_a_strong_compare m code t =
    pick (eqb code 17)
    (pick (eqb (which (place_of m t)) 24) (record { machine = m; reply = accepted_with Went None }) (event_of m code t))
    (event_of m code t)

pub fails_a_strong_compare_refuted : RefusalTable fails_a_strong_compare → ⊥
unfolding access_of then_touched subtracts_below which
fails_a_strong_compare_refuted holds =
    false≢true (sym (ap (λ n. eqb n 0) (holds (standing 1 At.WriteUnlockCas Write) 17 only)))

-- ── rules that end wrongly ──

-- an uncontended read_unlock answers done at its load and releases nothing
abbrev pub read_unlock_done_at_its_load : Program
read_unlock_done_at_its_load = program_of (changed_at 21 (λ v s. stays v (end Done)))

pub read_unlock_done_at_its_load_refuted : GoesExactly read_unlock_done_at_its_load → ⊥
unfolding advance_of access_of marked_of which goes_to
read_unlock_done_at_its_load_refuted holds =
    let p = At.ReadUnlockLoad in
    false≢true
    (ap (λ q. eqb (which q) 22)
    (holds (standing 17 p Read) 16 only Done None (sized 17 p Read false 0 false) refl refl))

-- a refused try_write ends with went
abbrev no_is_went : Answer → Answer
no_is_went Begun = Begun
no_is_went Went = Went
no_is_went Done = Done
no_is_went Yes = Yes
no_is_went No = Went

abbrev pub refused_try_write_ends_with_went : Program
refused_try_write_ends_with_went = program_of (changed_at 3 (λ v s. answering no_is_went s))

pub refused_try_write_ends_with_went_refuted : EndsExactly refused_try_write_ends_with_went → ⊥
unfolding advance_of access_of marked_of which
refused_try_write_ends_with_went_refuted holds =
    let p = At.TryWriteOr false in
    let after = holds.step (standing 1 p Nothing) 16 only Went None (sized 1 p Nothing false 0 false) refl refl in
    false≢true (sym after.idle)

-- try_write blocks
abbrev pub try_write_blocks : Program
try_write_blocks m code t = event_of m (pick (eqb code 3) 1 code) t

pub try_write_blocks_refuted : EndsExactly try_write_blocks → ⊥
unfolding event_of step_of advance_of access_of marked_of tries
try_write_blocks_refuted holds =
    let p = At.Idle in
    let after = holds.begin (standing 0 p Nothing) 3 only Begun None (sized 0 p Nothing false 0 false) refl refl in
    false≢true (ap tries after.place)

-- a step that goes on answers begun
abbrev went_is_begun : Answer → Answer
went_is_begun Begun = Begun
went_is_begun Went = Begun
went_is_begun Done = Done
went_is_begun Yes = Yes
went_is_begun No = No

abbrev pub begun_at_a_step : Program
begun_at_a_step = program_of (λ v p. answering went_is_begun (advance_of v p))

pub begun_at_a_step_refuted : EndsExactly begun_at_a_step → ⊥
unfolding advance_of access_of marked_of
begun_at_a_step_refuted holds =
    let p = At.TryReadLoad true in
    let after = holds.step (standing 0 p Nothing) 16 only Begun None (sized 0 p Nothing false 0 false) refl refl in
    false≢true after.went

-- ── rules that read more than their access ──

-- the subtraction also reads the word
abbrev pub subtraction_reads_the_word : Program
subtraction_reads_the_word = program_of (changed_at 23 (λ v s. pick (queue_locked v.word) (stays v (end Done)) s))

pub subtraction_reads_the_word_refuted : ReadsOneAccess subtraction_reads_the_word → ⊥
unfolding advance_of access_of marked_of which
subtraction_reads_the_word_refuted holds =
    let p = At.Subtract (word 0) (node 1) in
    let same = holds (machine_at 0 p Read false 32 false) (machine_at 4 p Read false 32 false) 16 only
    (sized 0 p Read false 32 false)
    (sized 4 p Read false 32 false)
    (record {
      count = refl;
      place = refl;
      holding = refl;
      value = refl;
      mark = λ who seen tail e. absurd (cc);
    }) in
    false≢true (sym (ap (λ n. eqb n 16) same.value))

-- the load of completed also reads the token
abbrev pub completed_load_reads_the_token : Program
completed_load_reads_the_token =
    program_of (changed_at 7 (λ v s. pick v.token (stays v (at (At.CompletedLoad false))) s))

pub completed_load_reads_the_token_refuted : ReadsOneAccess completed_load_reads_the_token → ⊥
unfolding advance_of access_of marked_of which
completed_load_reads_the_token_refuted holds =
    let p = At.CompletedLoad false in
    let same = holds (machine_at 0 p Nothing false 0 false) (machine_at 0 p Nothing true 0 false) 16 only
    (sized 0 p Nothing false 0 false)
    (sized 0 p Nothing true 0 false)
    (record {
      count = refl;
      place = refl;
      holding = refl;
      value = refl;
      mark = λ who seen tail e. absurd (cc);
    }) in
    false≢true (ap (λ q. eqb (which q) 7) same.place)

-- ── a rule that goes by an old word ──

-- a release whose compare failed is judged again on the word that it had, not on the one reported
abbrev judged_again : View → Place → Stepped → Stepped
judged_again v p (Ok c) = pick (eqb (which c.thread.place) 25) (stays v (at p)) (Ok c)
judged_again v p (Err r) = Err r

abbrev pub keeps_its_word : Program
keeps_its_word = program_of (λ v p. pick (eqb (which p) 25) (judged_again v p (advance_of v p)) (advance_of v p))

pub keeps_its_word_refuted : SeenIsTheLastWord keeps_its_word → ⊥
unfolding advance_of access_of marked_of which goes_by queue_effect stand_of
keeps_its_word_refuted holds =
    let p = At.ReleaseCas (word 7) in
    let after = holds (standing 3 p Write) 16 only Went None (sized 3 p Write false 0 false) refl refl (word 7) in
    false≢true (sym (ap (λ s. eqb (seen_number s) 7) (after.0 refl)))

-- ── rules that treat the token wrongly ──

-- code 17 at park takes the token
abbrev pub park_for_no_cause_takes_the_token : Program
park_for_no_cause_takes_the_token = program_of (changed_at 8 (λ v s. with_token false s))

pub park_for_no_cause_takes_the_token_refuted : ParkTakesTheToken park_for_no_cause_takes_the_token → ⊥
unfolding advance_of access_of marked_of which
park_for_no_cause_takes_the_token_refuted holds =
    let p = At.Park false in
    let m = machine_at 0 p Nothing true 0 false in
    false≢true (holds.leaves m only Went None (sized 0 p Nothing true 0 false) refl refl)

-- code 16 at park keeps it
abbrev pub park_keeps_its_token : Program
park_keeps_its_token = program_of (changed_at 8 (λ v s. with_token v.token s))

pub park_keeps_its_token_refuted : ParkTakesTheToken park_keeps_its_token → ⊥
unfolding advance_of access_of marked_of which
park_keeps_its_token_refuted holds =
    let p = At.Park false in
    let m = machine_at 0 p Nothing true 0 false in
    false≢true (sym (holds.clears m only Went None (sized 0 p Nothing true 0 false) refl refl))

-- ── rules that only the tables tell from the right ones ──

-- a compare that never succeeds: try_read's
abbrev pub never_succeeds : Program
never_succeeds = program_of (λ v p. pick (eqb (which p) 2) (advance_of (failing v) p) (advance_of v p))

pub never_succeeds_refuted : WritesExactly never_succeeds → ⊥
unfolding advance_of access_of marked_of which left_by
never_succeeds_refuted holds =
    let p = At.TryReadCas false (word 0) in
    false≢true
    (ap (λ n. eqb n 17) (holds (standing 0 p Nothing) 16 only Went None (sized 0 p Nothing false 0 false) refl refl))

-- a read that tries for ever
abbrev pub tries_for_ever : Program
tries_for_ever = program_of (λ v p. pick (eqb (which p) 1) (stays v (at p)) (advance_of v p))

pub tries_for_ever_refuted : GoesExactly tries_for_ever → ⊥
unfolding advance_of access_of marked_of which goes_to
tries_for_ever_refuted holds =
    let p = At.TryReadLoad true in
    false≢true
    (ap (λ q. eqb (which q) 4)
    (holds (standing 1 p Nothing) 16 only Went None (sized 1 p Nothing false 0 false) refl refl))

-- a queue never split: every tail's mark is read as a reader's
abbrev pub never_splits : Program
never_splits = program_of (λ v p. advance_of (marked_reader v) p)

pub never_splits_refuted : GoesExactly never_splits → ⊥
unfolding advance_of access_of marked_of which goes_to
never_splits_refuted holds =
    let p = At.WalkHead (Queue Leaver) (word 22) (node 1) in
    let m = machine_at 22 p Nothing false 0 true in
    let after = holds m 16 only Went None (sized 22 p Nothing false 0 true) refl refl in
    false≢true (sym (ap (λ q. eqb (which q) 18) after))

-- the writer mark of a filled node turned round
abbrev turned : Change → Node
turned c =
    record {
      next = c.node.next;
      prev = c.node.prev;
      tail = c.node.tail;
      writer = pick (eqb (which c.thread.place) 6) (not c.node.writer) c.node.writer;
      completed = c.node.completed;
    }

abbrev pub turns_the_mark : Program
turns_the_mark = program_of (changed_at 4 (λ v s. leaving_node turned s))

pub turns_the_mark_refuted : FillsExactly turns_the_mark → ⊥
unfolding advance_of access_of marked_of which node_for
turns_the_mark_refuted holds =
    let p = At.ContendLoad true 7 in
    let m = standing 1 p Nothing in
    let filling = holds m 16 only Went None (sized 1 p Nothing false 0 false) refl refl refl in
    false≢true (ap (λ (n : Node). n.writer) filling)
