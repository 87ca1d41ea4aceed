-- Programs with another rule for the steps: `event_of` is the one with `advance_of`. For wrong programs only
-- (Wrong.antt, and crate safety's).
-- In order: the program of a rule; that the right rule gives `event_of`; the rule of one place changed; changes to
-- make; machines to try them on.
-- Not here: what is wrong with a changed program.
-- Assumes nothing.
use Rattle.std.specs.Prelude.{ℕ, Bool, true, false, ◌≡◌, refl, leb, eqb, replicate, set, Err, Ok, Option, Some, None}
use Rattle.std.proofs.Common.{ap}
use Rattle.word.specs.Base.{pick}
use Rattle.word.specs.Flags.{word}
use Rattle.word.specs.Number.{slot_of, thread, node}
use Rattle.word.specs.declared.number.ThreadNumber.{ThreadNumber}
use Rattle.state.specs.Answer.{Verdict}
use Rattle.state.specs.View.{Stepped}
use Rattle.state.specs.Access.{touched_of}
use Rattle.state.specs.Machine.{good_count, thread_at, refused_of, Sized, blank_thread}
use Rattle.state.specs.Node.{blank_node}
use Rattle.state.specs.declared.answer.Answer.{Answer}
use Rattle.state.specs.declared.answer.Refusal.TheVariants.{UnknownCode, NoThread, Damaged}
use Rattle.state.specs.declared.holding.Holding.{Holding}
use Rattle.state.specs.declared.machine.Machine.{Machine}
use Rattle.state.specs.declared.machine.Outcome.{Outcome}
use Rattle.state.specs.declared.node.Node.{Node}
use Rattle.state.specs.declared.place.Place.TheVariants as At
use Rattle.state.specs.declared.place.Place.{Place}
use Rattle.state.specs.declared.view.Change.{Change}
use Rattle.state.specs.declared.view.Mark.TheVariants.{Reader}
use Rattle.state.specs.declared.view.View.{View}
use Rattle.lock.specs.Advance.{advance_of}
use Rattle.lock.specs.Begin.{begin_of}
use Rattle.lock.specs.Code.{code_of}
use Rattle.lock.specs.Event.{event_by, event_of}
use Rattle.lock.specs.Landed.{landed_of}
use Rattle.lock.specs.Step.{halted_of, view_at, touching_by, step_by, step_of}
use Rattle.lock.specs.declared.code.Code.TheVariants.{Begin, Step, Fail}
use Rattle.lock.specs.declared.code.Code.{Code}
use Rattle.promises.specs.Program.{Program, place_of, access_at}

-- ── the program of a rule ──

abbrev pub Rule : Type 0
Rule = View → Place → Stepped

abbrev touches_by : Rule → Machine → ThreadNumber → Bool → Option ℕ → Outcome
touches_by rule m t fails None = refused_of m Damaged
touches_by rule m t fails (Some k) = landed_of m t.0 k (rule (view_at m t k fails (place_of m t)) (place_of m t))

abbrev halts_by : Rule → Machine → ThreadNumber → Bool → Verdict → Outcome
halts_by rule m t fails (Err r) = refused_of m r
halts_by rule m t fails (Ok _) = touches_by rule m t fails (slot_of (touched_of (access_at m t) t) m.count)

abbrev steps_by : Rule → Machine → ThreadNumber → Bool → Outcome
steps_by rule m t fails = halts_by rule m t fails (halted_of (access_at m t).kind (thread_at m t.0).token fails)

-- refusal 2, before the rest
abbrev below : Machine → ThreadNumber → Outcome → Outcome
below m t rest = pick (leb m.count t.0) (refused_of m NoThread) rest

abbrev coded_by : Rule → Machine → Option Code → ThreadNumber → Outcome
coded_by rule m None t = refused_of m UnknownCode
coded_by rule m (Some (Begin call)) t = below m t (begin_of m t.0 call)
coded_by rule m (Some Step) t = below m t (steps_by rule m t false)
coded_by rule m (Some Fail) t = below m t (steps_by rule m t true)

-- refusal 8 for the thread count, before the rest
abbrev counted : Machine → Outcome → Outcome
counted m rest = pick (good_count m.count) rest (refused_of m Damaged)

abbrev pub program_of : Rule → Program
program_of rule m code t = counted m (coded_by rule m (code_of code) t)

-- ── the right rule gives `event_of` ──

same_step : (m : Machine) (t : ThreadNumber) (fails : Bool) → steps_by advance_of m t fails ≡ step_of m t fails
unfolding step_of
same_step m t fails = by (halted_of (access_at m t).kind (thread_at m t.0).token fails)
  where
    touches : (s : Option ℕ) → touches_by advance_of m t fails s ≡ touching_by m t fails (place_of m t) s
    touches None = refl
    touches (Some k) = refl

    by : (v : Verdict) → halts_by advance_of m t fails v ≡ step_by m t fails (place_of m t) v
    by (Err r) = refl
    by (Ok _) = touches (slot_of (touched_of (access_at m t) t) m.count)

pub unchanged : (m : Machine) (code : ℕ) (t : ThreadNumber) → program_of advance_of m code t ≡ event_of m code t
unfolding event_of
unchanged m code t = by (code_of code)
  where
    by : (c : Option Code) → counted m (coded_by advance_of m c t) ≡ counted m (event_by m c t)
    by None = refl
    by (Some (Begin call)) = refl
    by (Some Step) = ap (λ o. counted m (below m t o)) (same_step m t false)
    by (Some Fail) = ap (λ o. counted m (below m t o)) (same_step m t true)

-- ── the rule of one place changed ──

-- a place by its number, in the order of docs/PLACES.md, so that one rule can be changed without naming all places
unfoldable pub which : Place → ℕ
which At.Idle = 0
which (At.TryReadLoad _) = 1
which (At.TryReadCas _ _) = 2
which (At.TryWriteOr _) = 3
which (At.ContendLoad _ _) = 4
which (At.ContendCas _ _ _) = 5
which (At.RegisterCas _ _ _) = 6
which (At.CompletedLoad _) = 7
which (At.Park _) = 8
which (At.WalkTail _ _ _) = 9
which (At.WalkNext _ _ _) = 10
which (At.WalkPrev _ _ _ _) = 11
which (At.WalkHead _ _ _) = 12
which (At.QueueCas _ _) = 13
which (At.SplitPrev _ _ _) = 14
which (At.SplitStore _ _ _ _) = 15
which (At.SplitCas _ _ _) = 16
which (At.SplitRestore _ _ _ _) = 17
which (At.TakeCas _ _ _) = 18
which (At.WakePrev _ _) = 19
which (At.WakeStore _ _ _) = 20
which At.ReadUnlockLoad = 21
which (At.ReadUnlockCas _) = 22
which (At.Subtract _ _) = 23
which At.WriteUnlockCas = 24
which (At.ReleaseCas _) = 25
which At.DowngradeCas = 26
which (At.DowngradeSlowCas _) = 27

-- the rule at one place replaced by what is made of the view and of what the right rule gives
abbrev pub changed_at : ℕ → (View → Stepped → Stepped) → Rule
changed_at k change v p = pick (eqb (which p) k) (change v (advance_of v p)) (advance_of v p)

-- ── changes to make ──

-- a step with another answer, another token, another thread woken, another node, gone on to another place
abbrev pub answering : (Answer → Answer) → Stepped → Stepped
answering f (Ok c) =
    Ok (record { word = c.word; node = c.node; thread = c.thread; answer = f c.answer; woken = c.woken })
answering f (Err r) = Err r

abbrev pub waking : Option ThreadNumber → Stepped → Stepped
waking w (Ok c) = Ok (record { word = c.word; node = c.node; thread = c.thread; answer = c.answer; woken = w })
waking w (Err r) = Err r

abbrev pub leaving_node : (Change → Node) → Stepped → Stepped
leaving_node f (Ok c) =
    Ok (record { word = c.word; node = f c; thread = c.thread; answer = c.answer; woken = c.woken })
leaving_node f (Err r) = Err r

abbrev pub with_token : Bool → Stepped → Stepped
with_token token (Ok c) =
    Ok
    (record {
      word = c.word;
      node = c.node;
      thread = record { place = c.thread.place; token = token; holding = c.thread.holding };
      answer = c.answer;
      woken = c.woken;
    })
with_token token (Err r) = Err r

abbrev pub going_to : (Place → Place) → Stepped → Stepped
going_to f (Ok c) =
    Ok
    (record {
      word = c.word;
      node = c.node;
      thread = record { place = f c.thread.place; token = c.thread.token; holding = c.thread.holding };
      answer = c.answer;
      woken = c.woken;
    })
going_to f (Err r) = Err r

-- a view in which every step is made to fail, or every tail found is a reader's
abbrev pub failing : View → View
failing v =
    record {
      me = v.me;
      word = v.word;
      node = v.node;
      mark = v.mark;
      token = v.token;
      holding = v.holding;
      fails = true;
    }

abbrev pub marked_reader : View → View
marked_reader v =
    record {
      me = v.me;
      word = v.word;
      node = v.node;
      mark = Reader;
      token = v.token;
      holding = v.holding;
      fails = v.fails;
    }

-- ── machines to try them on ──

-- one thread, at a place; its node has next and the writer mark as given
abbrev pub machine_at : ℕ → Place → Holding → Bool → ℕ → Bool → Machine
machine_at w p h token next writer =
    record {
      count = 1;
      word = word w;
      nodes = set (replicate 8 blank_node) 0
          (record { next = word next; prev = node 0; tail = node 0; writer = writer; completed = false });
      threads = set (replicate 8 blank_thread) 0 (record { place = p; token = token; holding = h });
    }

-- without a token and with a blank node
abbrev pub standing : ℕ → Place → Holding → Machine
standing w p h = machine_at w p h false 0 false

abbrev pub only : ThreadNumber
only = thread 0

pub sized : (w : ℕ) (p : Place) (h : Holding) (token : Bool) (next : ℕ) (writer : Bool)
    → Sized (machine_at w p h token next writer)
sized w p h token next writer = record { nodes = refl; threads = refl }
