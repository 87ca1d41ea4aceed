-- A step's rule keeps the invariant: what is proved of the rule of each place.
--     Setting      a step of one thread on a lock that has the invariant
--     look_at       what the step may look at, in the machine as functions: specs' view of a step
--     after_change  the machine with a change stored: word, one node, the thread's record, the woken thread's token
--     Kept         the rule does not refuse, the machine after it has the invariant, and the tickets went by its effect
--     kept_still   so where no node changes; kept_stood, where no ticket moves either
-- Assumes nothing.
use Rattle.std.specs.Prelude.{ℕ, ◌<◌, Bool, true, false, ◌≡◌, ltb, Err, Ok, Option, Some, None}
use Rattle.std.proofs.Common.{sym, subst}
use Rattle.word.specs.Base.{pick}
use Rattle.word.specs.declared.flags.Word.{Word}
use Rattle.word.specs.declared.number.ThreadNumber.{ThreadNumber}
use Rattle.word.specs.Cases.{pick_both}
use Rattle.state.specs.Machine.{thread_limit}
use Rattle.state.specs.declared.machine.Thread.{Thread}
use Rattle.state.specs.declared.place.Place.{Place}
use Rattle.state.specs.declared.view.Change.{Change}
use Rattle.state.specs.declared.view.Mark.{Mark}
use Rattle.state.specs.declared.view.View.{View}
use Rattle.state.specs.declared.node.Node.{Node}
use Rattle.state.specs.declared.holding.Holding.{Holding}
use Rattle.state.specs.View.{agrees_of, Stepped}
use Rattle.lock.specs.Landed.{tokened_of}
use Rattle.queue.specs.Updates.{upd, upd_self}
use Rattle.queue.specs.Tickets.{Ghost}
use Rattle.invariant.specs.Table.{Lock}
use Rattle.invariant.specs.Invariant.{Inv}
use Rattle.invariant.specs.Frames.{moved}
use Rattle.invariant.specs.Moves.{Went, is_aside, moves_no_ticket, stood}
use Rattle.invariant.specs.Words.{agreed}

-- a step of thread me, one of n, on a lock s that has the invariant with the tickets g; the mark that it finds, and
-- whether its compare is made to fail
pub record Setting : Type 0 where
  pub n : ℕ
  pub s : Lock
  pub g : Ghost
  pub i : Inv n s g
  pub me : ThreadNumber
  pub tin : me.0 < n
  pub mark : Mark
  pub fails : Bool

abbrev pub mine : Setting → Thread
mine st = st.s.th st.me.0

abbrev pub look_at : Setting → ℕ → View
look_at st k =
    record {
      me = st.me;
      word = st.s.word;
      node = st.s.nd k;
      mark = st.mark;
      token = (mine st).token;
      holding = (mine st).holding;
      fails = st.fails;
    }

abbrev pub woken_in : (ℕ → Thread) → Option ThreadNumber → ℕ → Thread
woken_in th None = th
woken_in th (Some u) = pick (ltb u.0 thread_limit) (upd th u.0 (tokened_of (th u.0))) th

abbrev pub after_change : Lock → ℕ → ℕ → Change → Lock
after_change s t k c =
    record {
      word = c.word;
      th = woken_in (upd s.th t c.thread) c.woken;
      nd = upd s.nd k c.node;
    }

abbrev pub Kept : Setting → ℕ → Stepped → Type 0
Kept st k (Ok c) =
    (h : Ghost) × Inv st.n (after_change st.s st.me.0 k c) h
    × Went st.me (mine st).place st.g c.thread.place h
Kept st k (Err r) = ⊥

-- so does the rule of a place, given what the thread may look at with node k
abbrev pub Goes : Setting → ℕ → (View → Stepped) → Type 0
Goes st k rule = Kept st k (rule (look_at st k))

-- the thread at another place, with what it has
abbrev pub placed : Thread → Place → Thread
placed x p = record { place = p; token = x.token; holding = x.holding }

-- at another place, holding h
abbrev pub became : Thread → Place → Holding → Thread
became x p h = record { place = p; token = x.token; holding = h }

-- the lock with the word w where the thread has become x
abbrev pub moved_to : Setting → Word → Thread → Lock
moved_to st w x = moved st.s st.me.0 w x st.s.nd

-- the lock where the thread has gone on to place p, the nodes being nd
abbrev pub gone_to : Setting → Place → (ℕ → Node) → Lock
gone_to st p nd = moved st.s st.me.0 st.s.word (placed (mine st) p) nd

module _ (st : Setting) (k : ℕ) where
  open st use {n, s, g, me}

  -- the word and the thread's record may change, the node is as it was
  pub kept_still : (w : Word) (x : Thread) (g' : Ghost) → Went me (mine st).place g x.place g'
      → Inv n (moved_to st w x) g'
      → (h : Ghost) × Inv n (moved s me.0 w x (upd s.nd k (s.nd k))) h × Went me (mine st).place g x.place h
  kept_still w x g' went i = (g', subst (λ nd. Inv n (moved s me.0 w x nd) g') (sym (upd_self s.nd k)) i, went)

  -- so at a place that moves no ticket
  pub kept_stood : {p : Place} → (mine st).place ≡ p → moves_no_ticket p ≡ true → (w : Word) (x : Thread)
      → is_aside x.place ≡ false
      → Inv n (moved_to st w x) g
      → (h : Ghost) × Inv n (moved s me.0 w x (upd s.nd k (s.nd k))) h × Went me (mine st).place g x.place h
  kept_stood here stands w x near = kept_still w x g (stood me g here stands x.place near)

  -- a compare that agrees has seen the word as it is
  pub kept_compare : (seen : Word) (a b : Stepped) → (s.word ≡ seen → Kept st k a) → Kept st k b
      → Kept st k (pick (agrees_of (look_at st k) seen) a b)
  kept_compare seen a b agrees fails =
      pick_both (Kept st k) (agrees_of (look_at st k) seen) a b (λ e. agrees (agreed (look_at st k) seen e))
      (λ _. fails)
