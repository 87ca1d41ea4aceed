-- What an event may look at, read off a machine: the count, the word, the thread's record, the one node that its access
-- lies in, and the writer mark of the tail that a walk found.
--     thread_index, touched_index, tail_index   where these lie; the first, where there is no such thread or node
--     look_from, look_of                        what was read, put together; what a machine shows a thread
--     view_in                                   what a step may see of it
-- What is decided by it stands in Decide.antt, and that an event is decided so in EventDecides.antt.
-- Assumes nothing.
use Rattle.std.specs.Prelude.{ℕ, Bool, ltb, Option, Some, None}
use Rattle.word.specs.Base.{pick}
use Rattle.word.specs.Number.{slot_of}
use Rattle.word.specs.declared.flags.Word.{Word}
use Rattle.word.specs.declared.number.ThreadNumber.{ThreadNumber}
use Rattle.state.specs.Access.{access_of, touched_of}
use Rattle.state.specs.Machine.{thread_limit, thread_at, node_at}
use Rattle.state.specs.declared.machine.Machine.{Machine}
use Rattle.state.specs.declared.machine.Thread.{Thread}
use Rattle.state.specs.declared.node.Node.{Node}
use Rattle.state.specs.declared.place.Place.{Place}
use Rattle.state.specs.declared.view.Mark.{Mark}
use Rattle.state.specs.declared.view.Mark.TheVariants.{Missing, Reader, Writer}
use Rattle.state.specs.declared.view.View.{View}
use Rattle.lock.specs.Step.{marked_of}
use Rattle.lock.specs.declared.look.Look.{Look}

-- ── where it lies ──

abbrev pub bounded_of : ℕ → ℕ
bounded_of i = pick (ltb i thread_limit) i 0

abbrev pub slot_index : Option ℕ → ℕ
slot_index None = 0
slot_index (Some k) = bounded_of k

-- the thread's record
abbrev pub thread_index : ThreadNumber → ℕ
thread_index t = bounded_of t.0

-- the node that the access of a thread at a place lies in; at the word or the token, the thread's own
abbrev pub touched_slot : ℕ → ThreadNumber → Place → Option ℕ
touched_slot count me p = slot_of (touched_of (access_of me p) me) count

unfoldable pub touched_index : ℕ → ThreadNumber → Thread → ℕ
touched_index count me t = slot_index (touched_slot count me t.place)

-- the tail that a walk found
abbrev pub tail_slot : ℕ → Thread → Option ℕ
tail_slot count t = slot_of (marked_of t.place) count

unfoldable pub tail_index : ℕ → Thread → ℕ
tail_index count t = slot_index (tail_slot count t)

-- ── what was read ──

abbrev pub mark_in : Option ℕ → Bool → Mark
mark_in None writer = Missing
mark_in (Some _) writer = pick writer Writer Reader

unfoldable pub look_from : ℕ → Word → ThreadNumber → Thread → Node → Node → Look
look_from count w me t n tail =
    record {
      count = count;
      word = w;
      me = me;
      thread = t;
      node = n;
      mark = mark_in (tail_slot count t) tail.writer;
    }

-- by the thread's record t
abbrev pub look_at : Machine → ThreadNumber → Thread → Look
look_at m me t =
    look_from m.count
    m.word
    me
    t
    (node_at m (touched_index m.count me t))
    (node_at m (tail_index m.count t))

unfoldable pub look_of : Machine → ThreadNumber → Look
look_of m me = look_at m me (thread_at m (thread_index me))

abbrev pub view_in : Look → Bool → View
view_in look fails =
    record {
      me = look.me;
      word = look.word;
      node = look.node;
      mark = look.mark;
      token = look.thread.token;
      holding = look.thread.holding;
      fails = fails;
    }
