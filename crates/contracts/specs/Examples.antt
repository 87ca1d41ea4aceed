-- Small views and machines at which wrong answers are tried: few threads, the word as a number; what is not named is
-- blank. Assumes nothing.
use Rattle.std.specs.Prelude.{ℕ, ◌-◌, true, false, List, ◌++◌, replicate, length}
use Rattle.word.specs.Flags.{word}
use Rattle.word.specs.Number.{thread}
use Rattle.state.specs.Machine.{blank_thread, thread_limit}
use Rattle.state.specs.Node.{blank_node}
use Rattle.state.specs.declared.holding.Holding.{Holding}
use Rattle.state.specs.declared.holding.Holding.TheVariants as Holds
use Rattle.state.specs.declared.machine.Machine.{Machine}
use Rattle.state.specs.declared.machine.Thread.{Thread}
use Rattle.state.specs.declared.node.Node.{Node}
use Rattle.state.specs.declared.place.Place.{Place}
use Rattle.state.specs.declared.view.Mark.{Mark}
use Rattle.state.specs.declared.view.Mark.TheVariants as Marks
use Rattle.state.specs.declared.view.View.{View}

-- ── views: what a step may look at ──

-- thread 0 sees that word; its node is blank, it holds nothing and has no token
abbrev pub seeing : ℕ → View
seeing w =
    record {
      me = thread 0;
      word = word w;
      node = blank_node;
      mark = Marks.Missing;
      token = false;
      holding = Holds.Nothing;
      fails = false;
    }

-- the same view, with one thing changed
abbrev pub at_node : Node → View → View
at_node n v =
    record {
      me = v.me;
      word = v.word;
      node = n;
      mark = v.mark;
      token = v.token;
      holding = v.holding;
      fails = v.fails;
    }

abbrev pub marked : Mark → View → View
marked x v =
    record {
      me = v.me;
      word = v.word;
      node = v.node;
      mark = x;
      token = v.token;
      holding = v.holding;
      fails = v.fails;
    }

abbrev pub tokened : View → View
tokened v =
    record {
      me = v.me;
      word = v.word;
      node = v.node;
      mark = v.mark;
      token = true;
      holding = v.holding;
      fails = v.fails;
    }

abbrev pub holds : Holding → View → View
holds h v =
    record {
      me = v.me;
      word = v.word;
      node = v.node;
      mark = v.mark;
      token = v.token;
      holding = h;
      fails = v.fails;
    }

abbrev pub failing : View → View
failing v =
    record {
      me = v.me;
      word = v.word;
      node = v.node;
      mark = v.mark;
      token = v.token;
      holding = v.holding;
      fails = true;
    }

-- ── machines ──

-- a thread at a place, with no token
abbrev pub thread_of : Place → Holding → Thread
thread_of p h = record { place = p; token = false; holding = h }

-- the word, the first nodes and the first threads of a machine of so many threads
abbrev pub machine_of : ℕ → ℕ → List Node → List Thread → Machine
machine_of count w nodes threads =
    record {
      count = count;
      word = word w;
      nodes = nodes ++ replicate (thread_limit - length nodes) blank_node;
      threads = threads ++ replicate (thread_limit - length threads) blank_thread;
    }
