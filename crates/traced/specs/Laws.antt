-- Laws for the loops that put nodes and threads, one more; and how long a place's name is.
-- Assumes nothing.
use Rattle.std.specs.Prelude.{ℕ, suc, ◌+◌, ◌≤◌, ◌≡◌, refl, List, [], ◌++◌, length, get_or}
use Rattle.std.proofs.Common.{ap, arith}
use Rattle.word.specs.Number.{none}
use Rattle.word.specs.declared.number.NodeNumber.{NodeNumber}
use Rattle.state.specs.declared.machine.Machine.{Machine}
use Rattle.state.specs.declared.place.Place.{Place}
use Rattle.state.specs.declared.place.Place.TheVariants as At
use Rattle.print.specs.Laws.{lines, put_none, put_both}
use Rattle.traced.specs.Event.{node_text, nodes_text}
use Rattle.traced.specs.Place.{place_text, name_width}
use Rattle.traced.specs.Thread.{rouser_text, rousers_text}

-- ── the nodes of a listing ──

pub nodes_none : (ns : List NodeNumber) → [] ≡ nodes_text 0 ns
unfolding nodes_text
nodes_none ns = refl

pub nodes_more : (k : ℕ) (ns : List NodeNumber) → nodes_text k ns
    ++ node_text (get_or ns k none) ≡ nodes_text (k + 1) ns
unfolding nodes_text
nodes_more k ns =
    let e : suc k ≡ k + 1 = omega arith in
    ap (λ (i : ℕ). nodes_text i ns) e

-- ── the threads that a waiter waits for ──

pub rousers_none : (m : Machine) → [] ≡ rousers_text 0 m
unfolding rousers_text
rousers_none m = refl

pub rousers_more : (k : ℕ) (m : Machine) → rousers_text k m ++ rouser_text m k ≡ rousers_text (k + 1) m
unfolding rousers_text
rousers_more k m =
    let e : suc k ≡ k + 1 = omega arith in
    ap (λ (i : ℕ). rousers_text i m) e

-- ── the names of places ──

pub name_fits : (p : Place) → length (place_text p) ≤ name_width
name_fits At.Idle = omega arith
name_fits (At.TryReadLoad _) = omega arith
name_fits (At.TryReadCas _ _) = omega arith
name_fits (At.TryWriteOr _) = omega arith
name_fits (At.ContendLoad _ _) = omega arith
name_fits (At.ContendCas _ _ _) = omega arith
name_fits (At.RegisterCas _ _ _) = omega arith
name_fits (At.CompletedLoad _) = omega arith
name_fits (At.Park _) = omega arith
name_fits (At.WalkTail _ _ _) = omega arith
name_fits (At.WalkNext _ _ _) = omega arith
name_fits (At.WalkPrev _ _ _ _) = omega arith
name_fits (At.WalkHead _ _ _) = omega arith
name_fits (At.QueueCas _ _) = omega arith
name_fits (At.SplitPrev _ _ _) = omega arith
name_fits (At.SplitStore _ _ _ _) = omega arith
name_fits (At.SplitCas _ _ _) = omega arith
name_fits (At.SplitRestore _ _ _ _) = omega arith
name_fits (At.TakeCas _ _ _) = omega arith
name_fits (At.WakePrev _ _) = omega arith
name_fits (At.WakeStore _ _ _) = omega arith
name_fits At.ReadUnlockLoad = omega arith
name_fits (At.ReadUnlockCas _) = omega arith
name_fits (At.Subtract _ _) = omega arith
name_fits At.WriteUnlockCas = omega arith
name_fits (At.ReleaseCas _) = omega arith
name_fits At.DowngradeCas = omega arith
name_fits (At.DowngradeSlowCas _) = omega arith

-- ── all of a text's laws, for the functions that put it ──

pub ruleset texts = (lines, nodes_none, nodes_more, rousers_none, rousers_more)
