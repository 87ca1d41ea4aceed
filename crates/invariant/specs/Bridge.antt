-- The machine's arrays as functions: a store in an array is an update of its function, and what is stored of a step's
-- change is the change. One bridge, for all places.
-- Assumes nothing.
use Rattle.std.specs.Prelude.{ℕ, zero, suc, ◌<◌, Bool, true, false, List, ◌⊎◌, ◌≢◌, ◌≡◌, refl, ltb, length, get_or, set}
use Rattle.std.specs.Prelude.{replicate, Option, Some, None}
use Rattle.std.proofs.Common.{inl, inr, sym, ◌∙◌, arith, length-set, get_or-set_same, get_or-set_other, ltb-true}
use Rattle.std.proofs.Math.Path.{fun_ext}
use Rattle.word.specs.Base.{pick}
use Rattle.word.specs.declared.number.ThreadNumber.{ThreadNumber}
use Rattle.state.specs.Machine.{thread_limit, blank_thread, thread_at, made_of, Sized}
use Rattle.state.specs.Node.{blank_node}
use Rattle.state.specs.declared.machine.Machine.{Machine}
use Rattle.state.specs.declared.machine.Thread.{Thread}
use Rattle.state.specs.declared.node.Node.{Node}
use Rattle.state.specs.declared.view.Change.{Change}
use Rattle.lock.specs.Landed.{tokened_of, woken_of, stored_of}
use Rattle.lock.specs.Record.{with_thread}
use Rattle.queue.specs.Updates.{upd, upd_same, upd_other, at_set, eq?}
use Rattle.invariant.specs.Table.{Lock}
use Rattle.invariant.specs.Fresh.{fresh_lock}
use Rattle.invariant.specs.Kept.{woken_in, after_change}

-- node number k lies at k - 1, and none is blank
abbrev pub node_in : List Node → ℕ → Node
node_in l zero = blank_node
node_in l (suc j) = get_or l j blank_node

abbrev pub lock_of : Machine → Lock
lock_of m = record { word = m.word; th = thread_at m; nd = node_in m.nodes }

-- ── stores ──

node_stored : (l : List Node) (j : ℕ) (x : Node) → j < length l → node_in (set l j x) ≡ upd (node_in l) (suc j) x
node_stored l j x h = fun_ext λ k. at k
  where
    at : (k : ℕ) → node_in (set l j x) k ≡ upd (node_in l) (suc j) x k
    at zero = sym (upd_other (node_in l) (suc j) x 0 (λ z. omega arith))
    at (suc k) = by (eq? k j)
      where
        by : (k ≡ j) ⊎ (k ≢ j) → get_or (set l j x) k blank_node ≡ upd (node_in l) (suc j) x (suc k)
        by (inl e) = rw (e, upd_same (node_in l) (suc j) x, get_or-set_same l j x blank_node h)
        by (inr ne) =
            rw (upd_other (node_in l) (suc j) x (suc k) (λ z. ne (omega arith)), get_or-set_other l j k x blank_node ne)

-- a thread's record stored
pub thread_stored : (m : Machine) (t : ℕ) (x : Thread) → t < length m.threads
    → lock_of (with_thread m t x) ≡ record { word = m.word; th = upd (thread_at m) t x; nd = node_in m.nodes }
thread_stored m t x l =
    λ i. record { word = m.word; th = at_set m.threads blank_thread t x l i; nd = node_in m.nodes }

-- a thread woken
woken : (m : Machine) (w : Option ThreadNumber) → length m.threads ≡ thread_limit
    → lock_of (woken_of m w) ≡ record { word = m.word; th = woken_in (thread_at m) w; nd = node_in m.nodes }
woken m None e = refl
woken m (Some u) e = by (ltb u.0 thread_limit) refl
  where
    by : (b : Bool) → ltb u.0 thread_limit ≡ b
        → lock_of (pick b (with_thread m u.0 (tokened_of (thread_at m u.0))) m)
        ≡ record {
          word = m.word;
          th = pick b (upd (thread_at m) u.0 (tokened_of (thread_at m u.0))) (thread_at m);
          nd = node_in m.nodes;
        }
    by true z = thread_stored m u.0 (tokened_of (thread_at m u.0)) (omega (arith, ltb-true u.0 thread_limit z))
    by false z = refl

-- a step's change stored
pub change_stored : (m : Machine) (t j : ℕ) (c : Change) → Sized m → t < thread_limit → j < thread_limit
    → lock_of (woken_of (stored_of m t j c) c.woken) ≡ after_change (lock_of m) t (suc j) c
change_stored m t j c z tl jl =
    woken (stored_of m t j c) c.woken (length-set m.threads t c.thread ∙ z.threads)
    ∙ λ i. record {
      word = c.word;
      th = woken_in (at_set m.threads blank_thread t c.thread (omega (arith, z.threads)) i) c.woken;
      nd = node_stored m.nodes j c.node (omega (arith, z.nodes)) i;
    }

-- ── a fresh machine ──

get_replicate : {A : Type 0} (n i : ℕ) (a : A) → get_or (replicate n a) i a ≡ a
get_replicate zero i a = refl
get_replicate (suc n) zero a = refl
get_replicate (suc n) (suc i) a = get_replicate n i a

pub lock_fresh : (n : ℕ) → lock_of (made_of n) ≡ fresh_lock
lock_fresh n =
    λ i. record { word = record { 0 = 0 }; th = λ t. get_replicate thread_limit t blank_thread i; nd = λ k. at k i }
  where
    at : (k : ℕ) → node_in (made_of n).nodes k ≡ blank_node
    at zero = refl
    at (suc j) = get_replicate thread_limit j blank_node
