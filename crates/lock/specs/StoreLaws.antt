-- The one store of a token, as Store.antt has it, is the wake of Landed.antt: a record stored again changes nothing.
-- Assumes nothing.
use Rattle.std.specs.Prelude.{ℕ, Bool, true, false, List, ◌≡◌, refl, ltb, Option, Some, None}
use Rattle.std.proofs.Common.{ap, ◌∙◌}
use Rattle.std.proofs.lemmas.List.{set-get_or}
use Rattle.word.specs.Base.{pick}
use Rattle.word.specs.declared.number.ThreadNumber.{ThreadNumber}
use Rattle.state.specs.Machine.{thread_limit, thread_at, blank_thread}
use Rattle.state.specs.declared.machine.Machine.{Machine}
use Rattle.state.specs.declared.machine.Thread.{Thread}
use Rattle.lock.specs.Landed.{tokened_of, woken_of}
use Rattle.lock.specs.Record.{with_thread}
use Rattle.lock.specs.Store.{sets_token, token_index, tokened_if}

-- a thread's own record, stored again
with_own : (m : Machine) (i : ℕ) → with_thread m i (thread_at m i) ≡ m
with_own m i =
    ap (λ (ts : List Thread). record { count = m.count; word = m.word; nodes = m.nodes; threads = ts })
    (set-get_or m.threads i blank_thread)

one_store : (m : Machine) (w : Option ThreadNumber)
    → with_thread m (token_index w) (tokened_if (thread_at m (token_index w)) (sets_token w)) ≡ woken_of m w
one_store m None = with_own m 0
one_store m (Some t) = by (ltb t.0 thread_limit)
  where
    by : (b : Bool)
        → with_thread m (pick b t.0 0) (tokened_if (thread_at m (pick b t.0 0)) b)
        ≡ pick b (with_thread m t.0 (tokened_of (thread_at m t.0))) m
    by true = refl
    by false = with_own m 0

-- the store that was made, by what was found
pub token_stored : (m : Machine) (w : Option ThreadNumber) (i : ℕ) (sets : Bool) (to : Thread)
    → i ≡ token_index w → sets ≡ sets_token w → to ≡ tokened_if (thread_at m i) sets → with_thread m i to ≡ woken_of m w
token_stored m w i sets to at when made =
    ap (with_thread m i) made
    ∙ ap (λ (b : Bool). with_thread m i (tokened_if (thread_at m i) b)) when
    ∙ ap (λ (k : ℕ). with_thread m k (tokened_if (thread_at m k) (sets_token w))) at
    ∙ one_store m w
