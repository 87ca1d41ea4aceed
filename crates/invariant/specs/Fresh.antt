-- A fresh machine has the invariant: nobody waits, nothing is held.
-- Assumes nothing.
use Rattle.std.specs.Prelude.{ℕ, zero, suc, false, ◌≡◌, refl}
use Rattle.std.proofs.Common.{arith}
use Rattle.word.specs.Flags.{word}
use Rattle.state.specs.Machine.{blank_thread}
use Rattle.state.specs.Node.{blank_node}
use Rattle.queue.specs.Tests.{never}
use Rattle.queue.specs.Sums.{sum, sum_zero}
use Rattle.queue.specs.Invariant as Q
use Rattle.invariant.specs.Table.{Lock, links_of, wait_of}
use Rattle.invariant.specs.Invariant.{empty, queue_of, Inv}

abbrev pub fresh_lock : Lock
fresh_lock = record { word = word 0; th = λ t. blank_thread; nd = λ k. blank_node }

nobody_waits : (k : ℕ) → wait_of fresh_lock.th fresh_lock.nd k ≡ false
nobody_waits zero = refl
nobody_waits (suc k) = refl

pub inv_fresh : (n : ℕ) → Inv n fresh_lock Q.ghost0
inv_fresh n = record {
  queue = queue;
  newest = never refl;
  nobody = λ e. refl;
  handed = never refl;
  bare = λ e. (refl, refl);
  owners = zeros;
  holding = λ t. tt;
  outside = λ t l. refl;
  unheld = λ t l. record { reads = refl; writes = refl };
  count = record {
    bare = λ e. empty refl (record { reads = zeros; writes = zeros; leaves = zeros });
    unlocked = never refl;
    handed = never refl;
    held = never refl;
  };
  needs = λ t. never refl;
  plain = λ t. never refl;
  counted = λ r. never refl r.queue;
  calm = λ r. never refl r.queue;
  clear = λ t. never refl;
  fits = λ t. refl;
  token = λ t. never refl;
  seen_to = never refl;
}
  where
    zeros : sum n (λ t. 0) ≡ 0
    zeros = sum_zero n (λ t. 0) (λ j l. refl)

    queue : Q.Inv Q.ghost0 (queue_of fresh_lock)
    queue = record {
      parts = record {
        order = omega arith;
        queued = λ i a b. absurd (omega arith);
        held = λ t i a b. absurd (omega arith);
        cover = λ k e. never (nobody_waits k) e;
      };
      queue = (Q.queue_fresh (links_of fresh_lock.nd)).queue;
      know = λ t. omega arith;
      free = λ t. never refl;
    }
