-- What holds of the table's row of every place, in one lemma over the places; and rows of places that own nothing of
-- the
-- queue.
-- Assumes nothing.
use Rattle.std.specs.Prelude.{Bool, true, false, not, ◌⊎◌, ◌≡◌, refl}
use Rattle.std.proofs.Common.{inl, inr}
use Rattle.word.specs.Base.{pick}
use Rattle.word.specs.Flags.{locked, downgraded}
use Rattle.word.specs.declared.flags.Word.{Word}
use Rattle.state.specs.declared.place.Who.{Who}
use Rattle.state.specs.declared.place.Walk.{Walk}
use Rattle.state.specs.declared.place.Walk.TheVariants.{Queue, ReadUnlock, Downgrade}
use Rattle.state.specs.declared.place.Place.{Place}
use Rattle.state.specs.declared.place.Place.TheVariants as At
use Rattle.state.specs.declared.holding.Holding.{Holding}
use Rattle.queue.specs.Tests.{never}
use Rattle.queue.specs.Roles.{Role, none, public, modifies, on_queue, changing, filled}
use Rattle.invariant.specs.Table.{hands_off, unheld, May, reads, writes, not_read, About, look_kind, walk_kind_of}
use Rattle.invariant.specs.Table.{off_queue, waiting, walking, owning, waking, about, waiter, may_wake, Free}
use Rattle.invariant.specs.Table.{Allowed}

pub record RowFacts (a : About) : Type 0 where
  -- who stands on the queue is an owner or a contended reader
  pub stands : on_queue a.role ≡ true → (a.owner ≡ true) ⊎ (a.reader ≡ true)
  -- a contended reader holds read
  pub reading : a.reader ≡ true → a.may ≡ reads
  -- who changes the queue is an owner, and did not see hands off
  pub changing : changing a.role ≡ true → a.ok ≡ true → (a.owner ≡ true) × (hands_off a.seen ≡ false)
  -- who needs the queue to stay is a writer, or releases
  pub leaving : a.needs_queue ≡ true → (a.may ≡ writes) ⊎ ((a.may ≡ not_read) × (a.leaves ≡ true))

by_look : (b : Bool) → modifies (look_kind b) ≡ true → b ≡ false
by_look true e = never refl e
by_look false e = refl

by_flags : (a b : Bool) → pick a false (not b) ≡ true → pick a (not b) false ≡ false
by_flags true b e = never refl e
by_flags false b e = refl

by_not : (b : Bool) → not b ≡ true → b ≡ false
by_not true e = never refl e
by_not false e = refl

off_facts : (may : May) (leaves contends : Bool) → RowFacts (off_queue may leaves false contends)
off_facts may leaves contends =
    record { stands = never refl; reading = never refl; changing = never refl; leaving = never refl }

waiting_facts : (asleep : Bool) → RowFacts (waiting asleep)
waiting_facts asleep = record { stands = never refl; reading = never refl; changing = never refl; leaving = never refl }

waking_facts : (who : Who) (role : Role) → on_queue role ≡ false → changing role ≡ false → RowFacts (waking who role)
waking_facts who role o c = record { stands = never o; reading = never refl; changing = never c; leaving = never refl }

owning_facts : (who : Who) (seen : Word) (role : Role) (ok : Bool)
    → (changing role ≡ true → ok ≡ true → hands_off seen ≡ false) → RowFacts (owning who seen role ok)
owning_facts who seen role ok h =
    record { stands = λ _. inl refl; reading = never refl; changing = λ c e. (refl, h c e); leaving = never refl }

walking_facts : (k : Walk) (seen : Word) (role : Role) → on_queue role ≡ public (walk_kind_of k seen)
    → changing role ≡ modifies (walk_kind_of k seen) → RowFacts (walking k seen role)
walking_facts (Queue who) seen role o c = record {
  stands = λ _. inl refl;
  reading = never refl;
  changing = λ e _. (refl, by_look (hands_off seen) (rw c at e));
  leaving = never refl;
}
walking_facts ReadUnlock seen role o c =
    record { stands = λ _. inr refl; reading = λ _. refl; changing = never c; leaving = never refl }
walking_facts Downgrade seen role o c =
    record { stands = never o; reading = never refl; changing = never c; leaving = never refl }

split_facts : (who : Who) (seen : Word) (role : Role) → RowFacts (owning who seen role (unheld seen))
split_facts who seen role = owning_facts who seen role (unheld seen) (λ _. by_flags (locked seen) (downgraded seen))

pub row_facts : (p : Place) → RowFacts (about p)
row_facts At.Idle = off_facts _ _ _
row_facts (At.TryReadLoad _) = off_facts _ _ _
row_facts (At.TryReadCas _ _) = off_facts _ _ _
row_facts (At.TryWriteOr _) = off_facts _ _ _
row_facts (At.ContendLoad _ _) = off_facts _ _ _
row_facts (At.ContendCas _ _ _) = off_facts _ _ _
row_facts (At.RegisterCas _ _ seen) = record {
  stands = never refl;
  reading = never refl;
  changing = never refl;
  leaving = never refl;
}
row_facts (At.CompletedLoad _) = waiting_facts false
row_facts (At.Park _) = waiting_facts true
row_facts (At.WalkTail k seen current) = walking_facts k seen _ refl refl
row_facts (At.WalkNext k seen current) = walking_facts k seen _ refl refl
row_facts (At.WalkPrev k seen current next) = walking_facts k seen _ refl refl
row_facts (At.WalkHead k seen tail) = walking_facts k seen _ refl refl
row_facts (At.QueueCas who seen) = owning_facts who seen none (hands_off seen) (never refl)
row_facts (At.SplitPrev who seen tail) = split_facts who seen _
row_facts (At.SplitStore who seen tail prev) = split_facts who seen _
row_facts (At.SplitCas who seen tail) = split_facts who seen _
row_facts (At.SplitRestore who seen tail reported) = split_facts who seen _
row_facts (At.TakeCas who seen tail) = owning_facts who seen _ _ (λ _. by_not (hands_off seen))
row_facts (At.WakePrev who current) = waking_facts who _ refl refl
row_facts (At.WakeStore who current prev) = waking_facts who _ refl refl
row_facts At.ReadUnlockLoad = off_facts _ _ _
row_facts (At.ReadUnlockCas _) = off_facts _ _ _
row_facts (At.Subtract seen tail) = walking_facts ReadUnlock seen _ refl refl
row_facts At.WriteUnlockCas = off_facts _ _ _
row_facts (At.ReleaseCas _) = record {
  stands = never refl;
  reading = never refl;
  changing = never refl;
  leaving = λ _. inr (refl, refl);
}
row_facts At.DowngradeCas = off_facts _ _ _
row_facts (At.DowngradeSlowCas _) = record {
  stands = never refl;
  reading = never refl;
  changing = never refl;
  leaving = λ _. inl refl;
}

-- ── where a thread goes on that owns nothing of the queue: h is what it holds ──

pub record OwnsNothing (a : About) (h : Holding) (was_registered : Bool) : Type 0 where
  pub owner : a.owner ≡ false
  pub reader : a.reader ≡ false
  pub registered : a.registered ≡ was_registered
  pub asleep : a.asleep ≡ false
  pub unfilled : filled a.role ≡ false
  pub ok : a.ok ≡ true
  pub leaves : a.leaves ≡ false
  pub needs_queue : a.needs_queue ≡ false
  pub may : Allowed a.may h

module _ {h : Holding} {was_registered : Bool} where
  pub owns_nothing_waiting : true ≡ was_registered → Free h → OwnsNothing (waiting false) h was_registered
  owns_nothing_waiting e free =
      record {
        owner = refl;
        reader = refl;
        registered = e;
        asleep = refl;
        unfilled = refl;
        ok = refl;
        leaves = refl;
        needs_queue = refl;
        may = free;
      }

  pub owns_nothing_idle : false ≡ was_registered → OwnsNothing (about At.Idle) h was_registered
  owns_nothing_idle e =
      record {
        owner = refl;
        reader = refl;
        registered = e;
        asleep = refl;
        unfilled = refl;
        ok = refl;
        leaves = refl;
        needs_queue = refl;
        may = tt;
      }

pub owns_nothing_waking : {h : Holding} (who : Who) (role : Role) → filled role ≡ false → Allowed (may_wake who) h
    → OwnsNothing (waking who role) h (waiter who)
owns_nothing_waking who role f may =
    record {
      owner = refl;
      reader = refl;
      registered = refl;
      asleep = refl;
      unfilled = f;
      ok = refl;
      leaves = refl;
      needs_queue = refl;
      may = may;
    }
