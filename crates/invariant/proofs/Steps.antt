-- A step at any place: the node that it touches is its own or waits, and its rule keeps the invariant. One row for
-- each place.
-- Assumes nothing.
use Rattle.std.specs.Prelude.{ℕ, suc, ◌+◌, ◌-◌, ◌≤◌, ◌<◌, Bool, true, ◌⊎◌, ◌≡◌, ltb, Ok, Some, None}
use Rattle.std.proofs.Math.Logic.{inl, inr}
use Rattle.std.proofs.Math.Path.{refl}
use Rattle.std.proofs.Common.{sym, subst, add-one, arith, le-ltb}
use Rattle.word.specs.Cases.{pick_no}
use Rattle.word.specs.Number.{none, slot_of}
use Rattle.word.specs.declared.flags.Word.{Word}
use Rattle.word.specs.declared.number.NodeNumber.{NodeNumber}
use Rattle.word.specs.declared.number.ThreadNumber.{ThreadNumber}
use Rattle.state.specs.Access.{access_of, touched_of}
use Rattle.state.specs.Machine.{thread_limit}
use Rattle.state.specs.declared.place.Walk.{Walk}
use Rattle.state.specs.declared.place.Place.{Place}
use Rattle.state.specs.declared.place.Place.TheVariants as At
use Rattle.state.specs.declared.view.Mark.TheVariants.{Missing}
use Rattle.lock.specs.Advance.{advance_of}
use Rattle.lock.specs.Step.{halted_of, marked_of}
use Rattle.queue.specs.Tickets.{Ghost}
use Rattle.queue.specs.Reads.{EachNode, NodeWaits, named_wait}
use Rattle.queue.specs.Tests.{impossible}
use Rattle.invariant.specs.Table.{about, Lock, wait_of}
use Rattle.invariant.specs.Invariant.{Inv}
use Rattle.invariant.proofs.Exclusion.{inside}
use Rattle.invariant.specs.Kept.{Goes, Setting, mine}
use Rattle.invariant.proofs.FirstTry.{kept_try_read_load, kept_try_read_cas, kept_try_write_or}
use Rattle.invariant.proofs.Contend.{kept_contend_load, kept_contend_cas}
use Rattle.invariant.proofs.Register.{kept_register_cas}
use Rattle.invariant.proofs.Wait.{kept_completed_load, kept_park}
use Rattle.invariant.proofs.Walks.{kept_walk_tail, kept_walk_next, kept_walk_prev, kept_walk_head}
use Rattle.invariant.proofs.Owner.{kept_queue_cas}
use Rattle.invariant.proofs.Split.{kept_split_prev, kept_split_store, kept_split_cas, kept_split_restore}
use Rattle.invariant.proofs.Take.{kept_take_cas}
use Rattle.invariant.proofs.Wake.{WaiterOf, waiter_of_lem, kept_wake_prev, kept_wake_store}
use Rattle.invariant.proofs.ReadUnlock.{kept_read_unlock_load, kept_read_unlock_cas}
use Rattle.invariant.proofs.Subtract.{kept_subtract}
use Rattle.invariant.proofs.Release.{kept_write_unlock_cas, kept_release_cas}
use Rattle.invariant.proofs.Downgrade.{kept_downgrade_cas, kept_downgrade_slow_cas}

-- ── which node a step touches ──

module _ {n : ℕ} {s : Lock} {g : Ghost} (i : Inv n s g) where
  abbrev pub WaitingNode : ℕ → Type 0
  WaitingNode k = wait_of s.th s.nd k ≡ true

  -- every node number that a place carries waits
  names : (t : ℕ) (p : Place) → (s.th t).place ≡ p → EachNode (NodeWaits i.queue t) (about p).role
  names t p here = subst (λ q. EachNode (NodeWaits i.queue t) (about q).role) here (named_wait i.queue t)

  -- its own, or one that waits
  pub touches : (me : ThreadNumber) (p : Place) → (s.th me.0).place ≡ p
      → ((touched_of (access_of me p) me).0 ≡ me.0 + 1) ⊎ WaitingNode (touched_of (access_of me p) me).0
  unfolding access_of
  touches me At.Idle here = inl refl
  touches me (At.TryReadLoad _) here = inl refl
  touches me (At.TryReadCas _ _) here = inl refl
  touches me (At.TryWriteOr _) here = inl refl
  touches me (At.ContendLoad _ _) here = inl refl
  touches me (At.ContendCas _ _ _) here = inl refl
  touches me (At.RegisterCas _ _ _) here = inl refl
  touches me (At.CompletedLoad _) here = inl refl
  touches me (At.Park _) here = inl refl
  touches me (At.WalkTail k seen current) here = inr (names me.0 (At.WalkTail k seen current) here).1
  touches me (At.WalkNext k seen current) here = inr (names me.0 (At.WalkNext k seen current) here).1
  touches me (At.WalkPrev k seen current next) here = inr (names me.0 (At.WalkPrev k seen current next) here).2
  touches me (At.WalkHead k seen tail) here = inr (names me.0 (At.WalkHead k seen tail) here).0
  touches me (At.QueueCas _ _) here = inl refl
  touches me (At.SplitPrev who seen tail) here = inr (names me.0 (At.SplitPrev who seen tail) here).1
  touches me (At.SplitStore who seen tail prev) here = inr (names me.0 (At.SplitStore who seen tail prev) here).0
  touches me (At.SplitCas _ _ _) here = inl refl
  touches me (At.SplitRestore who seen tail reported) here =
      inr (names me.0 (At.SplitRestore who seen tail reported) here).0
  touches me (At.TakeCas _ _ _) here = inl refl
  touches me (At.WakePrev who current) here = inr (names me.0 (At.WakePrev who current) here)
  touches me (At.WakeStore who current prev) here = inr (names me.0 (At.WakeStore who current prev) here).0
  touches me At.ReadUnlockLoad here = inl refl
  touches me (At.ReadUnlockCas _) here = inl refl
  touches me (At.Subtract seen tail) here = inr (names me.0 (At.Subtract seen tail) here).1
  touches me At.WriteUnlockCas here = inl refl
  touches me (At.ReleaseCas _) here = inl refl
  touches me At.DowngradeCas here = inl refl
  touches me (At.DowngradeSlowCas _) here = inl refl

  -- the tail whose writer mark is read waits too
  pub marks : (t : ℕ) (p : Place) → (s.th t).place ≡ p → (marked_of p ≡ none) ⊎ WaitingNode (marked_of p).0
  unfolding marked_of
  marks t At.Idle here = inl refl
  marks t (At.TryReadLoad _) here = inl refl
  marks t (At.TryReadCas _ _) here = inl refl
  marks t (At.TryWriteOr _) here = inl refl
  marks t (At.ContendLoad _ _) here = inl refl
  marks t (At.ContendCas _ _ _) here = inl refl
  marks t (At.RegisterCas _ _ _) here = inl refl
  marks t (At.CompletedLoad _) here = inl refl
  marks t (At.Park _) here = inl refl
  marks t (At.WalkTail _ _ _) here = inl refl
  marks t (At.WalkNext _ _ _) here = inl refl
  marks t (At.WalkPrev _ _ _ _) here = inl refl
  marks t (At.WalkHead k seen tail) here = inr (names t (At.WalkHead k seen tail) here).1
  marks t (At.QueueCas _ _) here = inl refl
  marks t (At.SplitPrev _ _ _) here = inl refl
  marks t (At.SplitStore _ _ _ _) here = inl refl
  marks t (At.SplitCas _ _ _) here = inl refl
  marks t (At.SplitRestore _ _ _ _) here = inl refl
  marks t (At.TakeCas _ _ _) here = inl refl
  marks t (At.WakePrev _ _) here = inl refl
  marks t (At.WakeStore _ _ _) here = inl refl
  marks t At.ReadUnlockLoad here = inl refl
  marks t (At.ReadUnlockCas _) here = inl refl
  marks t (At.Subtract _ _) here = inl refl
  marks t At.WriteUnlockCas here = inl refl
  marks t (At.ReleaseCas _) here = inl refl
  marks t At.DowngradeCas here = inl refl
  marks t (At.DowngradeSlowCas _) here = inl refl

  -- a node that waits has a slot
  pub slot_waiting : (k : NodeNumber) → WaitingNode k.0 → (j : ℕ) × (slot_of k n ≡ Some j)
  slot_waiting k w =
      let x : WaiterOf s k.0 = waiter_of_lem s k.0 w in
      let l : x.thread < n = inside i x.thread (λ a. a.registered) refl x.registered in (
        k.0 - 1,
        sym (pick_no (ltb k.0 1) _ None _ (le-ltb k.0 1 (omega (arith, x.node)))
            (pick_no (ltb n k.0) _ None _ (le-ltb n k.0 (omega (arith, x.node))) refl)),
      )

  -- the tail that a walk found has a slot too
  pub slot_marked : (t : ℕ) (k : Walk) (seen : Word) (tail : NodeNumber) → (s.th t).place ≡ At.WalkHead k seen tail
      → (j : ℕ) × (slot_of tail n ≡ Some j)
  slot_marked t k seen tail here = slot_waiting tail (names t (At.WalkHead k seen tail) here).1

-- ── what a step does ──

module _ (st : Setting) (few : st.n ≤ thread_limit) where
  open st use {me}

  own : (p : Place) → Goes st (suc me.0) (λ v. advance_of v p) → Goes st (me.0 + 1) (λ v. advance_of v p)
  own p = subst (λ k. Goes st k (λ v. advance_of v p)) (sym (add-one me.0))

  -- the rule of every place keeps the invariant, where the step is not halted and a walk's tail has its mark
  pub kept_everywhere : (p : Place) → (mine st).place ≡ p → (token : Bool)
      → halted_of (access_of me p).kind token st.fails ≡ Ok tt
      → ((k : Walk) (seen : Word) (tail : NodeNumber) → p ≡ At.WalkHead k seen tail → st.mark ≡ Missing → ⊥)
      → Goes st (touched_of (access_of me p) me).0 (λ v. advance_of v p)
  unfolding access_of advance_of
  kept_everywhere At.Idle here token fine marked = impossible (cc)
  kept_everywhere (At.TryReadLoad blocking) here token fine marked = kept_try_read_load st _ blocking here
  kept_everywhere (At.TryReadCas blocking seen) here token fine marked = kept_try_read_cas st _ blocking seen here
  kept_everywhere (At.TryWriteOr blocking) here token fine marked = kept_try_write_or st _ blocking here
  kept_everywhere (At.ContendLoad writer reloads) here token fine marked =
      own (At.ContendLoad writer reloads) (kept_contend_load st writer reloads here)
  kept_everywhere (At.ContendCas writer reloads seen) here token fine marked =
      own (At.ContendCas writer reloads seen) (kept_contend_cas st writer reloads seen here)
  kept_everywhere (At.RegisterCas writer reloads seen) here token fine marked =
      own (At.RegisterCas writer reloads seen) (kept_register_cas st writer reloads seen here)
  kept_everywhere (At.CompletedLoad writer) here token fine marked =
      own (At.CompletedLoad writer) (kept_completed_load st writer here)
  kept_everywhere (At.Park writer) here token fine marked = own (At.Park writer) (kept_park st writer here)
  kept_everywhere (At.WalkTail k seen current) here token fine marked = kept_walk_tail st k seen current here
  kept_everywhere (At.WalkNext k seen current) here token fine marked = kept_walk_next st k seen current here
  kept_everywhere (At.WalkPrev k seen current next) here token fine marked = kept_walk_prev st k seen current next here
  kept_everywhere (At.WalkHead k seen tail) here token fine marked =
      kept_walk_head st k seen tail here (marked k seen tail refl)
  kept_everywhere (At.QueueCas who seen) here token fine marked =
      own (At.QueueCas who seen) (kept_queue_cas st who seen here)
  kept_everywhere (At.SplitPrev who seen tail) here token fine marked = kept_split_prev st who seen tail here
  kept_everywhere (At.SplitStore who seen tail prev) here token fine marked =
      kept_split_store st who seen tail prev here
  kept_everywhere (At.SplitCas who seen tail) here token fine marked =
      own (At.SplitCas who seen tail) (kept_split_cas st who seen tail here)
  kept_everywhere (At.SplitRestore who seen tail reported) here token fine marked =
      kept_split_restore st who seen tail reported here
  kept_everywhere (At.TakeCas who seen tail) here token fine marked =
      own (At.TakeCas who seen tail) (kept_take_cas st who seen tail here)
  kept_everywhere (At.WakePrev who current) here token fine marked = kept_wake_prev st few who current here
  kept_everywhere (At.WakeStore who current prev) here token fine marked = kept_wake_store st few who current prev here
  kept_everywhere At.ReadUnlockLoad here token fine marked = kept_read_unlock_load st _ here
  kept_everywhere (At.ReadUnlockCas seen) here token fine marked = kept_read_unlock_cas st _ seen here
  kept_everywhere (At.Subtract seen tail) here token fine marked = kept_subtract st seen tail here
  kept_everywhere At.WriteUnlockCas here token fine marked = kept_write_unlock_cas st _ here
  kept_everywhere (At.ReleaseCas seen) here token fine marked = kept_release_cas st _ seen here
  kept_everywhere At.DowngradeCas here token fine marked = kept_downgrade_cas st _ here
  kept_everywhere (At.DowngradeSlowCas seen) here token fine marked = kept_downgrade_slow_cas st _ seen here
