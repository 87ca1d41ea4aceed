-- The plain lock: mutual exclusion from the invariant, and that an event's effect on the lock is a
-- step that a plain lock allows.
-- Assumes nothing.
use Rattle.std.specs.Prelude.{ℕ, zero, suc, ◌+◌, ◌≤◌, ◌<◌, Bool, true, false, List, [], ◌∷◌, ◌≢◌, ◌⊎◌, ◌≡◌, refl, ltb}
use Rattle.std.specs.Prelude.{Err, Ok}
use Rattle.std.proofs.Common.{inl, inr, sym, ap, ◌∙◌, subst, arith, ltb-true}
use Rattle.std.proofs.Math.Path.{fun_ext}
use Rattle.std.proofs.Math.Decide.{dec_lt}
use Rattle.word.specs.Base.{pick}
use Rattle.word.specs.Cases.{pick_both}
use Rattle.word.specs.Flags.{queued, locked, downgraded}
use Rattle.state.specs.Answer.{Reply}
use Rattle.state.specs.Holding.{reads_of, writes_of}
use Rattle.state.specs.Machine.{thread_at}
use Rattle.state.specs.declared.holding.Holding.{Holding}
use Rattle.state.specs.declared.holding.Holding.TheVariants.{Nothing, Read, Write}
use Rattle.state.specs.declared.machine.Machine.{Machine}
use Rattle.state.specs.declared.place.Place.{Place}
use Rattle.state.specs.declared.place.Place.TheVariants as At
use Rattle.lock.specs.Effect.{LockEffect, keeps, grants_read, grants_write, releases_read}
use Rattle.lock.specs.Effect.{releases_write, downgrades, Stand, release_of, lock_effect}
use Rattle.lock.specs.Effect.{word_changed, stand_of, held_after, at_end, at_end_or_walk, at_end_or_release}
use Rattle.lock.specs.Event.{event_of}
use Rattle.promises.proofs.Theorems.{changes_little, refusal_changes_nothing, holding_follows_effect}
use Rattle.queue.specs.Updates.{upd, upd_same, upd_other, upd_self, eq?}
use Rattle.queue.specs.Sums.{sum, sum_le, sum_two, sum_some}
use Rattle.queue.specs.Tickets.{Ghost}
use Rattle.invariant.specs.Table.{about, Lock, Free, Allowed}
use Rattle.invariant.specs.Invariant.{readers, writers, leavers, Unqueued, empty, written}
use Rattle.invariant.specs.Invariant.{read, Locked, by_writer, by_readers, by_leaver, Inv}
use Rattle.invariant.specs.Bridge.{lock_of}
use Rattle.invariant.proofs.Events.{Sound, event_safe}
use Rattle.safety.specs.Statements.{Event, after, effect_in, ran_by, ran, holders_of, Allows, Plainly}
use Rattle.safety.specs.Statements.{Whose, nobodys, readers as readers_hold, writers as writers_hold}

-- ── what is held, by its numbers ──

free_is : (h : Holding) → Free h → h ≡ Nothing
free_is Nothing f = refl
free_is Read f = absurd (omega (arith, f.reads))
free_is Write f = absurd (omega (arith, f.writes))

reads_is : (h : Holding) → 1 ≤ reads_of h → h ≡ Read
reads_is Nothing l = absurd (omega arith)
reads_is Read l = refl
reads_is Write l = absurd (omega arith)

writes_is : (h : Holding) → 1 ≤ writes_of h → h ≡ Write
writes_is Nothing l = absurd (omega arith)
writes_is Read l = absurd (omega arith)
writes_is Write l = refl

-- ── mutual exclusion ──

module _ (n : ℕ) (s : Lock) (g : Ghost) (i : Inv n s g) where
  -- readers and a writer exclude each other, and there is one writer at most
  pub exclusive : (1 ≤ readers n s → writers n s ≡ 0) × (writers n s ≤ 1)
  exclusive = by (queued s.word) (locked s.word) (downgraded s.word) refl refl refl
    where
      bare : Unqueued s.word (readers n s) (writers n s) (leavers n s)
          → (1 ≤ readers n s → writers n s ≡ 0) × (writers n s ≤ 1)
      bare (empty z h) = (λ l. omega (arith, h.reads), omega (arith, h.writes))
      bare (written z h) = (λ l. absurd (omega (arith, h.reads)), omega (arith, h.writes))
      bare (read z r h) = (λ l. h.writes, omega (arith, h.writes))

      held : Locked (readers n s) (writers n s) (leavers n s) → (1 ≤ readers n s → writers n s ≡ 0) × (writers n s ≤ 1)
      held (by_writer h) = (λ l. absurd (omega (arith, h.reads)), omega (arith, h.writes))
      held (by_readers r h) = (λ l. h.writes, omega (arith, h.writes))
      held (by_leaver h) = (λ l. h.writes, omega (arith, h.writes))

      by : (q l d : Bool)
          → queued s.word ≡ q
          → locked s.word ≡ l
          → downgraded s.word ≡ d
          → (1 ≤ readers n s → writers n s ≡ 0) × (writers n s ≤ 1)
      by false l d eq el ed = bare (i.count.bare eq)
      by true false d eq el ed = (
        λ _. (i.count.unlocked eq el).writes,
        omega (arith, (i.count.unlocked eq el).writes),
      )
      by true true true eq el ed = (
        λ _. (i.count.handed eq el ed).writes,
        omega (arith, (i.count.handed eq el ed).writes),
      )
      by true true false eq el ed = held (i.count.held eq el ed)

  -- who holds anything is within the count
  pub within : (t : ℕ) → 1 ≤ reads_of (s.th t).holding + writes_of (s.th t).holding → t < n
  within t l = by (dec_lt t n)
    where
      by : Dec (t < n) → t < n
      by (yes k) = k
      by (no k) = absurd (omega (arith, (i.unheld t (omega arith)).reads, (i.unheld t (omega arith)).writes))

  -- where somebody reads, nobody writes
  pub no_writer : (t : ℕ) → 1 ≤ reads_of (s.th t).holding → (u : ℕ) → writes_of (s.th u).holding ≡ 0
  no_writer t l u = by (dec_lt u n)
    where
      by : Dec (u < n) → writes_of (s.th u).holding ≡ 0
      by (yes k) =
          omega (
            arith,
            sum_le n (λ j. writes_of (s.th j).holding) u k,
            exclusive.0 (omega (arith, sum_le n (λ j. reads_of (s.th j).holding) t (within t (omega arith)))),
          )
      by (no k) = (i.unheld u (omega arith)).writes

  -- where somebody writes, nobody else holds anything
  pub no_other : (t : ℕ) → 1 ≤ writes_of (s.th t).holding → (u : ℕ) → u ≢ t → Free (s.th u).holding
  no_other t l u ne = by (dec_lt u n) (dec_lt u t)
    where
      tin : t < n
      tin = within t (omega arith)

      w : ℕ → ℕ
      w j = writes_of (s.th j).holding

      no_reader : u < n → reads_of (s.th u).holding ≡ 0
      no_reader k = at (reads_of (s.th u).holding) refl
        where
          at : (r : ℕ) → reads_of (s.th u).holding ≡ r → r ≡ 0
          at zero e = refl
          at (suc r) e = absurd (omega (arith, no_writer u (omega arith) t))

      by : Dec (u < n) → Dec (u < t) → Free (s.th u).holding
      by (no k) d = i.unheld u (omega arith)
      by (yes k) (yes d) = record { reads = no_reader k; writes = omega (arith, sum_two n w u t d tin, exclusive.1) }
      by (yes k) (no d) = record {
        reads = no_reader k;
        writes = omega (arith, sum_two n w t u (omega arith) k, exclusive.1);
      }

pub whose : (m : Machine) → Sound m → Whose (holders_of m)
whose m ok = by (dec_lt 0 (readers m.count (lock_of m))) (dec_lt 0 (writers m.count (lock_of m)))
  where
    some : (f : Holding → ℕ)
        → 0 < sum m.count (λ t. f (thread_at m t).holding)
        → (t : ℕ) × (1 ≤ f (thread_at m t).holding)
    some f l = sum_some m.count (λ t. f (thread_at m t).holding) l

    none : (f : Holding → ℕ)
        → (0 < sum m.count (λ t. f (thread_at m t).holding) → ⊥)
        → (u : ℕ)
        → u < m.count
        → f (thread_at m u).holding ≡ 0
    none f l u k =
        let z : sum m.count (λ t. f (thread_at m t).holding) ≤ 0 = omega arith in
        omega (arith, sum_le m.count (λ t. f (thread_at m t).holding) u k)

    by : Dec (0 < readers m.count (lock_of m)) → Dec (0 < writers m.count (lock_of m)) → Whose (holders_of m)
    by (yes r) w =
        let x : (t : ℕ) × (1 ≤ reads_of (thread_at m t).holding) = some reads_of r in
        readers_hold x.0 (reads_is (thread_at m x.0).holding x.1)
        (λ u e. absurd
        (omega (arith, no_writer m.count (lock_of m) ok.ghost ok.inv x.0 x.1 u, ap writes_of e)))
    by (no r) (yes w) =
        let x : (t : ℕ) × (1 ≤ writes_of (thread_at m t).holding) = some writes_of w in
        writers_hold x.0 (writes_is (thread_at m x.0).holding x.1)
        (λ u ne. free_is (thread_at m u).holding
        (no_other m.count (lock_of m) ok.ghost ok.inv x.0 x.1 u ne))
    by (no r) (no w) = nobodys (λ u. free_is (thread_at m u).holding (free u (dec_lt u m.count)))
      where
        free : (u : ℕ) → Dec (u < m.count) → Free (thread_at m u).holding
        free u (yes k) = record { reads = none reads_of r u k; writes = none writes_of w u k }
        free u (no k) = ok.inv.unheld u (omega arith)

-- ── what an effect asks of its thread ──

abbrev HeldFor : LockEffect → Holding → Type 0
HeldFor keeps h = Unit {0}
HeldFor grants_read h = Free h
HeldFor grants_write h = Free h
HeldFor releases_read h = 1 ≤ reads_of h
HeldFor releases_write h = 1 ≤ writes_of h
HeldFor downgrades h = 1 ≤ writes_of h

module _ (h : Holding) (changed : Bool) (s : Stand) where
  made_or_kept : (b : Bool) (e : LockEffect) → HeldFor e h → HeldFor (pick b e keeps) h
  made_or_kept true e f = f
  made_or_kept false e f = tt

  released : HeldFor (release_of h) h
  released =
      pick_both (λ e. HeldFor e h) (ltb 0 (writes_of h)) _ _
      (λ l. ltb-true 0 (writes_of h) l)
      (λ _. pick_both (λ e. HeldFor e h) (ltb 0 (reads_of h)) _ _ (λ l. ltb-true 0 (reads_of h) l) (λ _. tt))

  granted : (writer : Bool) → Free h → HeldFor (pick writer grants_write grants_read) h
  granted true f = f
  granted false f = f

  effect_held : (p : Place) → Allowed (about p).may h → HeldFor (lock_effect p h changed s) h
  unfolding lock_effect
  effect_held At.Idle a = tt
  effect_held (At.TryReadLoad _) a = tt
  effect_held (At.TryReadCas _ _) a = made_or_kept changed grants_read a
  effect_held (At.TryWriteOr _) a = made_or_kept changed grants_write a
  effect_held (At.ContendLoad _ _) a = tt
  effect_held (At.ContendCas writer _ _) a =
      made_or_kept (at_end s) (pick writer grants_write grants_read) (granted writer a)
  effect_held (At.RegisterCas _ _ _) a = tt
  effect_held (At.CompletedLoad _) a = tt
  effect_held (At.Park _) a = tt
  effect_held (At.WalkTail _ _ _) a = tt
  effect_held (At.WalkNext _ _ _) a = tt
  effect_held (At.WalkPrev _ _ _ _) a = tt
  effect_held (At.WalkHead _ _ _) a = tt
  effect_held (At.QueueCas _ _) a = tt
  effect_held (At.SplitPrev _ _ _) a = tt
  effect_held (At.SplitStore _ _ _ _) a = tt
  effect_held (At.SplitCas _ _ _) a = tt
  effect_held (At.SplitRestore _ _ _ _) a = tt
  effect_held (At.TakeCas _ _ _) a = tt
  effect_held (At.WakePrev _ _) a = tt
  effect_held (At.WakeStore _ _ _) a = tt
  effect_held At.ReadUnlockLoad a = tt
  effect_held (At.ReadUnlockCas _) a = made_or_kept (at_end s) releases_read (omega (arith, a.reads))
  effect_held (At.Subtract _ _) a = made_or_kept (at_end_or_release s) releases_read (omega (arith, a.reads))
  effect_held At.WriteUnlockCas a = made_or_kept (at_end s) releases_write (omega (arith, a.writes))
  effect_held (At.ReleaseCas _) a = made_or_kept (at_end_or_walk s) (release_of h) released
  effect_held At.DowngradeCas a = made_or_kept (at_end s) downgrades (omega (arith, a.writes))
  effect_held (At.DowngradeSlowCas _) a = made_or_kept (at_end_or_walk s) downgrades (omega (arith, a.writes))

-- ── an event is a step of the plain lock ──

module _ (m : Machine) (ok : Sound m) (e : Event) where
  after_ok : Sound (after m e)
  after_ok = (event_safe m ok e.thread e.code).ok

  -- nobody else's holding changes
  others_hold : (u : ℕ) → u ≢ e.thread.0 → holders_of (after m e) u ≡ holders_of m u
  others_hold u ne = by (event_of m e.code e.thread).reply refl
    where
      by : (r : Reply) → (event_of m e.code e.thread).reply ≡ r → holders_of (after m e) u ≡ holders_of m u
      by (Ok told) f = (changes_little m e.code e.thread told.answer told.woken f).holdings u ne
      by (Err r) f = ap (λ x. holders_of x u) (refusal_changes_nothing m e.code e.thread r f)

  own_holds : holders_of (after m e) e.thread.0 ≡ held_after (effect_in m e).lock (holders_of m e.thread.0)
  own_holds = holding_follows_effect m e.code e.thread ok.sized

  all_hold : (h : Holding)
      → holders_of (after m e) e.thread.0 ≡ h
      → holders_of (after m e) ≡ upd (holders_of m) e.thread.0 h
  all_hold h z = fun_ext λ u. by u (eq? u e.thread.0)
    where
      by : (u : ℕ)
          → (u ≡ e.thread.0) ⊎ (u ≢ e.thread.0)
          → holders_of (after m e) u ≡ upd (holders_of m) e.thread.0 h u
      by u (inl f) = rw (f, upd_same (holders_of m) e.thread.0 h) z
      by u (inr ne) = rw (upd_other (holders_of m) e.thread.0 h u ne) (others_hold u ne)

  asked : HeldFor (effect_in m e).lock (holders_of m e.thread.0)
  asked =
      effect_held (holders_of m e.thread.0) (word_changed m (after m e))
      (stand_of (thread_at (after m e) e.thread.0).place) (thread_at m e.thread.0).place
      (ok.inv.holding e.thread.0)

  -- what is so of every other thread after it, and of this one before it, was so of all before
  before : (P : Holding → Type 0)
      → P (holders_of m e.thread.0)
      → ((u : ℕ) → u ≢ e.thread.0 → P (holders_of (after m e) u))
      → (u : ℕ)
      → P (holders_of m u)
  before P own others u = by (eq? u e.thread.0)
    where
      by : (u ≡ e.thread.0) ⊎ (u ≢ e.thread.0) → P (holders_of m u)
      by (inl f) = subst (λ j. P (holders_of m j)) (sym f) own
      by (inr ne) = subst P (others_hold u ne) (others u ne)

  pub event_allowed : Allows (effect_in m e).lock (holders_of m) e.thread.0 (holders_of (after m e))
  event_allowed = by (effect_in m e).lock asked own_holds
    where
      inv : Inv (after m e).count (lock_of (after m e)) after_ok.ghost
      inv = after_ok.inv

      not_write_lem : (h : Holding) → writes_of h ≡ 0 → h ≢ Write
      not_write_lem h z f = omega (arith, ap writes_of f)

      by : (f : LockEffect)
          → HeldFor f (holders_of m e.thread.0)
          → holders_of (after m e) e.thread.0 ≡ held_after f (holders_of m e.thread.0)
          → Allows f (holders_of m) e.thread.0 (holders_of (after m e))
      by keeps a z = all_hold (holders_of m e.thread.0) z ∙ upd_self (holders_of m) e.thread.0
      by grants_read a z = (
        free_is _ a,
        before (λ h. h ≢ Write) (not_write_lem _ a.writes)
            (λ u ne. not_write_lem _
            (no_writer (after m e).count (lock_of (after m e)) after_ok.ghost inv e.thread.0
            (omega (arith, ap reads_of z)) u)),
        all_hold Read z,
      )
      by grants_write a z = (
        before (λ h. h ≡ Nothing) (free_is _ a)
            (λ u ne. free_is _
            (no_other (after m e).count (lock_of (after m e)) after_ok.ghost inv e.thread.0
            (omega (arith, ap writes_of z)) u ne)),
        all_hold Write z,
      )
      by releases_read a z = (reads_is _ a, all_hold Nothing z)
      by releases_write a z = (writes_is _ a, all_hold Nothing z)
      by downgrades a z = (writes_is _ a, all_hold Read z)

pub run_allowed : (m : Machine) → Sound m → (es : List Event)
    → Plainly event_of (holders_of m) m es (holders_of (ran m es))
unfolding Plainly ran_by
run_allowed m ok [] = refl
run_allowed m ok (e ∷ es) = (
  holders_of (after m e),
  event_allowed m ok e,
  run_allowed (after m e) (event_safe m ok e.thread e.code).ok es,
)
