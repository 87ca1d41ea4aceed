-- Two steps of one place, whose views agree at its access, do the same: the half of reads_one_access that is about
-- rules. In order: what is told of two steps; rules at the word; every place.
-- Not here: the machines that the views are of (ReadsOneAccess.antt); the value at an access (Values.antt).
-- Assumes nothing.
use Rattle.std.specs.Prelude.{ℕ, Bool, false, ◌⊎◌, ◌≡◌, eqb, ltb, Err, Ok, Option, Some, None}
use Rattle.std.proofs.Math.Bool.{true}
use Rattle.std.proofs.Math.Logic.{inl}
use Rattle.std.proofs.Common.{inr, sym, ap}
use Rattle.std.proofs.Math.Path.{refl, subst}
use Rattle.word.specs.Base.{pick}
use Rattle.word.specs.Flags.{word, LOCKED, SINGLE, to_node, locked, queued, downgraded}
use Rattle.word.specs.Number.{is_none, node, node_of}
use Rattle.word.specs.Rules.{read_lock_of, read_unlock_of}
use Rattle.word.specs.declared.flags.Word.{Word}
use Rattle.word.specs.declared.number.NodeNumber.{NodeNumber}
use Rattle.word.specs.declared.number.ThreadNumber.{ThreadNumber}
use Rattle.word.specs.declared.rules.ReadUnlocked.{ReadUnlocked}
use Rattle.word.specs.declared.rules.ReadUnlocked.TheVariants.{To as UnlockTo, Contended, Refused as UnlockRefused}
use Rattle.state.specs.Access.{access_of}
use Rattle.state.specs.Node.{with_next, with_prev, with_tail}
use Rattle.state.specs.View.{agrees_of, Stepped}
use Rattle.state.specs.declared.access.Location.{Location}
use Rattle.state.specs.declared.access.Location.TheVariants.{Word as TheWord, Next, Prev, Tail, Completed}
use Rattle.state.specs.declared.access.Location.TheVariants.{Token}
use Rattle.state.specs.declared.answer.Answer.{Answer}
use Rattle.state.specs.declared.answer.Answer.TheVariants.{Went}
use Rattle.state.specs.declared.holding.Holding.{Holding}
use Rattle.state.specs.declared.node.Node.{Node}
use Rattle.state.specs.declared.place.Place.{Place}
use Rattle.state.specs.declared.place.Place.TheVariants as At
use Rattle.state.specs.declared.place.Walk.TheVariants.{Queue, ReadUnlock, Downgrade}
use Rattle.state.specs.declared.place.Who.{Who}
use Rattle.state.specs.declared.view.Change.{Change}
use Rattle.state.specs.declared.view.Mark.{Mark}
use Rattle.state.specs.declared.view.Mark.TheVariants.{Missing, Reader, Writer}
use Rattle.state.specs.declared.view.View.{View}
use Rattle.acquire.specs.LockContended.{permitted_of, contend_by, contend_cas_by, spin_count}
use Rattle.acquire.specs.TryRead.{try_read_by, try_read_cas_by}
use Rattle.unlock.specs.AfterWalk.{marked_by}
use Rattle.release.specs.ReadUnlock.{read_unlock_by, read_unlock_cas_by}
use Rattle.lock.specs.Advance.{advance_of}
use Rattle.promises.specs.Places.{never}
use Rattle.promises.specs.Statements.{reads_mark}
use Rattle.promises.specs.Values.{bit_same, value_in, InWord, Quiet}

-- ── what is told of two steps ──

-- the own node, where the access lies in the word: kept in both machines, or filled alike
abbrev pub FilledAlike : Location → Node → Node → Node → Node → Type 0
FilledAlike l n n' after after' = InWord l (((after ≡ n) × (after' ≡ n')) ⊎ (after ≡ after'))

-- what others learn of a step, and what it leaves at its access
pub record Told : Type 0 where
  pub place : Place
  pub holding : Holding
  pub answer : Answer
  pub woken : Option ThreadNumber
  pub value : ℕ

abbrev pub told_of : Location → Change → Told
told_of l c =
    record {
      place = c.thread.place;
      holding = c.thread.holding;
      answer = c.answer;
      woken = c.woken;
      value = value_in l c.word c.node c.thread.token;
    }

-- a call that goes on at a place, with the value y at its access
abbrev went_to : Holding → Place → ℕ → Told
went_to h p y = record { place = p; holding = h; answer = Went; woken = None; value = y }

-- two steps whose access lies at a location, from own nodes n and n'
abbrev pub Twin : Location → Node → Node → Stepped → Stepped → Type 0
Twin l n n' (Ok c) (Ok c') = (told_of l c ≡ told_of l c') × FilledAlike l n n' c.node c'.node × Quiet l c.woken
Twin l n n' (Ok c) (Err r) = ⊥
Twin l n n' (Err r) (Ok c) = ⊥
Twin l n n' (Err r) (Err r') = r ≡ r'

both : {A : Type 0} (R : A → A → Type 0) (b : Bool) {x y x' y' : A} → R x x' → R y y' → R (pick b x y) (pick b x' y')
both R true f g = f
both R false f g = g

pub both_if : {A : Type 0} (R : A → A → Type 0) (b b' : Bool) {x y x' y' : A}
    → b ≡ b'
    → (b ≡ true → R x x')
    → (b ≡ false → R y y')
    → R (pick b x y) (pick b' x' y')
both_if R true true e f g = f refl
both_if R true false e f g = never (sym e)
both_if R false true e f g = never e
both_if R false false e f g = g refl

abbrev pub viewed : ThreadNumber → Word → Node → Mark → Bool → Holding → Bool → View
viewed t w n mark token h fails =
    record { me = t; word = w; node = n; mark = mark; token = token; holding = h; fails = fails }

-- ── rules at the word ──

module _ (t : ThreadNumber) (fails : Bool) (h : Holding) (n n' : Node) (k k' : Mark) (b b' : Bool) (w : Word) where
  abbrev v : View
  v = viewed t w n k b h fails

  abbrev v' : View
  v' = viewed t w n' k' b' h fails

  abbrev R : Stepped → Stepped → Type 0
  R = Twin TheWord n n'

  -- the rule of a place that accesses the word does the same by both
  abbrev AtWord : Place → Type 0
  AtWord p = R (advance_of v p) (advance_of v' p)

  try_read_by_lem : (blocking : Bool) (r : Option Word) → R (try_read_by v blocking w r) (try_read_by v' blocking w r)
  try_read_by_lem blocking (Some to) = (refl, inl (refl, refl), tt)
  try_read_by_lem blocking None = (refl, inl (refl, refl), tt)

  try_read_cas_by_lem : (blocking : Bool) (r : Option Word)
      → R (try_read_cas_by v blocking r) (try_read_cas_by v' blocking r)
  try_read_cas_by_lem blocking (Some to) = (refl, inl (refl, refl), tt)
  try_read_cas_by_lem blocking None = try_read_by_lem blocking (read_lock_of w)

  contend_by_lem : (writer : Bool) (reloads : ℕ) (r : Option Word)
      → R (contend_by v writer reloads w r) (contend_by v' writer reloads w r)
  contend_by_lem writer reloads (Some to) = (refl, inl (refl, refl), tt)
  contend_by_lem writer reloads None =
      both R (queued w)
      (refl, inr refl, tt)
      (both R (ltb reloads spin_count) (refl, inl (refl, refl), tt) (refl, inr refl, tt))

  contend_cas_by_lem : (writer : Bool) (reloads : ℕ) (r : Option Word)
      → R (contend_cas_by v writer reloads r) (contend_cas_by v' writer reloads r)
  contend_cas_by_lem writer reloads (Some to) = (refl, inl (refl, refl), tt)
  contend_cas_by_lem writer reloads None = contend_by_lem writer reloads (permitted_of writer w)

  read_unlock_by_lem : (r : ReadUnlocked) → R (read_unlock_by v w r) (read_unlock_by v' w r)
  read_unlock_by_lem (UnlockTo to) = (refl, inl (refl, refl), tt)
  read_unlock_by_lem Contended = (refl, inl (refl, refl), tt)
  read_unlock_by_lem UnlockRefused = refl

  read_unlock_cas_by_lem : (r : ReadUnlocked) → R (read_unlock_cas_by v r) (read_unlock_cas_by v' r)
  read_unlock_cas_by_lem (UnlockTo to) = (refl, inl (refl, refl), tt)
  read_unlock_cas_by_lem Contended = read_unlock_by_lem (read_unlock_of w)
  read_unlock_cas_by_lem UnlockRefused = read_unlock_by_lem (read_unlock_of w)

  try_read_load : (blocking : Bool) → AtWord (At.TryReadLoad blocking)
  unfolding advance_of
  try_read_load blocking = try_read_by_lem blocking (read_lock_of w)

  try_read_cas : (blocking : Bool) (x : Word) → AtWord (At.TryReadCas blocking x)
  unfolding advance_of
  try_read_cas blocking x =
      both R (agrees_of v x) (try_read_cas_by_lem blocking (read_lock_of x)) (try_read_by_lem blocking (read_lock_of w))

  try_write : (blocking : Bool) → AtWord (At.TryWriteOr blocking)
  unfolding advance_of
  try_write blocking = both R (locked w) (refl, inl (refl, refl), tt) (refl, inl (refl, refl), tt)

  contend_load : (writer : Bool) (reloads : ℕ) → AtWord (At.ContendLoad writer reloads)
  unfolding advance_of
  contend_load writer reloads = contend_by_lem writer reloads (permitted_of writer w)

  contend_cas : (writer : Bool) (reloads : ℕ) (x : Word) → AtWord (At.ContendCas writer reloads x)
  unfolding advance_of
  contend_cas writer reloads x =
      both R (agrees_of v x)
      (contend_cas_by_lem writer reloads (permitted_of writer x))
      (contend_by_lem writer reloads (permitted_of writer w))

  register : (writer : Bool) (reloads : ℕ) (x : Word) → AtWord (At.RegisterCas writer reloads x)
  unfolding advance_of
  register writer reloads x =
      both R (agrees_of v x) (refl, inl (refl, refl), tt) (contend_by_lem writer reloads (permitted_of writer w))

  queue_cas : (who : Who) (x : Word) → AtWord (At.QueueCas who x)
  unfolding advance_of
  queue_cas who x = both R (agrees_of v x) (refl, inl (refl, refl), tt) (refl, inl (refl, refl), tt)

  split_cas : (who : Who) (x : Word) (tail : NodeNumber) → AtWord (At.SplitCas who x tail)
  unfolding advance_of
  split_cas who x tail = both R (agrees_of v x) (refl, inl (refl, refl), tt) (refl, inl (refl, refl), tt)

  take_cas : (who : Who) (x : Word) (tail : NodeNumber) → AtWord (At.TakeCas who x tail)
  unfolding advance_of
  take_cas who x tail = both R (agrees_of v x) (refl, inl (refl, refl), tt) (refl, inl (refl, refl), tt)

  read_unlock_load : AtWord At.ReadUnlockLoad
  unfolding advance_of
  read_unlock_load = read_unlock_by_lem (read_unlock_of w)

  read_unlock_cas : (x : Word) → AtWord (At.ReadUnlockCas x)
  unfolding advance_of
  read_unlock_cas x =
      both R (agrees_of v x) (read_unlock_cas_by_lem (read_unlock_of x)) (read_unlock_by_lem (read_unlock_of w))

  write_unlock : AtWord At.WriteUnlockCas
  unfolding advance_of
  write_unlock = both R (eqb w.0 LOCKED) (refl, inl (refl, refl), tt) (refl, inl (refl, refl), tt)

  release : (x : Word) → AtWord (At.ReleaseCas x)
  unfolding advance_of
  release x = both R (agrees_of v x) (refl, inl (refl, refl), tt) (refl, inl (refl, refl), tt)

  downgrade : AtWord At.DowngradeCas
  unfolding advance_of
  downgrade = both R (eqb w.0 LOCKED) (refl, inl (refl, refl), tt) (refl, inl (refl, refl), tt)

  downgrade_slow : (x : Word) → AtWord (At.DowngradeSlowCas x)
  unfolding advance_of
  downgrade_slow x = both R (agrees_of v x) (refl, inl (refl, refl), tt) (refl, inl (refl, refl), tt)

-- ── every place ──

-- the mark is the same where it is read
abbrev pub Marks : Place → Mark → Mark → Type 0
Marks p k k' =
    (who : Who) (x : Word) (tail : NodeNumber) → p ≡ At.WalkHead (Queue who) x tail → reads_mark x ≡ true → k ≡ k'

module _ (t : ThreadNumber) (fails : Bool) (h : Holding) (n n' : Node) (k k' : Mark) (b b' : Bool) (w w' : Word) where
  abbrev u : View
  u = viewed t w n k b h fails

  -- the other view, with another node
  abbrev beside : Node → View
  beside x = viewed t w' x k' b' h fails

  abbrev Alongside : Location → Place → View → Type 0
  Alongside l p other = Twin l n n' (advance_of u p) (advance_of other p)

  by_word : (p : Place)
      → Twin TheWord n n' (advance_of u p) (advance_of (viewed t w n' k' b' h fails) p)
      → w.0 ≡ w'.0
      → Alongside TheWord p (beside n')
  by_word p f e = subst (λ x. Alongside TheWord p (viewed t (word x) n' k' b' h fails)) e f

  abbrev MarkedAlike : Who → Word → NodeNumber → Mark → Mark → Type 0
  MarkedAlike who x tail mark mark' =
      Twin (Tail (to_node x)) n n'
      (marked_by u (with_tail n tail) who x tail mark)
      (marked_by (beside n') (with_tail n' tail) who x tail mark')

  marked_by_lem : (who : Who) (x : Word) (tail : NodeNumber) (mark mark' : Mark)
      → mark ≡ mark'
      → MarkedAlike who x tail mark mark'
  marked_by_lem who x tail mark mark' e = subst (MarkedAlike who x tail mark) e (by mark)
    where
      by : (y : Mark) → MarkedAlike who x tail y y
      by Missing = refl
      by Reader = (refl, tt, tt)
      by Writer = both (Twin (Tail (to_node x)) n n') (downgraded x) (refl, tt, tt) (refl, tt, tt)

  found : (who : Who) (x : Word) (tail : NodeNumber)
      → Marks (At.WalkHead (Queue who) x tail) k k'
      → Alongside (Tail (to_node x)) (At.WalkHead (Queue who) x tail) (beside n')
  unfolding advance_of
  found who x tail marks =
      let marked : reads_mark x ≡ true → MarkedAlike who x tail k k' =
      λ y. marked_by_lem who x tail k k' (marks who x tail refl y) in
      both_if (Twin (Tail (to_node x)) n n') (locked x) (locked x) refl
      (λ y. both_if (Twin (Tail (to_node x)) n n') (downgraded x) (downgraded x) refl
      (λ z. marked (rw (y, z)))
      (λ _. (refl, tt, tt)))
      (λ y. marked (rw y))

  pub twins : (p : Place)
      → value_in (access_of t p).location w n b ≡ value_in (access_of t p).location w' n' b'
      → Marks p k k'
      → Alongside (access_of t p).location p (beside n')
  unfolding access_of advance_of
  twins At.Idle e mk = refl
  twins (At.TryReadLoad x) e mk = by_word (At.TryReadLoad x) (try_read_load t fails h n n' k k' b b' w x) e
  twins (At.TryReadCas x y) e mk = by_word (At.TryReadCas x y) (try_read_cas t fails h n n' k k' b b' w x y) e
  twins (At.TryWriteOr x) e mk = by_word (At.TryWriteOr x) (try_write t fails h n n' k k' b b' w x) e
  twins (At.ContendLoad x r) e mk = by_word (At.ContendLoad x r) (contend_load t fails h n n' k k' b b' w x r) e
  twins (At.ContendCas x r y) e mk = by_word (At.ContendCas x r y) (contend_cas t fails h n n' k k' b b' w x r y) e
  twins (At.RegisterCas x r y) e mk = by_word (At.RegisterCas x r y) (register t fails h n n' k k' b b' w x r y) e
  twins (At.CompletedLoad x) e mk =
      both_if (Twin (Completed (node_of t)) n n') n.completed n'.completed
      (bit_same n.completed n'.completed e)
      (λ _. (ap (went_to h (At.ContendLoad x 0)) e, tt, tt))
      (λ _. (ap (went_to h (At.Park x)) e, tt, tt))
  twins (At.Park x) e mk =
      both (Twin (Token t) n n') fails (ap (went_to h (At.CompletedLoad x)) e, tt, refl) (refl, tt, refl)
  twins (At.WalkTail c x y) e mk =
      subst (λ z. Alongside (Tail y) (At.WalkTail c x y) (beside (with_tail n' (node z)))) e
      (both (Twin (Tail y) n n') (is_none n.tail) (refl, tt, tt) (refl, tt, tt))
  twins (At.WalkNext c x y) e mk =
      subst (λ z. Alongside (Next y) (At.WalkNext c x y) (beside (with_next n' (word z)))) e (refl, tt, tt)
  twins (At.WalkPrev c x y z) e mk = (refl, tt, tt)
  twins (At.WalkHead (Queue who) x y) e mk = found who x y mk
  twins (At.WalkHead ReadUnlock x y) e mk = (refl, tt, tt)
  twins (At.WalkHead Downgrade x y) e mk = (refl, tt, tt)
  twins (At.QueueCas who x) e mk = by_word (At.QueueCas who x) (queue_cas t fails h n n' k k' b b' w who x) e
  twins (At.SplitPrev who x y) e mk =
      subst (λ z. Alongside (Prev y) (At.SplitPrev who x y) (beside (with_prev n' (node z)))) e
      (both (Twin (Prev y) n n') (is_none n.prev) (refl, tt, tt) (refl, tt, tt))
  twins (At.SplitStore who x y z) e mk = (refl, tt, tt)
  twins (At.SplitCas who x y) e mk = by_word (At.SplitCas who x y) (split_cas t fails h n n' k k' b b' w who x y) e
  twins (At.SplitRestore who x y z) e mk = (refl, tt, tt)
  twins (At.TakeCas who x y) e mk = by_word (At.TakeCas who x y) (take_cas t fails h n n' k k' b b' w who x y) e
  twins (At.WakePrev who y) e mk =
      subst (λ z. Alongside (Prev y) (At.WakePrev who y) (beside (with_prev n' (node z)))) e (refl, tt, tt)
  twins (At.WakeStore who y z) e mk = both (Twin (Completed y) n n') (is_none z) (refl, tt, tt) (refl, tt, tt)
  twins At.ReadUnlockLoad e mk = by_word At.ReadUnlockLoad (read_unlock_load t fails h n n' k k' b b' w) e
  twins (At.ReadUnlockCas x) e mk = by_word (At.ReadUnlockCas x) (read_unlock_cas t fails h n n' k k' b b' w x) e
  twins (At.Subtract x y) e mk =
      subst (λ z. Alongside (Next y) (At.Subtract x y) (beside (with_next n' (word z)))) e
      (both (Twin (Next y) n n') (ltb n.next.0 SINGLE) refl (refl, tt, tt))
  twins At.WriteUnlockCas e mk = by_word At.WriteUnlockCas (write_unlock t fails h n n' k k' b b' w) e
  twins (At.ReleaseCas x) e mk = by_word (At.ReleaseCas x) (release t fails h n n' k k' b b' w x) e
  twins At.DowngradeCas e mk = by_word At.DowngradeCas (downgrade t fails h n n' k k' b b' w) e
  twins (At.DowngradeSlowCas x) e mk = by_word (At.DowngradeSlowCas x) (downgrade_slow t fails h n n' k k' b b' w x) e
