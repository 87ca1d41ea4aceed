-- Proof of writes_exactly: the value that a step leaves at its access. In order: what a compare leaves; the places
-- whose compare may find its rule refusing; every place; nobody is woken by an access to a token; the machine.
-- Not here: the statement (Statements.antt); the table (Tables.antt).
-- Assumes nothing.
use Rattle.std.specs.Prelude.{ℕ, ◌+◌, ◌<◌, Bool, true, false, ◌≡◌, eqb, Err, Ok, Option, Some, None}
use Rattle.std.proofs.Math.Path.{refl, ap}
use Rattle.std.proofs.Common.{sym, subst, ◌∙◌, arith}
use Rattle.word.specs.Cases.{pick_both, pick_yes, pick_no}
use Rattle.word.specs.Base.{pick}
use Rattle.word.specs.Flags.{word, LOCKED, SINGLE, locked, clear_queue_locked}
use Rattle.word.specs.Rules.{read_lock_of, registered_of, taken_of, read_unlock_of}
use Rattle.word.specs.declared.flags.Word.{Word}
use Rattle.word.specs.declared.number.ThreadNumber.{ThreadNumber}
use Rattle.word.specs.declared.rules.ReadUnlocked.{ReadUnlocked}
use Rattle.word.specs.declared.rules.ReadUnlocked.TheVariants.{To as UnlockTo, Contended, Refused as UnlockRefused}
use Rattle.state.specs.Access.{access_of, touched_of}
use Rattle.state.specs.Machine.{thread_limit, thread_at, node_at}
use Rattle.state.specs.View.{agrees_of, Stepped}
use Rattle.state.specs.declared.access.Kind.{Kind}
use Rattle.state.specs.declared.access.Kind.TheVariants as Kinds
use Rattle.state.specs.declared.access.Location.{Location}
use Rattle.state.specs.declared.access.Location.TheVariants.{Nowhere, Word as TheWord, Next, Prev, Tail, Completed}
use Rattle.state.specs.declared.access.Location.TheVariants.{Token}
use Rattle.state.specs.declared.machine.Outcome.{Outcome}
use Rattle.state.specs.declared.place.Place.{Place}
use Rattle.state.specs.declared.place.Place.TheVariants as At
use Rattle.state.specs.declared.place.Walk.TheVariants.{Queue, ReadUnlock, Downgrade}
use Rattle.state.specs.declared.view.Change.{Change}
use Rattle.state.specs.declared.view.View.{View}
use Rattle.acquire.specs.LockContended.{permitted_of, contend_judged, contend_cas_by}
use Rattle.acquire.specs.TryRead.{try_read_judged, try_read_cas_by}
use Rattle.release.specs.ReadUnlock.{read_unlock_judged, read_unlock_cas_by}
use Rattle.lock.specs.Advance.{advance_of}
use Rattle.lock.specs.Event.{event_of}
use Rattle.lock.specs.Laws.{slot_at, good_count_lem}
use Rattle.promises.proofs.Afterwards.{fails_17, step_made, by_rule, seen, obeyed, touched}
use Rattle.promises.proofs.Obeys.{All, agrees_word}
use Rattle.promises.specs.Program.{place_of, access_at}
use Rattle.promises.proofs.RuleEnds.{try_read_ends, contend_ends, completed_ends, walk_tail_ends, found_ends}
use Rattle.promises.proofs.RuleEnds.{split_prev_ends, wake_store_ends, read_unlock_ends, subtract_ends}
use Rattle.promises.specs.Shared.{woken_by}
use Rattle.promises.specs.Statements.{WritesExactly}
use Rattle.promises.specs.Tables.{bit, value_at, compared, read_to, permit_to, unlock_to, release_to, downgrade_to}
use Rattle.promises.specs.Tables.{left_by}
use Rattle.promises.specs.Values.{value_in, Quiet, TokenOwn, own_token, value_in_lem, stored_value}

-- the value after is the one of the table
abbrev Leaves : View → Place → Change → Type 0
Leaves v p c =
    value_in (access_of v.me p).location c.word c.node c.thread.token
    ≡ left_by v.me p v.fails (value_in (access_of v.me p).location v.word v.node v.token)

module _ (v : View) where
  abbrev Keeps : Change → Type 0
  Keeps c = c.word.0 ≡ v.word.0

  -- ── what a compare leaves ──

  -- a place whose access is a compare of the word seen, to a new one
  module _ (p : Place) (x : Word) (to : ℕ)
      (is : (c : Change) → c.word.0 ≡ compared v.fails v.word.0 x.0 to → Leaves v p c) where
    -- it failed, and the word is kept
    fails : agrees_of v x ≡ false → (s : Stepped) → All Keeps s → All (Leaves v p) s
    fails a (Ok c) k = is c (k ∙ pick_no (agrees_of v x) v.word.0 to v.word.0 a refl)
    fails a (Err r) k = tt

    -- it agreed where its rule refuses: the word is kept, and would be written
    agrees : agrees_of v x ≡ true → to ≡ x.0 → (s : Stepped) → All Keeps s → All (Leaves v p) s
    agrees a e (Ok c) k = is c (k ∙ pick_yes (agrees_of v x) v.word.0 to v.word.0 a (agrees_word v x a ∙ sym e))
    agrees a e (Err r) k = tt

    -- it succeeded
    succeeded : agrees_of v x ≡ true → (s : Stepped) → All (λ c. c.word.0 ≡ to) s → All (Leaves v p) s
    succeeded a (Ok c) e = is c (pick_yes (agrees_of v x) c.word.0 to v.word.0 a e)
    succeeded a (Err r) e = tt

    either : (s s' : Stepped)
        → (agrees_of v x ≡ true → All (λ c. c.word.0 ≡ to) s)
        → All Keeps s'
        → All (Leaves v p) (pick (agrees_of v x) s s')
    either s s' wrote kept =
        pick_both (All (Leaves v p)) (agrees_of v x) s s' (λ a. succeeded a s (wrote a)) (λ a. fails a s' kept)

  -- ── compares whose rule may refuse ──

  try_read_keeps : (b : Bool) → All Keeps (try_read_judged v b v.word)
  try_read_keeps b = try_read_ends v _ b refl refl

  contend_keeps : (w : Bool) (r : ℕ) → All Keeps (contend_judged v w r v.word)
  contend_keeps w r = contend_ends v _ w r refl refl refl

  read_unlock_keeps : All Keeps (read_unlock_judged v v.word)
  read_unlock_keeps = read_unlock_ends v _ refl refl

  try_read_cas : (b : Bool) (x : Word) → All (Leaves v (At.TryReadCas b x)) (advance_of v (At.TryReadCas b x))
  unfolding advance_of access_of left_by
  try_read_cas b x =
      pick_both (All (Leaves v p)) (agrees_of v x) _ _
      (by (read_lock_of x) refl)
      (λ a. fails p x to (λ c q. q) a (try_read_judged v b v.word) (try_read_keeps b))
    where
      p : Place
      p = At.TryReadCas b x

      to : ℕ
      to = read_to x (read_lock_of x)

      by : (r : Option Word) → read_lock_of x ≡ r → agrees_of v x ≡ true → All (Leaves v p) (try_read_cas_by v b r)
      by (Some y) e a = succeeded p x to (λ c q. q) a (try_read_cas_by v b (Some y)) (sym (ap (read_to x) e))
      by None e a =
          agrees p x to (λ c q. q) a (ap (read_to x) e) (try_read_judged v b v.word) (try_read_keeps b)

  contend_cas : (w : Bool) (r : ℕ) (x : Word)
      → All (Leaves v (At.ContendCas w r x)) (advance_of v (At.ContendCas w r x))
  unfolding advance_of access_of left_by
  contend_cas w r x =
      pick_both (All (Leaves v p)) (agrees_of v x) _ _
      (by (permitted_of w x) refl)
      (λ a. fails p x to (λ c q. q) a (contend_judged v w r v.word) (contend_keeps w r))
    where
      p : Place
      p = At.ContendCas w r x

      to : ℕ
      to = permit_to x (permitted_of w x)

      by : (y : Option Word) → permitted_of w x ≡ y → agrees_of v x ≡ true → All (Leaves v p) (contend_cas_by v w r y)
      by (Some y) e a = succeeded p x to (λ c q. q) a (contend_cas_by v w r (Some y)) (sym (ap (permit_to x) e))
      by None e a =
          agrees p x to (λ c q. q) a (ap (permit_to x) e) (contend_judged v w r v.word) (contend_keeps w r)

  read_unlock_cas : (x : Word) → All (Leaves v (At.ReadUnlockCas x)) (advance_of v (At.ReadUnlockCas x))
  unfolding advance_of access_of left_by
  read_unlock_cas x =
      pick_both (All (Leaves v p)) (agrees_of v x) _ _
      (by (read_unlock_of x) refl)
      (λ a. fails p x to (λ c q. q) a (read_unlock_judged v v.word) read_unlock_keeps)
    where
      p : Place
      p = At.ReadUnlockCas x

      to : ℕ
      to = unlock_to x (read_unlock_of x)

      by : (y : ReadUnlocked) → read_unlock_of x ≡ y → agrees_of v x ≡ true → All (Leaves v p) (read_unlock_cas_by v y)
      by (UnlockTo y) e a = succeeded p x to (λ c q. q) a (read_unlock_cas_by v (UnlockTo y)) (sym (ap (unlock_to x) e))
      by Contended e a =
          agrees p x to (λ c q. q) a (ap (unlock_to x) e) (read_unlock_judged v v.word) read_unlock_keeps
      by UnlockRefused e a =
          agrees p x to (λ c q. q) a (ap (unlock_to x) e) (read_unlock_judged v v.word) read_unlock_keeps

  -- ── the other compares, and park ──

  -- a strong compare of LOCKED, to a new word
  strong : (to : ℕ) (s s' : Stepped)
      → All (λ c. c.word.0 ≡ to) s
      → All Keeps s'
      → All (λ c. c.word.0 ≡ compared false v.word.0 LOCKED to) (pick (eqb v.word.0 LOCKED) s s')
  strong to s s' wrote kept = by (eqb v.word.0 LOCKED) s s' wrote kept
    where
      by : (b : Bool) (s s' : Stepped)
          → All (λ c. c.word.0 ≡ to) s
          → All Keeps s'
          → All (λ c. c.word.0 ≡ pick b to v.word.0) (pick b s s')
      by true s s' f g = f
      by false s s' f g = g

  -- ── every place ──

  rule_leaves : (p : Place) → All (Leaves v p) (advance_of v p)
  unfolding advance_of access_of left_by
  rule_leaves At.Idle = tt
  rule_leaves (At.TryReadLoad b) = try_read_ends v _ b refl refl
  rule_leaves (At.TryReadCas b x) = try_read_cas b x
  rule_leaves (At.TryWriteOr b) =
      pick_both (All (Leaves v (At.TryWriteOr b))) (locked v.word) _ _
      (λ e. ap (λ (y : Word). y.0)
      (pick_yes (locked v.word) v.word v.word (word (v.word.0 + LOCKED)) e refl))
      (λ e. refl)
  rule_leaves (At.ContendLoad w r) = contend_ends v _ w r refl refl refl
  rule_leaves (At.ContendCas w r x) = contend_cas w r x
  rule_leaves (At.RegisterCas w r x) =
      either (At.RegisterCas w r x) x (registered_of x v.me).0 (λ c q. q) _ _ (λ a. refl) (contend_keeps w r)
  rule_leaves (At.CompletedLoad w) = completed_ends v _ w refl refl
  rule_leaves (At.Park w) =
      pick_both (All (Leaves v (At.Park w))) v.fails _ _
      (λ f. pick_yes v.fails (bit v.token) (bit v.token) 0 f refl)
      (λ f. pick_no v.fails 0 (bit v.token) 0 f refl)
  rule_leaves (At.WalkTail k x n) = walk_tail_ends v _ k x n refl refl
  rule_leaves (At.WalkNext k x n) = refl
  rule_leaves (At.WalkPrev k x n y) = refl
  rule_leaves (At.WalkHead (Queue who) x z) = found_ends v _ who x z refl refl refl
  rule_leaves (At.WalkHead ReadUnlock x z) = refl
  rule_leaves (At.WalkHead Downgrade x z) = refl
  rule_leaves (At.QueueCas who x) =
      either (At.QueueCas who x) x (clear_queue_locked x).0 (λ c q. q) _ _ (λ a. refl) refl
  rule_leaves (At.SplitPrev who x z) = split_prev_ends v _ who x z refl refl
  rule_leaves (At.SplitStore who x z y) = refl
  rule_leaves (At.SplitCas who x z) =
      either (At.SplitCas who x z) x (clear_queue_locked x).0 (λ c q. q) _ _ (λ a. refl) refl
  rule_leaves (At.SplitRestore who x z y) = refl
  rule_leaves (At.TakeCas who x z) = either (At.TakeCas who x z) x (taken_of x).0 (λ c q. q) _ _ (λ a. refl) refl
  rule_leaves (At.WakePrev who n) = refl
  rule_leaves (At.WakeStore who n y) = wake_store_ends v _ who n y refl refl
  rule_leaves At.ReadUnlockLoad = read_unlock_ends v _ refl refl
  rule_leaves (At.ReadUnlockCas x) = read_unlock_cas x
  rule_leaves (At.Subtract x z) = subtract_ends v _ x z refl refl
  rule_leaves At.WriteUnlockCas = strong 0 _ _ refl refl
  rule_leaves (At.ReleaseCas x) = either (At.ReleaseCas x) x (release_to x) (λ c q. q) _ _ (λ a. refl) refl
  rule_leaves At.DowngradeCas = strong (SINGLE + LOCKED) _ _ refl refl
  rule_leaves (At.DowngradeSlowCas x) =
      either (At.DowngradeSlowCas x) x (downgrade_to x) (λ c q. q) _ _ (λ a. refl) refl

-- ── nobody is woken by an access to a token ──

quiet_token : (k : Kind) (u : ThreadNumber) → woken_by k (Token u) ≡ None
quiet_token Kinds.Nothing u = refl
quiet_token Kinds.Load u = refl
quiet_token Kinds.Store u = refl
quiet_token Kinds.WeakCompare u = refl
quiet_token Kinds.StrongCompare u = refl
quiet_token Kinds.FetchOr u = refl
quiet_token Kinds.Subtract u = refl
quiet_token Kinds.Complete u = refl
quiet_token Kinds.Park u = refl

quiet_of : (k : Kind) (l : Location) → Quiet l (woken_by k l)
quiet_of k Nowhere = tt
quiet_of k TheWord = tt
quiet_of k (Next n) = tt
quiet_of k (Prev n) = tt
quiet_of k (Tail n) = tt
quiet_of k (Completed n) = tt
quiet_of k (Token u) = quiet_token k u

-- ── the machine ──

pub writes_exactly : WritesExactly event_of
writes_exactly m code t a w z is_step e =
    let s = step_made m code t a w is_step e in
    let p = place_of m t in
    let l = (access_at m t).location in
    let v = seen m code t a w e s in
    let facts : Leaves v p s.c = by_rule m code t a w e s (Leaves v p) (rule_leaves v p) in
    let at = touched m code t a w e s in
    let few = (good_count_lem m.count s.good).1 in
    let slot = (slot_at (touched_of (access_at m t) t) m.count s.k s.slot).1 in
    let low : s.k < thread_limit = omega (arith, slot, few) in
    let own_low : t.0 < thread_limit = omega (arith, s.below, few) in
    let own : TokenOwn l t = (own_token t p).own in
    let quiet : Quiet l s.c.woken =
    subst (Quiet l) (sym (obeyed m code t a w e s).woken) (quiet_of (access_at m t).kind l) in
    let found = value_in l m.word (node_at m s.k) (thread_at m t.0).token in
    ap (λ (o : Outcome). value_at o.machine l) s.is ∙
    (stored_value m t z s.k low own_low s.c l at own quiet ∙
    (facts ∙
    (ap (λ f. left_by t p f found) (fails_17 code s.fails s.codes) ∙
    ap (left_by t p (eqb code 17)) (sym (value_in_lem m t l s.k at own)))))
