-- Proofs that an accepted event changes little: one_access, begin_shares_nothing, failure_writes_nothing,
-- changes_little and stays_sized. Each is read off what an accepted event is (Happened.antt), what its rule does
-- (Obeys.antt) and what it left (Afterwards.antt). In order: a step's nodes, its tokens, the rest; a begin; the
-- theorems.
-- Not here: the statements (Statements.antt); what becomes of holdings (Grants.antt).
-- Assumes nothing.
use Rattle.std.specs.Prelude.{ℕ, ◌+◌, Bool, true, false, not, ◌⊎◌, ◌≡◌, refl, length, Err, Ok, Option, Some}
use Rattle.std.proofs.Common.{inl, inr, ⊎_elim, sym, ap, subst, ◌∙◌, arith, length-set}
use Rattle.word.specs.Number.{thread}
use Rattle.word.specs.declared.number.NodeNumber.{NodeNumber}
use Rattle.word.specs.declared.number.ThreadNumber.{ThreadNumber}
use Rattle.state.specs.Answer.{Reply, accepted_with}
use Rattle.state.specs.Machine.{Sized, blank_thread, thread_at, node_at}
use Rattle.state.specs.Node.{blank_node}
use Rattle.state.specs.declared.access.Kind.{Kind}
use Rattle.state.specs.declared.access.Kind.TheVariants.{WeakCompare}
use Rattle.state.specs.declared.access.Location.{Location}
use Rattle.state.specs.declared.answer.Answer.{Answer}
use Rattle.state.specs.declared.machine.Machine.{Machine}
use Rattle.state.specs.declared.machine.Thread.{Thread}
use Rattle.state.specs.declared.node.Node.{Node}
use Rattle.lock.specs.Begin.{first_place, placed_of}
use Rattle.lock.specs.Event.{event_of}
use Rattle.lock.specs.Stored.{get_set, woken_count, woken_nodes, Woken, as_before, with_token_lem}
use Rattle.lock.specs.Stored.{woken_thread, woken_place, woken_holding, woken_long}
use Rattle.promises.proofs.Afterwards.{fails_17, step_made, step_not_begin}
use Rattle.promises.proofs.Afterwards.{next, obeyed, laid, landed, next_word, next_node, touched, at_next}
use Rattle.promises.proofs.Afterwards.{begun_is, begun_thread, begun_token, begun_holding}
use Rattle.promises.specs.Happened.{Begun, Stepping, Happened, begun, stepped, happened}
use Rattle.promises.specs.Places.{fills_own}
use Rattle.promises.specs.Program.{place_of, access_at}
use Rattle.promises.proofs.RefusalProofs.{refused_unchanged}
use Rattle.promises.specs.Shared.{Unless, kept_but, kept_by, fills, writes_word, is_weak, takes_token}
use Rattle.promises.specs.Statements.{NodeAfter, same, accessed, filled, TokenAfter, kept, taken}
use Rattle.promises.specs.Statements.{set as token_set_lem}
use Rattle.promises.specs.Statements.{AtAccess, OneAccess, NothingShared, BeginSharesNothing}
use Rattle.promises.specs.Statements.{FailureWritesNothing, Little, ChangesLittle, StaysSized}

-- ── small laws ──

pub unless_map : {S U : Type 0} (b : Bool) → (S → U) → Unless b S → Unless b U
unless_map true f x = tt
unless_map false f x = f x

unless_case : {S : Type 0} (b : Bool) → Unless b S → (b ≡ true) ⊎ S
unless_case true x = inl refl
unless_case false x = inr x

-- a weak compare changes no node at its access
weak_keeps : (k : Kind) (l : Location) (x y : Node) → k ≡ WeakCompare → kept_by k l x y ≡ y
weak_keeps k l x y e = rw e

unless_weak : {S : Type 0} (k : Kind) → k ≡ WeakCompare → Unless (not (is_weak k)) S → S
unless_weak {S} k e = rw e (λ x. x)

module _ (m : Machine) (code : ℕ) (t : ThreadNumber) (a : Answer) (w : Option ThreadNumber)
    (e : (event_of m code t).reply ≡ accepted_with a w) (s : Stepping m code t (event_of m code t)) where
  abbrev m' : Machine
  m' = next m code t a w e s

  abbrev stored : Machine
  stored = laid m code t a w e s

  -- ── nodes ──

  node_changed : (j : ℕ) → j ≡ s.k → node_at m' j ≡ s.c.node → NodeAfter m t m' j
  node_changed j j_is n_is =
      let at = touched m code t a w e s in
      ⊎_elim
      (λ q. accessed (at ∙ ap (λ (n : ℕ). n + 1) (sym j_is))
      (n_is ∙
      (q ∙
      sym (ap (λ (x : Node). kept_but (access_at m t) x (node_at m j)) n_is ∙
      ap (λ (n : ℕ). kept_but (access_at m t) s.c.node (node_at m n)) j_is))))
      (λ q. filled (omega (arith, at, ap (λ (x : NodeNumber). x.0) (fills_own t (place_of m t) q.0)))
      q.0
      q.1.0
      (n_is ∙ q.1.1))
      (obeyed m code t a w e s).node

  one_node : (j : ℕ) → NodeAfter m t m' j
  one_node j =
      ⊎_elim
      (λ h. node_changed j h.0 (next_node m code t a w e s j ∙ h.1))
      (λ h. same (next_node m code t a w e s j ∙ h))
      (get_set m.nodes s.k j s.c.node blank_node)

  -- ── tokens ──

  laid_token : (u : ℕ) → TokenAfter m t w stored u
  laid_token u =
      ⊎_elim
      (λ h. ⊎_elim
      (taken h.0)
      (λ q. kept
      (ap (λ (x : Thread). x.token) h.1 ∙ (q ∙ ap (λ (n : ℕ). (thread_at m n).token) (sym h.0))))
      (unless_case (takes_token (access_at m t).kind) (obeyed m code t a w e s).token))
      (λ h. kept (ap (λ (x : Thread). x.token) h))
      (get_set m.threads t.0 u s.c.thread blank_thread)

  moved : (u : ℕ) → TokenAfter m t w stored u → (thread_at m' u).token ≡ (thread_at stored u).token
      → TokenAfter m t w m' u
  moved u (kept q) h = kept (h ∙ q)
  moved u (taken i q) h = taken i q
  moved u (token_set_lem o q) h = token_set_lem o (h ∙ q)

  one_token : (u : ℕ) → Woken stored w u → TokenAfter m t w m' u
  one_token u (as_before h) = moved u (laid_token u) (ap (λ (x : Thread). x.token) (at_next m code t a w e s u ∙ h))
  one_token u (with_token_lem o h) = token_set_lem o (ap (λ (x : Thread). x.token) (at_next m code t a w e s u ∙ h))

  -- ── the rest of a step ──

  step_at_access : AtAccess m t w m'
  step_at_access =
      record {
        word = unless_map (writes_word (access_at m t).kind)
            (λ h. next_word m code t a w e s ∙ h)
            (obeyed m code t a w e s).word;
        nodes = one_node;
        tokens = λ u. one_token u (woken_thread stored w u);
      }

  -- the other threads keep place and holding
  other_thread : (u : ℕ) → (u ≡ t.0 → ⊥) → thread_at stored u ≡ thread_at m u
  other_thread u h =
      ⊎_elim (λ q. absurd (h q.0)) (λ q. q) (get_set m.threads t.0 u s.c.thread blank_thread)

  other_token : (u : ℕ) → (u ≡ t.0 → ⊥) → (w ≡ Some (thread u) → ⊥)
      → Woken stored w u
      → (thread_at m' u).token ≡ (thread_at m u).token
  other_token u h nw (as_before q) =
      ap (λ (x : Thread). x.token) (at_next m code t a w e s u ∙ (q ∙ other_thread u h))
  other_token u h nw (with_token_lem o q) = absurd (nw o)

  other_node : (j : ℕ) → (j ≡ s.k → ⊥) → node_at m' j ≡ node_at m j
  other_node j h =
      next_node m code t a w e s j ∙
      ⊎_elim (λ q. absurd (h q.0)) (λ q. q) (get_set m.nodes s.k j s.c.node blank_node)

  step_little : Little m t w m'
  step_little =
      record {
        count = ap (λ (x : Machine). x.count) (landed m code t a w e s) ∙ woken_count stored w;
        node = s.k;
        nodes = other_node;
        places = λ u h.
            ap (λ (x : Thread). x.place) (at_next m code t a w e s u) ∙
            (woken_place stored w u ∙ ap (λ (x : Thread). x.place) (other_thread u h));
        holdings = λ u h.
            ap (λ (x : Thread). x.holding) (at_next m code t a w e s u) ∙
            (woken_holding stored w u ∙ ap (λ (x : Thread). x.holding) (other_thread u h));
        tokens = λ u h nw. other_token u h nw (woken_thread stored w u);
      }

  step_sized : Sized m → Sized m'
  step_sized z =
      record {
        nodes = ap length (ap (λ (x : Machine). x.nodes) (landed m code t a w e s) ∙ woken_nodes stored w) ∙
            (length-set m.nodes s.k s.c.node ∙ z.nodes);
        threads = ap (λ (x : Machine). length x.threads) (landed m code t a w e s) ∙
            (woken_long stored w ∙ (length-set m.threads t.0 s.c.thread ∙ z.threads));
      }

  -- a weak compare that was made to fail
  module _ (weak : (access_at m t).kind ≡ WeakCompare) (fails : s.fails ≡ true) where
    failed_word : m'.word ≡ m.word
    failed_word =
        next_word m code t a w e s ∙ unless_weak (access_at m t).kind weak (obeyed m code t a w e s).failed fails

    failed_node : (j : ℕ)
        → NodeAfter m t m' j
        → (node_at m' j ≡ node_at m j) ⊎ ((j ≡ t.0) × (fills (place_of m t) ≡ true))
    failed_node j (same h) = inl h
    failed_node j (accessed i h) =
        inl (h ∙ weak_keeps (access_at m t).kind (access_at m t).location (node_at m' j) (node_at m j) weak)
    failed_node j (filled i f x h) = inr (i, f)

-- ── a begin ──

module _ (m : Machine) (code : ℕ) (t : ThreadNumber) (b : Begun m code t (event_of m code t)) where
  begun_shares_nothing : NothingShared m (event_of m code t).machine
  begun_shares_nothing =
      record {
        word = ap (λ (x : Machine). x.word) (begun_is m code t b);
        nodes = ap (λ (x : Machine). x.nodes) (begun_is m code t b);
        tokens = λ u. ap (λ (x : Machine). (thread_at x u).token) (begun_is m code t b) ∙ begun_token m code t b u;
      }

  begun_little : (w : Option ThreadNumber) → Little m t w (event_of m code t).machine
  begun_little w =
      record {
        count = ap (λ (x : Machine). x.count) (begun_is m code t b);
        node = 0;
        nodes = λ j _. ap (λ (x : Machine). node_at x j) (begun_is m code t b);
        places = λ u h.
            ap (λ (x : Machine). (thread_at x u).place) (begun_is m code t b) ∙
            ⊎_elim (λ q. absurd (h q.0)) (λ q. ap (λ (x : Thread). x.place) q) (begun_thread m code t b u);
        holdings = λ u _.
            ap (λ (x : Machine). (thread_at x u).holding) (begun_is m code t b) ∙ begun_holding m code t b u;
        tokens = λ u _ _. ap (λ (x : Machine). (thread_at x u).token) (begun_is m code t b) ∙ begun_token m code t b u;
      }

  begun_sized : Sized m → Sized (event_of m code t).machine
  begun_sized z =
      record {
        nodes = ap (λ (x : Machine). length x.nodes) (begun_is m code t b) ∙ z.nodes;
        threads = ap (λ (x : Machine). length x.threads) (begun_is m code t b) ∙
            (length-set m.threads t.0 (placed_of (thread_at m t.0) (first_place b.call)) ∙ z.threads);
      }

-- ── the theorems ──

pub one_access : OneAccess event_of
one_access m code t a w is_step e = step_at_access m code t a w e (step_made m code t a w is_step e)

pub begin_shares_nothing : BeginSharesNothing event_of
begin_shares_nothing m code t a w b e = by (happened m code t a w e)
  where
    by : Happened m code t (event_of m code t) → NothingShared m (event_of m code t).machine
    by (begun x) = begun_shares_nothing m code t x
    by (stepped s) = step_not_begin m code t b s

pub failure_writes_nothing : FailureWritesNothing event_of
failure_writes_nothing m t a w weak e =
    let s = step_made m 17 t a w refl e in
    let fails : s.fails ≡ true = fails_17 17 s.fails s.codes in
    (failed_word m 17 t a w e s weak fails, λ j. failed_node m 17 t a w e s weak fails j (one_node m 17 t a w e s j))

pub changes_little : ChangesLittle event_of
changes_little m code t a w e = by (happened m code t a w e)
  where
    by : Happened m code t (event_of m code t) → Little m t w (event_of m code t).machine
    by (begun b) = begun_little m code t b w
    by (stepped s) = step_little m code t a w e s

pub stays_sized : StaysSized event_of
stays_sized m code t z = by (event_of m code t).reply refl
  where
    accepted : (a : Answer) (w : Option ThreadNumber) → (event_of m code t).reply ≡ accepted_with a w
        → Happened m code t (event_of m code t)
        → Sized (event_of m code t).machine
    accepted a w e (begun b) = begun_sized m code t b z
    accepted a w e (stepped s) = step_sized m code t a w e s z

    by : (r : Reply) → (event_of m code t).reply ≡ r → Sized (event_of m code t).machine
    by (Ok told) e = accepted told.answer told.woken e (happened m code t told.answer told.woken e)
    by (Err r) e = subst Sized (sym (refused_unchanged m code t r e)) z
