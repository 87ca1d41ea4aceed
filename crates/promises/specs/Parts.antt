-- What is equal because its parts are: answers, owners, threads, machines, and a node accessed; and what sort of access
-- each place makes. In order: numbers and owners; answers; records and lists; sorts of access; a node accessed. For the
-- proof that only one program satisfies the statements (OnlyOne.antt). Not here: refusals (RefusalProofs.antt).
-- Assumes nothing.
use Rattle.std.specs.Prelude.{ℕ, ◌+◌, Bool, true, false, ◌≢◌, ◌⊎◌, ◌≡◌, refl, eqb, Option, Some, None}
use Rattle.std.proofs.Common.{inl, inr, sym, ap, subst, ◌∙◌, arith, eqb-true, ext_get_or}
use Rattle.std.proofs.lemmas.Bool.{eqb-false}
use Rattle.word.specs.Base.{pick}
use Rattle.word.specs.Number.{thread}
use Rattle.word.specs.declared.number.NodeNumber.{NodeNumber}
use Rattle.word.specs.declared.number.ThreadNumber.{ThreadNumber}
use Rattle.state.specs.Access.{access, access_of, touched_at}
use Rattle.state.specs.Machine.{Sized, thread_at, node_at, blank_thread}
use Rattle.state.specs.Node.{blank_node, with_next, with_prev, with_tail}
use Rattle.state.specs.declared.access.Access.{Access}
use Rattle.state.specs.declared.access.Kind.{Kind}
use Rattle.state.specs.declared.access.Kind.TheVariants as Kinds
use Rattle.state.specs.declared.access.Location.{Location}
use Rattle.state.specs.declared.access.Location.TheVariants.{Nowhere, Word as TheWord, Next, Prev, Tail, Completed}
use Rattle.state.specs.declared.access.Location.TheVariants.{Token}
use Rattle.state.specs.declared.answer.Answer.{Answer}
use Rattle.state.specs.declared.answer.Answer.TheVariants.{Begun, Went, Done, Yes, No}
use Rattle.state.specs.declared.machine.Machine.{Machine}
use Rattle.state.specs.declared.machine.Thread.{Thread}
use Rattle.state.specs.declared.node.Node.{Node}
use Rattle.state.specs.declared.place.Place.{Place}
use Rattle.state.specs.declared.place.Place.TheVariants as At
use Rattle.promises.specs.Places.{never}
use Rattle.promises.specs.Shared.{writes_word, takes_token, kept_by, field_at, fills, is_yes, is_done, is_no, is_went}
use Rattle.promises.specs.Tables.{bit, value_at}
use Rattle.promises.specs.Values.{bit_same}

-- ── numbers and owners ──

pub same? : (i j : ℕ) → (i ≡ j) ⊎ (i ≢ j)
same? i j = by (eqb i j) refl
  where
    by : (b : Bool) → eqb i j ≡ b → (i ≡ j) ⊎ (i ≢ j)
    by true e = inl (eqb-true i j e)
    by false e = inr (eqb-false i j e)

-- the thread of an owner
pub owner_is : (x : ThreadNumber) (u : ℕ) → Some x ≡ Some (thread u) → x.0 ≡ u
owner_is x u e = let i : x ≡ thread u = cc in ap (λ (y : ThreadNumber). y.0) i

pub nobody_not : {A : Type 0} (u : ℕ) → None ≡ Some (thread u) → A
nobody_not u e = cc

pub is_thread : (o : Option ThreadNumber) (u : ℕ) → (o ≡ Some (thread u)) ⊎ (o ≢ Some (thread u))
is_thread None u = inr (nobody_not u)
is_thread (Some x) u = by (same? x.0 u)
  where
    by : (x.0 ≡ u) ⊎ (x.0 ≢ u) → (Some x ≡ Some (thread u)) ⊎ (Some x ≢ Some (thread u))
    by (inl i) = inl (ap (λ (j : ℕ). Some (thread j)) i)
    by (inr ne) = inr (λ e. ne (owner_is x u e))

-- ── answers ──

answer_by : Bool → Bool → Bool → Bool → Answer
answer_by went done yes_it no_it = pick went Went (pick done Done (pick yes_it Yes (pick no_it No Begun)))

answer_by_lem : (a : Answer) → answer_by (is_went a) (is_done a) (is_yes a) (is_no a) ≡ a
unfolding answer_by
answer_by_lem Begun = refl
answer_by_lem Went = refl
answer_by_lem Done = refl
answer_by_lem Yes = refl
answer_by_lem No = refl

pub answer_is : (a b : Answer)
    → is_went a ≡ is_went b
    → is_done a ≡ is_done b
    → is_yes a ≡ is_yes b
    → is_no a ≡ is_no b
    → a ≡ b
answer_is a b e f g h = cc (answer_by_lem a, answer_by_lem b)

-- ── records and lists ──

pub thread_is : (x y : Thread) → x.place ≡ y.place → x.token ≡ y.token → x.holding ≡ y.holding → x ≡ y
thread_is x y p k h = λ i. record { place = p i; token = k i; holding = h i }

-- two machines whose arrays have their length, by every node and every thread
pub machine_is : (x y : Machine)
    → Sized x
    → Sized y
    → x.count ≡ y.count
    → x.word ≡ y.word
    → ((j : ℕ) → node_at x j ≡ node_at y j)
    → ((u : ℕ) → thread_at x u ≡ thread_at y u)
    → x ≡ y
machine_is x y sx sy c w n h =
    let nodes : x.nodes ≡ y.nodes =
    ext_get_or blank_node x.nodes y.nodes (sx.nodes ∙ sym sy.nodes) (λ j _. n j) in
    let threads : x.threads ≡ y.threads =
    ext_get_or blank_thread x.threads y.threads (sx.threads ∙ sym sy.threads) (λ u _. h u) in
    λ i. record { count = c i; word = w i; nodes = nodes i; threads = threads i }

-- ── sorts of access ──

-- an access lies in the word, or writes no word and is no place to fill a node; it is park's, or takes no token; it
-- completes a node, or is of another kind
pub record Sort (t : ThreadNumber) (a : Access) (fill : Bool) : Type 0 where
  pub word : (a.location ≡ TheWord) ⊎ ((writes_word a.kind ≡ false) × (fill ≡ false))
  pub token : (a.location ≡ Token t) ⊎ (takes_token a.kind ≡ false)
  pub completes : ((n : NodeNumber) × (a ≡ access Kinds.Complete (Completed n))) ⊎ (a.kind ≢ Kinds.Complete)

is_complete : Kind → Bool
is_complete Kinds.Nothing = false
is_complete Kinds.Load = false
is_complete Kinds.Store = false
is_complete Kinds.WeakCompare = false
is_complete Kinds.StrongCompare = false
is_complete Kinds.FetchOr = false
is_complete Kinds.Subtract = false
is_complete Kinds.Complete = true
is_complete Kinds.Park = false

-- an access of another kind than completing: to the word, to a node
at_word : (t : ThreadNumber) (k : Kind) (fill : Bool)
    → takes_token k ≡ false
    → is_complete k ≡ false
    → Sort t (access k TheWord) fill
unfolding is_complete
at_word t k fill f g =
    record { word = inl refl; token = inr f; completes = inr (λ e. never (sym g ∙ ap is_complete e)) }

elsewhere : (t : ThreadNumber) (k : Kind) (l : Location)
    → writes_word k ≡ false
    → takes_token k ≡ false
    → is_complete k ≡ false
    → Sort t (access k l) false
unfolding is_complete
elsewhere t k l w f g =
    record { word = inr (w, refl); token = inr f; completes = inr (λ e. never (sym g ∙ ap is_complete e)) }

pub sorts : (t : ThreadNumber) (p : Place) → Sort t (access_of t p) (fills p)
unfolding access_of fills is_complete
sorts t At.Idle = elsewhere t _ _ refl refl refl
sorts t (At.TryReadLoad _) = at_word t _ _ refl refl
sorts t (At.TryReadCas _ _) = at_word t _ _ refl refl
sorts t (At.TryWriteOr _) = at_word t _ _ refl refl
sorts t (At.ContendLoad _ _) = at_word t _ _ refl refl
sorts t (At.ContendCas _ _ _) = at_word t _ _ refl refl
sorts t (At.RegisterCas _ _ _) = at_word t _ _ refl refl
sorts t (At.CompletedLoad _) = elsewhere t _ _ refl refl refl
sorts t (At.Park _) =
    record { word = inr (refl, refl); token = inl refl; completes = inr (λ e. never (ap is_complete e)) }
sorts t (At.WalkTail _ _ _) = elsewhere t _ _ refl refl refl
sorts t (At.WalkNext _ _ _) = elsewhere t _ _ refl refl refl
sorts t (At.WalkPrev _ _ _ _) = elsewhere t _ _ refl refl refl
sorts t (At.WalkHead _ _ _) = elsewhere t _ _ refl refl refl
sorts t (At.QueueCas _ _) = at_word t _ _ refl refl
sorts t (At.SplitPrev _ _ _) = elsewhere t _ _ refl refl refl
sorts t (At.SplitStore _ _ _ _) = elsewhere t _ _ refl refl refl
sorts t (At.SplitCas _ _ _) = at_word t _ _ refl refl
sorts t (At.SplitRestore _ _ _ _) = elsewhere t _ _ refl refl refl
sorts t (At.TakeCas _ _ _) = at_word t _ _ refl refl
sorts t (At.WakePrev _ _) = elsewhere t _ _ refl refl refl
sorts t (At.WakeStore _ current _) =
    record { word = inr (refl, refl); token = inr refl; completes = inl (current, refl) }
sorts t At.ReadUnlockLoad = at_word t _ _ refl refl
sorts t (At.ReadUnlockCas _) = at_word t _ _ refl refl
sorts t (At.Subtract _ _) = elsewhere t _ _ refl refl refl
sorts t At.WriteUnlockCas = at_word t _ _ refl refl
sorts t (At.ReleaseCas _) = at_word t _ _ refl refl
sorts t At.DowngradeCas = at_word t _ _ refl refl
sorts t (At.DowngradeSlowCas _) = at_word t _ _ refl refl

-- ── a node accessed ──

-- the field of a node at a location, as a number
abbrev field_value : Location → Node → ℕ
field_value Nowhere n = 0
field_value TheWord n = 0
field_value (Next k) n = n.next.0
field_value (Prev k) n = n.prev.0
field_value (Tail k) n = n.tail.0
field_value (Completed k) n = bit n.completed
field_value (Token u) n = 0

field_is : (l : Location) (a b before : Node)
    → field_value l a ≡ field_value l b
    → field_at l a before ≡ field_at l b before
field_is Nowhere a b before e = refl
field_is TheWord a b before e = refl
field_is (Next k) a b before e = ap (λ (x : ℕ). with_next before (record { 0 = x })) e
field_is (Prev k) a b before e = ap (λ (x : ℕ). with_prev before (record { 0 = x })) e
field_is (Tail k) a b before e = ap (λ (x : ℕ). with_tail before (record { 0 = x })) e
field_is (Completed k) a b before e = rw (bit_same a.completed b.completed e)
field_is (Token u) a b before e = refl

-- the value at the access is the field of the node touched
field_at_lem : (t : ThreadNumber) (l : Location) (x y : Machine) (j : ℕ)
    → (touched_at l t).0 ≡ j + 1
    → value_at x l ≡ value_at y l
    → field_value l (node_at x j) ≡ field_value l (node_at y j)
field_at_lem t Nowhere x y j e v = refl
field_at_lem t TheWord x y j e v = refl
field_at_lem t (Next n) x y j e v = subst (λ k. (node_at x k).next.0 ≡ (node_at y k).next.0) (omega (arith, e)) v
field_at_lem t (Prev n) x y j e v = subst (λ k. (node_at x k).prev.0 ≡ (node_at y k).prev.0) (omega (arith, e)) v
field_at_lem t (Tail n) x y j e v = subst (λ k. (node_at x k).tail.0 ≡ (node_at y k).tail.0) (omega (arith, e)) v
field_at_lem t (Completed n) x y j e v =
    subst (λ k. bit (node_at x k).completed ≡ bit (node_at y k).completed) (omega (arith, e)) v
field_at_lem t (Token u) x y j e v = refl

-- two nodes kept but for the field accessed are one, if the value there is
pub kept_is : (k : Kind) (t : ThreadNumber) (l : Location) (x y : Machine) (j : ℕ) (before : Node)
    → (touched_at l t).0 ≡ j + 1
    → value_at x l ≡ value_at y l
    → kept_by k l (node_at x j) before ≡ kept_by k l (node_at y j) before
kept_is k t l x y j before e v = by k
  where
    field : field_at l (node_at x j) before ≡ field_at l (node_at y j) before
    field = field_is l (node_at x j) (node_at y j) before (field_at_lem t l x y j e v)

    by : (k : Kind) → kept_by k l (node_at x j) before ≡ kept_by k l (node_at y j) before
    by Kinds.Nothing = refl
    by Kinds.Load = refl
    by Kinds.Store = field
    by Kinds.WeakCompare = refl
    by Kinds.StrongCompare = refl
    by Kinds.FetchOr = refl
    by Kinds.Subtract = field
    by Kinds.Complete = field
    by Kinds.Park = refl
