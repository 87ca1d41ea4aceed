-- The value at an access, read in a machine and in what a step sees and changes of it. In order: bits; the value in a
-- view or a change; a token accessed is one's own; the value before; what is stored, and the value after.
-- Not here: the value at a location of a machine, as the statements read it (Tables.antt).
-- Assumes nothing.
use Rattle.std.specs.Prelude.{ℕ, ◌+◌, ◌<◌, Bool, true, false, ◌≡◌, refl, get_or, Option, None}
use Rattle.std.proofs.Common.{ap, ◌∙◌, arith, get_or-set_same}
use Rattle.word.specs.declared.flags.Word.{Word}
use Rattle.word.specs.declared.number.ThreadNumber.{ThreadNumber}
use Rattle.state.specs.Access.{access_of, touched_at}
use Rattle.state.specs.Machine.{Sized, thread_limit, thread_at, node_at, blank_thread}
use Rattle.state.specs.Node.{blank_node}
use Rattle.state.specs.declared.access.Access.{Access}
use Rattle.state.specs.declared.access.Location.{Location}
use Rattle.state.specs.declared.access.Location.TheVariants.{Nowhere, Word as TheWord, Next, Prev, Tail, Completed}
use Rattle.state.specs.declared.access.Location.TheVariants.{Token}
use Rattle.state.specs.declared.machine.Machine.{Machine}
use Rattle.state.specs.declared.machine.Thread.{Thread}
use Rattle.state.specs.declared.node.Node.{Node}
use Rattle.state.specs.declared.place.Place.{Place}
use Rattle.state.specs.declared.place.Place.TheVariants as At
use Rattle.state.specs.declared.view.Change.{Change}
use Rattle.lock.specs.Landed.{woken_of, stored_of}
use Rattle.lock.specs.Step.{parking_of, halted_of}
use Rattle.lock.specs.Stored.{woken_word, woken_nodes, woken_place, woken_holding}
use Rattle.promises.specs.Places.{never}
use Rattle.promises.specs.Program.{place_of}
use Rattle.promises.specs.Tables.{bit, value_at, in_word}

pub bit_same : (x y : Bool) → bit x ≡ bit y → x ≡ y
bit_same true true e = refl
bit_same true false e = absurd (omega (arith, e))
bit_same false true e = absurd (omega (arith, e))
bit_same false false e = refl

-- ── in a view or a change ──

-- the value at a location, by the word, the node touched and the own token
abbrev pub value_in : Location → Word → Node → Bool → ℕ
value_in Nowhere w n token = 0
value_in TheWord w n token = w.0
value_in (Next k) w n token = n.next.0
value_in (Prev k) w n token = n.prev.0
value_in (Tail k) w n token = n.tail.0
value_in (Completed k) w n token = bit n.completed
value_in (Token u) w n token = bit token

-- a claim where the access lies in the word
abbrev pub InWord : Location → Type 0 → Type 0
InWord Nowhere X = Unit {0}
InWord TheWord X = X
InWord (Next k) X = Unit {0}
InWord (Prev k) X = Unit {0}
InWord (Tail k) X = Unit {0}
InWord (Completed k) X = Unit {0}
InWord (Token u) X = Unit {0}

pub in_word_lem : (l : Location) (X : Type 0) → in_word l ≡ true → InWord l X → X
in_word_lem Nowhere X e x = never e
in_word_lem TheWord X e x = x
in_word_lem (Next k) X e x = never e
in_word_lem (Prev k) X e x = never e
in_word_lem (Tail k) X e x = never e
in_word_lem (Completed k) X e x = never e
in_word_lem (Token u) X e x = never e

-- there the node touched is the own one
pub own_touched : (l : Location) (t : ThreadNumber) → in_word l ≡ true → (touched_at l t).0 ≡ t.0 + 1
own_touched Nowhere t e = refl
own_touched TheWord t e = refl
own_touched (Next k) t e = never e
own_touched (Prev k) t e = never e
own_touched (Tail k) t e = never e
own_touched (Completed k) t e = never e
own_touched (Token u) t e = refl

-- ── a token accessed is one's own ──

-- a claim where the access lies in a thread's token
abbrev pub AtToken : Location → (ThreadNumber → Type 0) → Type 0
AtToken Nowhere X = Unit {0}
AtToken TheWord X = Unit {0}
AtToken (Next k) X = Unit {0}
AtToken (Prev k) X = Unit {0}
AtToken (Tail k) X = Unit {0}
AtToken (Completed k) X = Unit {0}
AtToken (Token u) X = X u

-- nobody is woken by it
abbrev pub Quiet : Location → Option ThreadNumber → Type 0
Quiet l w = AtToken l (λ u. w ≡ None)

-- it is the own one
abbrev pub TokenOwn : Location → ThreadNumber → Type 0
TokenOwn l t = AtToken l (λ u. u ≡ t)

-- two tokens are the same
abbrev pub SameToken : Location → Bool → Bool → Type 0
SameToken l x y = AtToken l (λ u. bit x ≡ bit y)

-- a place accesses no token but the own one, and is halted by none that it does not access
pub record OwnToken (t : ThreadNumber) (a : Access) : Type 0 where
  pub own : TokenOwn a.location t
  pub halts : (x y fails : Bool) → SameToken a.location x y → halted_of a.kind x fails ≡ halted_of a.kind y fails

pub own_token : (t : ThreadNumber) (p : Place) → OwnToken t (access_of t p)
unfolding access_of
own_token t At.Idle = record { own = tt; halts = λ x y f e. refl }
own_token t (At.TryReadLoad _) = record { own = tt; halts = λ x y f e. refl }
own_token t (At.TryReadCas _ _) = record { own = tt; halts = λ x y f e. refl }
own_token t (At.TryWriteOr _) = record { own = tt; halts = λ x y f e. refl }
own_token t (At.ContendLoad _ _) = record { own = tt; halts = λ x y f e. refl }
own_token t (At.ContendCas _ _ _) = record { own = tt; halts = λ x y f e. refl }
own_token t (At.RegisterCas _ _ _) = record { own = tt; halts = λ x y f e. refl }
own_token t (At.CompletedLoad _) = record { own = tt; halts = λ x y f e. refl }
own_token t (At.Park _) = record { own = refl; halts = λ x y f e. ap (λ z. parking_of z f) (bit_same x y e) }
own_token t (At.WalkTail _ _ _) = record { own = tt; halts = λ x y f e. refl }
own_token t (At.WalkNext _ _ _) = record { own = tt; halts = λ x y f e. refl }
own_token t (At.WalkPrev _ _ _ _) = record { own = tt; halts = λ x y f e. refl }
own_token t (At.WalkHead _ _ _) = record { own = tt; halts = λ x y f e. refl }
own_token t (At.QueueCas _ _) = record { own = tt; halts = λ x y f e. refl }
own_token t (At.SplitPrev _ _ _) = record { own = tt; halts = λ x y f e. refl }
own_token t (At.SplitStore _ _ _ _) = record { own = tt; halts = λ x y f e. refl }
own_token t (At.SplitCas _ _ _) = record { own = tt; halts = λ x y f e. refl }
own_token t (At.SplitRestore _ _ _ _) = record { own = tt; halts = λ x y f e. refl }
own_token t (At.TakeCas _ _ _) = record { own = tt; halts = λ x y f e. refl }
own_token t (At.WakePrev _ _) = record { own = tt; halts = λ x y f e. refl }
own_token t (At.WakeStore _ _ _) = record { own = tt; halts = λ x y f e. refl }
own_token t At.ReadUnlockLoad = record { own = tt; halts = λ x y f e. refl }
own_token t (At.ReadUnlockCas _) = record { own = tt; halts = λ x y f e. refl }
own_token t (At.Subtract _ _) = record { own = tt; halts = λ x y f e. refl }
own_token t At.WriteUnlockCas = record { own = tt; halts = λ x y f e. refl }
own_token t (At.ReleaseCas _) = record { own = tt; halts = λ x y f e. refl }
own_token t At.DowngradeCas = record { own = tt; halts = λ x y f e. refl }
own_token t (At.DowngradeSlowCas _) = record { own = tt; halts = λ x y f e. refl }

module _ (m : Machine) (t : ThreadNumber) where
  -- ── before ──

  -- the value at an access that touches node k + 1 is the one that the view has
  pub value_in_lem : (l : Location) (k : ℕ)
      → (touched_at l t).0 ≡ k + 1
      → TokenOwn l t
      → value_at m l ≡ value_in l m.word (node_at m k) (thread_at m t.0).token
  value_in_lem Nowhere k e o = refl
  value_in_lem TheWord k e o = refl
  value_in_lem (Next n) k e o = ap (λ j. (node_at m j).next.0) (omega (arith, e))
  value_in_lem (Prev n) k e o = ap (λ j. (node_at m j).prev.0) (omega (arith, e))
  value_in_lem (Tail n) k e o = ap (λ j. (node_at m j).tail.0) (omega (arith, e))
  value_in_lem (Completed n) k e o = ap (λ j. bit (node_at m j).completed) (omega (arith, e))
  value_in_lem (Token u) k e o = ap (λ (j : ThreadNumber). bit (thread_at m j.0).token) o

  -- ── after a change was stored, at node k + 1 ──

  abbrev pub storing : ℕ → Change → Machine
  storing k c = woken_of (stored_of m t.0 k c) c.woken

  module _ (z : Sized m) (k : ℕ) (low : k < thread_limit) (own_low : t.0 < thread_limit) (c : Change) where
    pub stored_node : node_at (storing k c) k ≡ c.node
    stored_node =
        ap (λ ns. get_or ns k blank_node) (woken_nodes (stored_of m t.0 k c) c.woken) ∙
        get_or-set_same m.nodes k c.node blank_node (omega (arith, low, z.nodes))

    stored_thread : thread_at (stored_of m t.0 k c) t.0 ≡ c.thread
    stored_thread = get_or-set_same m.threads t.0 c.thread blank_thread (omega (arith, own_low, z.threads))

    pub stored_place : place_of (storing k c) t ≡ c.thread.place
    stored_place =
        woken_place (stored_of m t.0 k c) c.woken t.0 ∙ ap (λ (x : Thread). x.place) stored_thread

    pub stored_holding : (thread_at (storing k c) t.0).holding ≡ c.thread.holding
    stored_holding =
        woken_holding (stored_of m t.0 k c) c.woken t.0 ∙ ap (λ (x : Thread). x.holding) stored_thread

    pub stored_value : (l : Location)
        → (touched_at l t).0 ≡ k + 1
        → TokenOwn l t
        → Quiet l c.woken
        → value_at (storing k c) l ≡ value_in l c.word c.node c.thread.token
    stored_value Nowhere e o q = refl
    stored_value TheWord e o q = ap (λ (x : Word). x.0) (woken_word (stored_of m t.0 k c) c.woken)
    stored_value (Next n) e o q =
        ap (λ j. (node_at (storing k c) j).next.0) (omega (arith, e)) ∙ ap (λ (x : Node). x.next.0) stored_node
    stored_value (Prev n) e o q =
        ap (λ j. (node_at (storing k c) j).prev.0) (omega (arith, e)) ∙ ap (λ (x : Node). x.prev.0) stored_node
    stored_value (Tail n) e o q =
        ap (λ j. (node_at (storing k c) j).tail.0) (omega (arith, e)) ∙ ap (λ (x : Node). x.tail.0) stored_node
    stored_value (Completed n) e o q =
        ap (λ j. bit (node_at (storing k c) j).completed) (omega (arith, e)) ∙
        ap (λ (x : Node). bit x.completed) stored_node
    stored_value (Token u) e o q =
        ap (λ (j : ThreadNumber). bit (thread_at (storing k c) j.0).token) o ∙
        (ap (λ (x : Option ThreadNumber). bit (thread_at (woken_of (stored_of m t.0 k c) x) t.0).token) q ∙
        ap (λ (x : Thread). bit x.token) stored_thread)
