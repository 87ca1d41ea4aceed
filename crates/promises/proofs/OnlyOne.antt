-- Proof of only_one: two programs that satisfy the statements are equal on every machine whose arrays have their
-- length. Each part of the outcome is read off a statement that both satisfy. In order: word, place and holding; a
-- begin; a step's reply, its nodes, its tokens; any event.
-- Not here: the statements (Statements.antt); that `event_of` satisfies them (Theorems.antt); equality by parts
-- (Parts.antt).
-- Assumes nothing.
use Rattle.std.specs.Prelude.{ℕ, ◌+◌, Bool, true, false, not, ◌≢◌, ◌⊎◌, ◌≡◌, refl, eqb, get_or, Err, Ok, Option, Some}
use Rattle.std.proofs.Common.{inl, inr, sym, ap, subst, ◌∙◌, arith}
use Rattle.word.specs.Number.{thread}
use Rattle.word.specs.declared.flags.Word.{Word}
use Rattle.word.specs.declared.number.NodeNumber.{NodeNumber}
use Rattle.word.specs.declared.number.ThreadNumber.{ThreadNumber}
use Rattle.state.specs.Answer.{Reply, accepted_with}
use Rattle.state.specs.Access.{access, touched_at, touched_of}
use Rattle.state.specs.Machine.{Sized, thread_at, node_at}
use Rattle.state.specs.Node.{blank_node}
use Rattle.state.specs.declared.access.Kind.TheVariants.{Complete}
use Rattle.state.specs.declared.access.Location.{Location}
use Rattle.state.specs.declared.access.Location.TheVariants.{Word as TheWord, Completed, Token}
use Rattle.state.specs.declared.answer.Answer.{Answer}
use Rattle.state.specs.declared.machine.Machine.{Machine}
use Rattle.state.specs.declared.place.Place.{Place}
use Rattle.lock.specs.Begin.{is_idle}
use Rattle.lock.specs.Effect.{effect_of, lock_effect, stand_of, held_after, grants}
use Rattle.promises.specs.Goes.{node_for}
use Rattle.promises.proofs.Obeys.{kept_same}
use Rattle.promises.specs.Parts.{same?, owner_is, nobody_not, is_thread, answer_is, thread_is, machine_is}
use Rattle.promises.specs.Parts.{Sort, sorts, kept_is}
use Rattle.promises.specs.Places.{never}
use Rattle.promises.specs.Program.{Program, place_of, access_at}
use Rattle.promises.specs.RefusalFirst.{NoneGiven, past, none_exactly}
use Rattle.promises.proofs.RefusalProofs.{reply_number}
use Rattle.promises.specs.Refusals.{and, or, begins, steps, number_given, refusal_rows}
use Rattle.promises.specs.Shared.{Unless, writes_word, takes_token, kept_but, fills, tries}
use Rattle.promises.specs.Statements.{Ended, Began, Owned, NodeAfter, same, accessed, filled}
use Rattle.promises.specs.Statements.{TokenAfter, kept, taken, set as token_set_lem, Right, OnlyOne}
use Rattle.promises.specs.Tables.{value_at, in_word}
use Rattle.promises.specs.Values.{bit_same}

unless_false : {X : Type 0} (b : Bool) → b ≡ false → Unless b X → X
unless_false true e x = never (sym e)
unless_false false e x = x

not_false : (b : Bool) → not b ≡ false → b ≡ true
not_false true e = refl
not_false false e = never (sym e)

-- the node that a step completes, or none
abbrev Completes : Machine → ThreadNumber → Type 0
Completes m t = ((n : NodeNumber) × (access_at m t ≡ access Complete (Completed n))) ⊎ ((access_at m t).kind ≢ Complete)

-- an access lies in the word; or it writes none, and fills no node
abbrev AtWord : Machine → ThreadNumber → Type 0
AtWord m t =
    ((access_at m t).location ≡ TheWord)
    ⊎ ((writes_word (access_at m t).kind ≡ false) × (fills (place_of m t) ≡ false))

module _ (p q : Program) (rp : Right p) (rq : Right q) (m : Machine) (code : ℕ) (t : ThreadNumber) (z : Sized m) where
  abbrev mp : Machine
  mp = (p m code t).machine

  abbrev mq : Machine
  mq = (q m code t).machine

  -- ── word, place and holding ──

  module _ (word_same : mp.word ≡ mq.word) (place_same : place_of mp t ≡ place_of mq t) where
    effect_same : (effect_of t m mp).lock ≡ (effect_of t m mq).lock
    effect_same =
        let h = (thread_at m t.0).holding in
        let w = m.word.0 in
        ap (λ (x : Word). lock_effect (place_of m t) h (not (eqb x.0 w)) (stand_of (place_of mp t))) word_same ∙
        ap (λ (x : Place). lock_effect (place_of m t) h (not (eqb mq.word.0 w)) (stand_of x)) place_same

    holding_same : (thread_at mp t.0).holding ≡ (thread_at mq t.0).holding
    holding_same =
        rp.holding m code t z ∙
        (ap (λ x. held_after x (thread_at m t.0).holding) effect_same ∙ sym (rq.holding m code t z))

  -- both accept: what is the same of an accepted event
  module _ (a a' : Answer) (w w' : Option ThreadNumber)
      (e : (p m code t).reply ≡ accepted_with a w) (f : (q m code t).reply ≡ accepted_with a' w') where
    -- the outcome, by the answer, the thread woken, the word, the place, the tokens and the nodes
    outcome_same : a ≡ a'
        → w ≡ w'
        → mp.word ≡ mq.word
        → place_of mp t ≡ place_of mq t
        → ((u : ℕ) → (thread_at mp u).token ≡ (thread_at mq u).token)
        → ((j : ℕ) → node_at mp j ≡ node_at mq j)
        → p m code t ≡ q m code t
    outcome_same answers wakes word_same place_same tokens nodes =
        λ i. record { machine = machines i; reply = replies i }
      where
        replies : (p m code t).reply ≡ (q m code t).reply
        replies = e ∙ (ap (λ x. accepted_with x w) answers ∙ (ap (λ x. accepted_with a' x) wakes ∙ sym f))

        threads : (u : ℕ) → (u ≡ t.0) ⊎ (u ≢ t.0) → thread_at mp u ≡ thread_at mq u
        threads u (inl i) =
            subst (λ j. thread_at mp j ≡ thread_at mq j) (sym i)
            (thread_is (thread_at mp t.0) (thread_at mq t.0) place_same
            (tokens t.0)
            (holding_same word_same place_same))
        threads u (inr ne) =
            thread_is (thread_at mp u) (thread_at mq u)
            ((rp.little m code t a w e).places u ne ∙ sym ((rq.little m code t a' w' f).places u ne))
            (tokens u)
            ((rp.little m code t a w e).holdings u ne ∙ sym ((rq.little m code t a' w' f).holdings u ne))

        machines : mp ≡ mq
        machines =
            machine_is mp mq (rp.sized m code t z) (rq.sized m code t z)
            ((rp.little m code t a w e).count ∙ sym (rq.little m code t a' w' f).count)
            word_same
            nodes
            (λ u. threads u (same? u t.0))

    -- ── a begin ──

    begin_same : begins code ≡ true → p m code t ≡ q m code t
    begin_same b =
        let bp : Began code t a w mp = rp.calls.begin m code t a w z b e in
        let bq : Began code t a' w' mq = rq.calls.begin m code t a' w' z b f in
        let np = rp.begin m code t a w b e in
        let nq = rq.begin m code t a' w' b f in
        outcome_same
        (bp.answer ∙ sym bq.answer)
        (bp.woken ∙ sym bq.woken)
        (np.word ∙ sym nq.word)
        (bp.place ∙ sym bq.place)
        (λ u. np.tokens u ∙ sym (nq.tokens u))
        (λ j. ap (λ ns. get_or ns j blank_node) (np.nodes ∙ sym nq.nodes))

    -- ── a step ──

    module _ (s : steps code ≡ true) where
      abbrev l : Location
      l = (access_at m t).location

      sort : Sort t (access_at m t) (fills (place_of m t))
      sort = sorts t (place_of m t)

      place_same : place_of mp t ≡ place_of mq t
      place_same = rp.goes m code t a w z s e ∙ sym (rq.goes m code t a' w' z s f)

      value_same : value_at mp (access_at m t).location ≡ value_at mq (access_at m t).location
      value_same = rp.writes m code t a w z s e ∙ sym (rq.writes m code t a' w' z s f)

      word_same : mp.word ≡ mq.word
      word_same = by sort.word
        where
          by : AtWord m t → mp.word ≡ mq.word
          by (inl i) = ap (λ (x : ℕ). record { 0 = x }) (subst (λ y. value_at mp y ≡ value_at mq y) i value_same)
          by (inr k) =
              unless_false (writes_word (access_at m t).kind) k.0 (rp.at_access m code t a w s e).word ∙
              sym (unless_false (writes_word (access_at m t).kind) k.0 (rq.at_access m code t a' w' s f).word)

      answer_same : a ≡ a'
      answer_same =
          answer_is a a'
          (ep.went ∙ (ap (λ x. not (is_idle x)) place_same ∙ sym eq.went))
          (ep.done ∙ (ap (λ x. and (not try) (is_idle x)) place_same ∙ sym eq.done))
          ((rp.answers m code t a w z e).0 ∙
          (ap (λ x. and try (grants x)) (effect_same word_same place_same) ∙ sym (rq.answers m code t a' w' z f).0))
          (ep.no ∙
          (ap (λ x. and try (and (is_idle x) (not (grants (effect_of t m mp).lock)))) place_same ∙
          (ap (λ x. and try (and (is_idle (place_of mq t)) (not (grants x)))) (effect_same word_same place_same) ∙
          sym eq.no)))
        where
          try : Bool
          try = tries (place_of m t)

          ep : Ended m t a mp
          ep = rp.calls.step m code t a w z s e

          eq : Ended m t a' mq
          eq = rq.calls.step m code t a' w' z s f

      woken_same : w ≡ w'
      woken_same = by sort.completes
        where
          by : Completes m t → w ≡ w'
          by (inl x) =
              let op : Owned x.0 w mp = rp.woken.completing m code t a w x.0 z e x.1 in
              let oq : Owned x.0 w' mq = rq.woken.completing m code t a' w' x.0 z f x.1 in
              let owner : op.owner.0 + 1 ≡ oq.owner.0 + 1 =
              ap (λ (y : NodeNumber). y.0) (op.owns ∙ sym oq.owns) in
              op.reported ∙ (ap (λ (y : ℕ). Some (thread y)) (omega (arith, owner)) ∙ sym oq.reported)
          by (inr k) = rp.woken.otherwise m code t a w e k ∙ sym (rq.woken.otherwise m code t a' w' f k)

      -- ── its nodes ──

      module _ (j : ℕ) where
        -- a node of a machine that a step left, where none is filled
        kept_but_lem : fills (place_of m t) ≡ false → (x : Machine) → NodeAfter m t x j
            → node_at x j ≡ kept_but (access_at m t) (node_at x j) (node_at m j)
        kept_but_lem nf x (same h) =
            h ∙
            (kept_same (access_at m t).kind l (node_at m j)
            ∙ ap (λ y. kept_but (access_at m t) y (node_at m j)) (sym h))
        kept_but_lem nf x (accessed i h) = h
        kept_but_lem nf x (filled i k wr h) = never (sym nf ∙ k)

        -- one that is not accessed, either
        untouched : fills (place_of m t) ≡ false
            → (touched_of (access_at m t) t).0 ≢ j + 1
            → (x : Machine)
            → NodeAfter m t x j
            → node_at x j ≡ node_at m j
        untouched nf ne x (same h) = h
        untouched nf ne x (accessed i h) = absurd (ne i)
        untouched nf ne x (filled i k wr h) = never (sym nf ∙ k)

        -- another's, at an access to the word
        others : l ≡ TheWord → j ≢ t.0 → (x : Machine) → NodeAfter m t x j → node_at x j ≡ node_at m j
        others i ne x (same h) = h
        others i ne x (accessed k h) =
            let own : t.0 + 1 ≡ j + 1 = sym (ap (λ o. (touched_at o t).0) i) ∙ k in absurd (ne (omega (arith, own)))
        others i ne x (filled k _ _ h) = absurd (ne k)

        node_same : node_at mp j ≡ node_at mq j
        node_same = by sort.word
          where
            np : NodeAfter m t mp j
            np = (rp.at_access m code t a w s e).nodes j

            nq : NodeAfter m t mq j
            nq = (rq.at_access m code t a' w' s f).nodes j

            at_word : l ≡ TheWord → (j ≡ t.0) ⊎ (j ≢ t.0) → node_at mp j ≡ node_at mq j
            at_word i (inl k) =
                subst (λ u. node_at mp u ≡ node_at mq u) (sym k)
                (rp.fills m code t a w z s e (ap in_word i) ∙
                (ap (λ x. node_for t x (node_at m t.0)) place_same ∙
                sym (rq.fills m code t a' w' z s f (ap in_word i))))
            at_word i (inr ne) = others i ne mp np ∙ sym (others i ne mq nq)

            elsewhere : fills (place_of m t) ≡ false
                → ((touched_of (access_at m t) t).0 ≡ j + 1) ⊎ ((touched_of (access_at m t) t).0 ≢ j + 1)
                → node_at mp j ≡ node_at mq j
            elsewhere nf (inl k) =
                kept_but_lem nf mp np ∙
                (kept_is (access_at m t).kind t l mp mq j (node_at m j) k value_same ∙ sym (kept_but_lem nf mq nq))
            elsewhere nf (inr ne) = untouched nf ne mp np ∙ sym (untouched nf ne mq nq)

            by : AtWord m t → node_at mp j ≡ node_at mq j
            by (inl i) = at_word i (same? j t.0)
            by (inr k) = elsewhere k.1 (same? (touched_of (access_at m t) t).0 (j + 1))

      -- ── its tokens ──

      -- who is woken has its token
      woken_has : (event : Program) → Right event → (b : Answer) (o : Option ThreadNumber)
          → (event m code t).reply ≡ accepted_with b o
          → (u : ℕ)
          → o ≡ Some (thread u)
          → (thread_at (event m code t).machine u).token ≡ true
      woken_has event r b o g u h = by sort.completes
        where
          by : Completes m t → (thread_at (event m code t).machine u).token ≡ true
          by (inl x) =
              let ow : Owned x.0 o (event m code t).machine = r.woken.completing m code t b o x.0 z g x.1 in
              subst (λ j. (thread_at (event m code t).machine j).token ≡ true)
              (owner_is ow.owner u (sym ow.reported ∙ h))
              ow.token
          by (inr k) = nobody_not u (sym (r.woken.otherwise m code t b o g k) ∙ h)

      -- the own token, where park is not the access and nobody wakes it
      own_kept : takes_token (access_at m t).kind ≡ false → (o : Option ThreadNumber) (x : Machine)
          → o ≢ Some (thread t.0)
          → TokenAfter m t o x t.0
          → (thread_at x t.0).token ≡ (thread_at m t.0).token
      own_kept tk o x nw (kept h) = h
      own_kept tk o x nw (taken i k) = never (sym tk ∙ k)
      own_kept tk o x nw (token_set_lem h k) = absurd (nw h)

      token_same : (u : ℕ) → (thread_at mp u).token ≡ (thread_at mq u).token
      token_same u = by (is_thread w u) (same? u t.0)
        where
          own : w ≢ Some (thread t.0)
              → (l ≡ Token t) ⊎ (takes_token (access_at m t).kind ≡ false)
              → (thread_at mp t.0).token ≡ (thread_at mq t.0).token
          own nw (inl i) =
              bit_same (thread_at mp t.0).token (thread_at mq t.0).token
              (subst (λ y. value_at mp y ≡ value_at mq y) i value_same)
          own nw (inr tk) =
              own_kept tk w mp nw ((rp.at_access m code t a w s e).tokens t.0) ∙
              sym (own_kept tk w' mq (λ h. nw (woken_same ∙ h)) ((rq.at_access m code t a' w' s f).tokens t.0))

          by : (w ≡ Some (thread u)) ⊎ (w ≢ Some (thread u))
              → (u ≡ t.0) ⊎ (u ≢ t.0)
              → (thread_at mp u).token ≡ (thread_at mq u).token
          by (inl h) d = woken_has p rp a w e u h ∙ sym (woken_has q rq a' w' f u (sym woken_same ∙ h))
          by (inr nw) (inl i) =
              subst (λ j. (thread_at mp j).token ≡ (thread_at mq j).token) (sym i)
              (own (λ h. nw (h ∙ ap (λ (j : ℕ). Some (thread j)) (sym i))) sort.token)
          by (inr nw) (inr ne) =
              (rp.little m code t a w e).tokens u ne nw ∙
              sym ((rq.little m code t a' w' f).tokens u ne (λ h. nw (woken_same ∙ h)))

      step_same : p m code t ≡ q m code t
      step_same = outcome_same answer_same woken_same word_same place_same token_same node_same

  -- ── any event ──

  -- an accepted event begins or steps
  known : (event : Program) → Right event → (b : Answer) (o : Option ThreadNumber)
      → (event m code t).reply ≡ accepted_with b o
      → or (begins code) (steps code) ≡ true
  known event r b o g = by ((none_exactly (refusal_rows m code t) refl).0 (sym (r.table m code t) ∙ ap number_given g))
    where
      by : NoneGiven (refusal_rows m code t) → or (begins code) (steps code) ≡ true
      by (past count (past unknown rest)) = not_false (or (begins code) (steps code)) unknown

  numbers : number_given (p m code t).reply ≡ number_given (q m code t).reply
  numbers = rp.table m code t ∙ sym (rq.table m code t)

  same_outcome : p m code t ≡ q m code t
  same_outcome = by (p m code t).reply (q m code t).reply refl refl
    where
      accepted : (a a' : Answer) (w w' : Option ThreadNumber)
          → (p m code t).reply ≡ accepted_with a w
          → (q m code t).reply ≡ accepted_with a' w'
          → (b : Bool)
          → begins code ≡ b
          → p m code t ≡ q m code t
      accepted a a' w w' e f true g = begin_same a a' w w' e f g
      accepted a a' w w' e f false g =
          step_same a a' w w' e f (subst (λ x. or x (steps code) ≡ true) g (known p rp a w e))

      by : (r r' : Reply) → (p m code t).reply ≡ r → (q m code t).reply ≡ r' → p m code t ≡ q m code t
      by (Ok told) (Ok told') e f = accepted told.answer told'.answer told.woken told'.woken e f (begins code) refl
      by (Ok told) (Err r) e f =
          let same : (p m code t).reply ≡ Err r = reply_number (p m code t).reply r (numbers ∙ ap number_given f) in
          absurd (cc)
      by (Err r) (Ok told) e f =
          let same : (q m code t).reply ≡ Err r =
          reply_number (q m code t).reply r (sym numbers ∙ ap number_given e) in
          absurd (cc)
      by (Err r) (Err r') e f =
          let machines : mp ≡ mq = rp.unchanged m code t r e ∙ sym (rq.unchanged m code t r' f) in
          let replies : (p m code t).reply ≡ (q m code t).reply =
          e ∙ sym (reply_number (q m code t).reply r (sym numbers ∙ ap number_given e)) in
          λ k. record { machine = machines k; reply = replies k }

pub only_one : OnlyOne
only_one p q rp rq m code t z = same_outcome p q rp rq m code t z
