-- complete_all: load prev, complete the node and wake its owner, which may be the waker itself. Each place's rule
-- keeps the invariant; a waker passes on that somebody sees to the queue.
-- Assumes nothing.
use Rattle.std.specs.Prelude.{ℕ, zero, suc, ◌-◌, ◌≤◌, ◌<◌, Bool, true, false, not, ◌≢◌, ◌⊎◌, ◌≡◌, refl, ltb, Some, None}
use Rattle.std.proofs.Common.{inl, inr, sym, ap, ◌∙◌, subst, arith, eqb-true, lt-ltb, le-ltb}
use Rattle.std.proofs.Math.Path.{fun_ext}
use Rattle.std.proofs.lemmas.Bool.{eqb-false}
use Rattle.word.specs.Base.{pick}
use Rattle.word.specs.Cases.{pick_both, pick_yes, pick_no}
use Rattle.word.specs.Number.{thread, is_none, owner_of}
use Rattle.word.specs.declared.number.NodeNumber.{NodeNumber}
use Rattle.state.specs.Machine.{thread_limit}
use Rattle.state.specs.Node.{with_completed}
use Rattle.state.specs.View.{after_queue}
use Rattle.state.specs.declared.machine.Thread.{Thread}
use Rattle.state.specs.declared.node.Node.{Node}
use Rattle.state.specs.declared.place.Place.{Place}
use Rattle.state.specs.declared.place.Place.TheVariants.{Idle, CompletedLoad, WakePrev, WakeStore}
use Rattle.state.specs.declared.place.Who.{Who}
use Rattle.state.specs.declared.place.Who.TheVariants.{Waiter, Leaver}
use Rattle.walk.specs.CompleteAll.{wake_prev_of, wake_store_of}
use Rattle.lock.specs.Landed.{tokened_of}
use Rattle.queue.specs.Tests.{never}
use Rattle.queue.specs.Updates.{upd, upd_same, upd_other, upd_cases, map_keep, eq?}
use Rattle.queue.specs.Tickets.{Ghost, completed, rest_span, taken_by}
use Rattle.queue.specs.Roles.{none, wake, store, filled, StoreAt}
use Rattle.queue.specs.Reads.{EachNode, NodeWaits, named_wait}
use Rattle.queue.specs.Invariant as Q
use Rattle.queue.proofs.Taking
use Rattle.invariant.specs.Table.{waiter, waking, about, Lock, about_at, links_of, wait_of, role_of, Allowed}
use Rattle.invariant.specs.Table.{same_role}
use Rattle.invariant.specs.Invariant.{Responsible, contends, called, wakes, Newest, queue_of, Inv}
use Rattle.invariant.proofs.Exclusion.{inside}
use Rattle.invariant.specs.Frames.{moved, waits_as, glide, viewed}
use Rattle.invariant.specs.Moves.{Completes, Went, completes_more, completes_waits, completes_ends}
use Rattle.invariant.specs.Kept.{woken_in, Kept, placed, Goes, Setting, mine, kept_stood}
use Rattle.invariant.proofs.OnQueue.{alike_wake, unlinked, goes_on_queue}
use Rattle.invariant.specs.Tokens.{tokened, inv_tokens}
use Rattle.invariant.specs.TableFacts.{OwnsNothing, owns_nothing_waiting, owns_nothing_idle, owns_nothing_waking}

links_completed : (nd : ℕ → Node) (k : ℕ) → links_of (upd nd k (with_completed (nd k))) ≡ links_of nd
links_completed nd k = λ i. record {
  nx = map_keep (λ y. y.next.0) nd k (with_completed (nd k)) refl i;
  pv = map_keep (λ y. y.prev.0) nd k (with_completed (nd k)) refl i;
  tl = map_keep (λ y. y.tail.0) nd k (with_completed (nd k)) refl i;
}

-- ── a node that waits is a registered thread's ──

pub record WaiterOf (s : Lock) (k : ℕ) : Type 0 where
  pub thread : ℕ
  pub node : suc thread ≡ k
  pub registered : (about_at s thread).registered ≡ true
  pub open_node : (s.nd k).completed ≡ false

pub waiter_of_lem : (s : Lock) (k : ℕ) → wait_of s.th s.nd k ≡ true → WaiterOf s k
waiter_of_lem s zero e = never refl e
waiter_of_lem s (suc u) e = by (about_at s u).registered (s.nd (suc u)).completed refl refl e
  where
    by : (r c : Bool) → (about_at s u).registered ≡ r → (s.nd (suc u)).completed ≡ c → pick r (not c) false ≡ true
        → WaiterOf s (suc u)
    by true false a b z = record { thread = u; node = refl; registered = a; open_node = b }
    by true true a b z = never refl z
    by false c a b z = never refl z

module _ {n : ℕ} {s : Lock} {g : Ghost} (i : Inv n s g) (t : ℕ) (tin : t < n) (who : Who)
    (current prev : NodeNumber) (here : (s.th t).place ≡ WakeStore who current prev) where
  is : about_at s t ≡ waking who (store current.0 prev.0)
  is = ap about here

  -- the node that t completes waits
  pub wakes_whom : WaiterOf s current.0
  wakes_whom =
      waiter_of_lem s current.0
      (subst (λ a. EachNode (NodeWaits i.queue t) a.role) is (named_wait i.queue t)).0

  -- ── completing, where the node's owner has its token ──

  module _ (token : (u : ℕ) → suc u ≡ current.0 → (s.th u).token ≡ true) (p : Place)
      (to : OwnsNothing (about p) (s.th t).holding (waiter who)) where
    abbrev nodes : ℕ → Node
    nodes = upd s.nd current.0 (with_completed (s.nd current.0))

    abbrev next : Thread
    next = placed (s.th t) p

    done : (k : ℕ) → k ≡ current.0 → (nodes k).completed ≡ true
    done k e =
        ap (λ j. (nodes j).completed) e
        ∙ ap (λ y. y.completed) (upd_same s.nd current.0 (with_completed (s.nd current.0)))

    same : (k : ℕ) → k ≢ current.0 → (nodes k).completed ≡ (s.nd k).completed
    same k ne = ap (λ y. y.completed) (upd_other s.nd current.0 (with_completed (s.nd current.0)) k ne)

    registered_same : (about p).registered ≡ (about_at s t).registered
    registered_same = to.registered ∙ sym (ap (λ a. a.registered) is)

    waits : wait_of (upd s.th t next) nodes ≡ upd (wait_of s.th s.nd) current.0 false
    waits = waits_as s t next nodes (upd (wait_of s.th s.nd) current.0 false)
        (sym (upd_other (wait_of s.th s.nd) current.0 false 0 (λ z. omega (arith, wakes_whom.node))))
        (rw registered_same (at t (eq? (suc t) current.0)))
        (λ u ne. at u (eq? (suc u) current.0))
      where
        off : (r : Bool) → pick r false false ≡ false
        off true = refl
        off false = refl

        at : (u : ℕ) → (suc u ≡ current.0) ⊎ (suc u ≢ current.0)
            → pick (about_at s u).registered (not (nodes (suc u)).completed) false
            ≡ upd (wait_of s.th s.nd) current.0 false (suc u)
        at u (inl e) =
            rw (done (suc u) e)
            (off (about_at s u).registered
            ∙ sym (ap (upd (wait_of s.th s.nd) current.0 false) e
            ∙ upd_same (wait_of s.th s.nd) current.0 false))
        at u (inr ne) = rw (same (suc u) ne) (sym (upd_other (wait_of s.th s.nd) current.0 false (suc u) ne))

    pub complete : Q.Inv (completed g t)
        (Q.moved (queue_of s) t (links_of s.nd) (upd (wait_of s.th s.nd) current.0 false) (about p).role)
        → Inv n (moved s t s.word next nodes) (completed g t)
    complete q = glide i (completed g t) t next nodes (record {
      queue =
          viewed s t next nodes s.word (links_of s.nd) (upd (wait_of s.th s.nd) current.0 false)
          (links_completed s.nd current.0) waits q;
      newest =
          λ e. let y : Newest g s.word = i.newest e in
          record { ticket = y.ticket; last = y.last; some = y.some; node = y.node };
      nobody = i.nobody;
      inside = tin;
      holding = refl;
      owner = rw (is, to.owner);
      leaving = rw (is, to.leaves);
      may = to.may;
      needs = never to.needs_queue;
      plain = never to.reader;
      counted = λ r. ap (λ y. y.0) (nexts (g.log g.lo)) ∙ i.counted r;
      calm = λ r. never to.owner;
      fits = to.ok;
      clear = never to.unfilled;
      clears = λ u ne e. unfilled u e (eq? (suc u) current.0);
      token = never to.asleep;
      tokens = λ u ne e d. tokens u e d (eq? (suc u) current.0);
      seen_to = λ _ u r. sees u (eq? u t) r;
    })
      where
        nexts : (j : ℕ) → (nodes j).next ≡ (s.nd j).next
        nexts =
            upd_cases (λ j y. y.next ≡ (s.nd j).next) s.nd current.0 (with_completed (s.nd current.0))
            refl (λ j ne. refl)

        tokens : (u : ℕ) → (about_at s u).asleep ≡ true → (nodes (suc u)).completed ≡ true
            → (suc u ≡ current.0) ⊎ (suc u ≢ current.0) → (s.th u).token ≡ true
        tokens u e d (inl z) = token u z
        tokens u e d (inr ne) = i.token u e (sym (same (suc u) ne) ∙ d)

        -- a node that is filled and not registered does not wait, so it is not this one
        unfilled : (u : ℕ) → filled (about_at s u).role ≡ true → (suc u ≡ current.0) ⊎ (suc u ≢ current.0)
            → (nodes (suc u)).completed ≡ false
        unfilled u e (inl z) = never (i.queue.free u e) (ap (wait_of s.th s.nd) z ∙ waited)
          where
            waited : wait_of s.th s.nd current.0 ≡ true
            waited =
                rw (← wakes_whom.node, wakes_whom.registered, wakes_whom.node) (ap not wakes_whom.open_node)
        unfilled u e (inr ne) = same (suc u) ne ∙ i.clear u e

        stays_registered : (u : ℕ) → (about_at s u).registered ≡ true
            → (about (upd s.th t next u).place).registered ≡ true
        stays_registered =
            upd_cases (λ u y. (about_at s u).registered ≡ true → (about y.place).registered ≡ true) s.th t next
            (λ e. registered_same ∙ e) (λ u ne e. e)

        stays_completed : (k : ℕ) → (s.nd k).completed ≡ true → (nodes k).completed ≡ true
        stays_completed =
            upd_cases (λ k y. (s.nd k).completed ≡ true → y.completed ≡ true) s.nd current.0
            (with_completed (s.nd current.0)) (λ e. refl) (λ k ne e. e)

        -- the thread that t has called sees to it
        heir : (y : ℕ) × Responsible (moved s t s.word next nodes) (completed g t) y
        heir = (
          wakes_whom.thread,
          called (stays_registered wakes_whom.thread wakes_whom.registered)
              (done (suc wakes_whom.thread) wakes_whom.node),
        )

        sees : (u : ℕ) → (u ≡ t) ⊎ (u ≢ t) → Responsible s g u
            → (y : ℕ) × Responsible (moved s t s.word next nodes) (completed g t) y
        sees u z (called e d) = (u, called (stays_registered u e) (stays_completed (suc u) d))
        sees u (inl z) (contends e) = never (ap (λ v. (about_at s v).contends) z ∙ ap (λ a. a.contends) is) e
        sees u (inr ne) (contends e) = (u, contends (rw (upd_other s.th t next u ne) e))
        sees u (inl z) (wakes l) = heir
        sees u (inr ne) (wakes l) = (u, wakes (rw (upd_other g.taken t (rest_span g t) u ne) l))

-- ── the token is set after the store; it might as well be set before ──

-- a thread below the limit owns the node above it
owner_of_lem : (k : NodeNumber) (u : ℕ) → suc u ≡ k.0 → u < thread_limit → owner_of k ≡ Some (thread u)
owner_of_lem k u e l =
    let less : k.0 - 1 ≡ u = omega arith in
    sym (pick_no (ltb k.0 1) _ None _ (le-ltb k.0 1 (omega arith))
    (pick_no (ltb 256 k.0) _ None _ (le-ltb 256 k.0 (omega arith))
    (ap (λ z. Some (thread z)) (sym less))))

woken_before : (th : ℕ → Thread) (t u : ℕ) (p : Place)
    → upd (upd th u (tokened_of (th u))) t (placed (upd th u (tokened_of (th u)) t) p)
    ≡ upd (upd th t (placed (th t) p)) u (tokened_of (upd th t (placed (th t) p) u))
woken_before th t u p = fun_ext λ j. at j (eq? j t) (eq? j u)
  where
    at : (j : ℕ) → (j ≡ t) ⊎ (j ≢ t) → (j ≡ u) ⊎ (j ≢ u)
        → upd (upd th u (tokened_of (th u))) t (placed (upd th u (tokened_of (th u)) t) p) j
        ≡ upd (upd th t (placed (th t) p)) u (tokened_of (upd th t (placed (th t) p) u)) j
    at j (inl e) (inl f) =
        let same : u ≡ t = sym f ∙ e in
        rw (
          e,
          same,
          upd_same (upd th t (tokened_of (th t))) t (placed (upd th t (tokened_of (th t)) t) p),
          upd_same th t (tokened_of (th t)),
          upd_same (upd th t (placed (th t) p)) t (tokened_of (upd th t (placed (th t) p) t)),
          upd_same th t (placed (th t) p),
        )
    at j (inl e) (inr ne) =
        let other : t ≢ u = λ z. ne (e ∙ z) in
        rw (
          e,
          upd_same (upd th u (tokened_of (th u))) t (placed (upd th u (tokened_of (th u)) t) p),
          upd_other th u (tokened_of (th u)) t other,
          upd_other (upd th t (placed (th t) p)) u (tokened_of (upd th t (placed (th t) p) u)) t other,
          upd_same th t (placed (th t) p),
        )
    at j (inr ne) (inl f) =
        let other : u ≢ t = λ z. ne (f ∙ z) in
        rw (
          f,
          upd_other (upd th u (tokened_of (th u))) t (placed (upd th u (tokened_of (th u)) t) p) u other,
          upd_same th u (tokened_of (th u)),
          upd_same (upd th t (placed (th t) p)) u (tokened_of (upd th t (placed (th t) p) u)),
          upd_other th t (placed (th t) p) u other,
        )
    at j (inr ne) (inr nf) =
        rw (
          upd_other (upd th u (tokened_of (th u))) t (placed (upd th u (tokened_of (th u)) t) p) j ne,
          upd_other th u (tokened_of (th u)) j nf,
          upd_other (upd th t (placed (th t) p)) u (tokened_of (upd th t (placed (th t) p) u)) j nf,
          upd_other th t (placed (th t) p) j ne,
        )

module _ (st : Setting) (few : st.n ≤ thread_limit) (who : Who) (current : NodeNumber) where
  open st use {n, s, g, i, me, tin}

  pub kept_wake_prev : (mine st).place ≡ WakePrev who current → Goes st current.0 (λ v. wake_prev_of v who current)
  kept_wake_prev here =
      let at_wake_lem : about_at s me.0 ≡ waking who (wake current.0) = ap about here in
      kept_stood st current.0 here refl _ _ refl
      (goes_on_queue st (WakeStore who current (s.nd current.0).prev) (rw at_wake_lem (alike_wake who _ _ refl))
      (unlinked s.nd) (λ r. never refl)
      (Taking.load_wake i.queue me.0 (same_role here)))

  module _ (prev : NodeNumber) (here : (mine st).place ≡ WakeStore who current prev) where
    whom : WaiterOf s current.0
    whom = wakes_whom i me.0 tin who current prev here

    within : whom.thread < n
    within = inside i whom.thread (λ a. a.registered) refl whom.registered

    -- the machine with the token set first
    abbrev called_first : Lock
    called_first = moved s whom.thread s.word (tokened_of (s.th whom.thread)) s.nd

    with_token_lem : Inv n called_first g
    with_token_lem = inv_tokens n s g called_first.th i
        (upd_cases (λ j y. y ≡ tokened (s.th j) y.token) s.th whom.thread
        (tokened_of (s.th whom.thread)) refl (λ j ne. refl))
        (upd_cases (λ j y. (about_at s j).asleep ≡ true → (s.nd (suc j)).completed ≡ true → y.token ≡ true)
        s.th whom.thread (tokened_of (s.th whom.thread)) (λ _ _. refl) (λ j ne. i.token j))

    same_place : (called_first.th me.0).place ≡ (mine st).place
    same_place =
        upd_cases (λ j y. y.place ≡ (s.th j).place) s.th whom.thread (tokened_of (s.th whom.thread)) refl
        (λ j ne. refl) me.0

    same_holding : (called_first.th me.0).holding ≡ (mine st).holding
    same_holding =
        upd_cases (λ j y. y.holding ≡ (s.th j).holding) s.th whom.thread (tokened_of (s.th whom.thread))
        refl (λ j ne. refl) me.0

    has_token : (u : ℕ) → suc u ≡ current.0 → (called_first.th u).token ≡ true
    has_token u e =
        let same : u ≡ whom.thread = omega (arith, whom.node) in
        ap (λ j. (called_first.th j).token) same
        ∙ ap (λ y. y.token) (upd_same s.th whom.thread (tokened_of (s.th whom.thread)))

    woken : (p : Place)
        → upd called_first.th me.0 (placed (called_first.th me.0) p)
        ≡ woken_in (upd s.th me.0 (placed (mine st) p)) (owner_of current)
    woken p =
        woken_before s.th me.0 whom.thread p
        ∙ sym (ap (woken_in (upd s.th me.0 (placed (mine st) p)))
        (owner_of_lem current whom.thread whom.node (omega (arith, within)))
        ∙ sym (pick_yes (ltb whom.thread thread_limit) _ _ _
        (lt-ltb whom.thread thread_limit (omega (arith, within))) refl))

    wake_to : (p : Place) → OwnsNothing (about p) (mine st).holding (waiter who)
        → Q.Inv (completed g me.0)
        (Q.moved (queue_of called_first) me.0 (links_of s.nd)
        (upd (wait_of called_first.th s.nd) current.0 false) (about p).role)
        → Inv n (record {
          word = s.word;
          th = woken_in (upd s.th me.0 (placed (mine st) p)) (owner_of current);
          nd = upd s.nd current.0 (with_completed (s.nd current.0));
        }) (completed g me.0)
    wake_to p to q =
        subst
        (λ th. Inv n (record {
          word = s.word;
          th = th;
          nd = upd s.nd current.0 (with_completed (s.nd current.0));
        })
        (completed g me.0)) (woken p)
        (complete with_token_lem me.0 tin who current prev (same_place ∙ here) has_token p (rw same_holding to) q)

    role_is : role_of called_first.th me.0 ≡ store current.0 prev.0
    role_is = same_role (same_place ∙ here)

    may : Allowed (about (WakeStore who current prev)).may (mine st).holding
    may = rw here at (i.holding me.0)

    pub kept_wake_store : Goes st current.0 (λ v. wake_store_of v who current prev)
    kept_wake_store = pick_both (Kept st current.0) (is_none prev) _ _
        (λ e. (completed g me.0, last who refl (eqb-true prev.0 0 e), went_last who))
        (λ e. (
          completed g me.0,
          wake_to (WakePrev who prev) (owns_nothing_waking who _ refl may)
              (Taking.complete_more with_token_lem.queue me.0 role_is (eqb-false prev.0 0 e)),
          completes_more me g here _ done_with,
        ))
      where
        knows : StoreAt (taken_by g me.0) (links_of s.nd) current.0 prev.0
        knows = rw here at (i.queue.know me.0)

        done_with : Completes g me.0 current.0 (completed g me.0)
        done_with = record { some = knows.some; node = knows.isc; is = refl }

        went_last : (o : Who) → Went me (mine st).place g (after_queue o).place (completed g me.0)
        went_last (Waiter writer) = completes_waits me g here _ done_with writer
        went_last Leaver = completes_ends me g here _ done_with

        finished : prev.0 ≡ 0
            → Q.Inv (completed g me.0)
            (Q.moved (queue_of called_first) me.0 (links_of s.nd)
            (upd (wait_of called_first.th s.nd) current.0 false) none)
        finished z = Taking.complete_last with_token_lem.queue me.0 (role_is ∙ ap (store current.0) z)

        last : (o : Who) → o ≡ who → prev.0 ≡ 0
            → Inv n (record {
              word = s.word;
              th = woken_in (upd s.th me.0 (placed (mine st) (after_queue o).place)) (owner_of current);
              nd = upd s.nd current.0 (with_completed (s.nd current.0));
            }) (completed g me.0)
        last (Waiter writer) o z =
            wake_to (CompletedLoad writer) (owns_nothing_waiting (ap waiter o) (rw (← o) at may)) (finished z)
        last Leaver o z = wake_to Idle (owns_nothing_idle (ap waiter o)) (finished z)
