-- A thread on the queue, or on what it has taken off, moves on: `goes_on_queue`, without a change of the word, of
-- tickets
-- or of what it holds. Also where a walk begins.
-- Assumes nothing.
use Rattle.std.specs.Prelude.{ℕ, suc, Bool, true, false, ◌≡◌, refl}
use Rattle.std.proofs.Common.{inl, sym, ◌∙◌}
use Rattle.word.specs.declared.flags.Word.{Word}
use Rattle.word.specs.declared.number.NodeNumber.{NodeNumber}
use Rattle.word.specs.Flags.{to_node}
use Rattle.state.specs.Node.{with_prev, with_tail}
use Rattle.state.specs.declared.holding.Holding.{Holding}
use Rattle.state.specs.declared.node.Node.{Node}
use Rattle.state.specs.declared.place.Place.{Place}
use Rattle.state.specs.declared.place.Walk.{Walk}
use Rattle.state.specs.declared.place.Who.{Who}
use Rattle.queue.specs.Tests.{never}
use Rattle.queue.specs.Updates.{upd, upd_cases, map_upd, map_keep, upd_same}
use Rattle.queue.specs.Tickets.{Ghost}
use Rattle.queue.specs.Queue.{Links, set_pv, set_tl}
use Rattle.queue.specs.Roles.{Role, filled, WalkKind, public, none, walk}
use Rattle.queue.specs.Invariant as Q
use Rattle.queue.proofs.Walking
use Rattle.invariant.specs.Table.{hands_off, About, walking, owning, waking, about, Lock, links_of, wait_of, Allowed}
use Rattle.invariant.specs.Table.{look_kind, role_of}
use Rattle.invariant.specs.Invariant.{Real, queue_of, Inv, Newest}
use Rattle.invariant.specs.Frames.{moved, waits_as, stay, viewed}
use Rattle.invariant.specs.Kept.{placed, Setting, mine, gone_to}

-- ── places alike but for what is known of the queue ──

pub record Alike (a b : About) : Type 0 where
  pub unfilled : filled b.role ≡ false
  pub owner : b.owner ≡ a.owner
  pub reader : b.reader ≡ a.reader
  pub registered : b.registered ≡ a.registered
  pub asleep : b.asleep ≡ false
  pub may : (h : Holding) → Allowed a.may h → Allowed b.may h
  pub ok : b.ok ≡ true
  pub leaves : b.leaves ≡ a.leaves
  pub needs_queue : b.needs_queue ≡ false
  pub contends : b.contends ≡ a.contends

pub alike_walk : (k : Walk) (seen seen' : Word) (r r' : Role) → filled r' ≡ false
    → Alike (walking k seen r) (walking k seen' r')
alike_walk k seen seen' r r' f = record {
  unfilled = f;
  owner = refl;
  reader = refl;
  registered = refl;
  asleep = refl;
  may = λ h a. a;
  ok = refl;
  leaves = refl;
  needs_queue = refl;
  contends = refl;
}

pub alike_own : (who : Who) (seen seen' : Word) (r r' : Role) (ok ok' : Bool) → filled r' ≡ false → ok' ≡ true
    → Alike (owning who seen r ok) (owning who seen' r' ok')
alike_own who seen seen' r r' ok ok' f e = record {
  unfilled = f;
  owner = refl;
  reader = refl;
  registered = refl;
  asleep = refl;
  may = λ h a. a;
  ok = e;
  leaves = refl;
  needs_queue = refl;
  contends = refl;
}

pub alike_wake : (who : Who) (r r' : Role) → filled r' ≡ false → Alike (waking who r) (waking who r')
alike_wake who r r' f = record {
  unfilled = f;
  owner = refl;
  reader = refl;
  registered = refl;
  asleep = refl;
  may = λ h a. a;
  ok = refl;
  leaves = refl;
  needs_queue = refl;
  contends = refl;
}

-- ── a store of a link changes neither completed nor next ──

pub record Linked (nd nd' : ℕ → Node) (l : Links) : Type 0 where
  pub completed : (k : ℕ) → (nd' k).completed ≡ (nd k).completed
  pub next : (k : ℕ) → (nd' k).next ≡ (nd k).next
  pub links : links_of nd' ≡ l

pub unlinked : (nd : ℕ → Node) → Linked nd nd (links_of nd)
unlinked nd = record { completed = λ k. refl; next = λ k. refl; links = refl }

module _ (nd : ℕ → Node) (k : ℕ) (z : NodeNumber) where
  pub linked_tail : Linked nd (upd nd k (with_tail (nd k) z)) (set_tl (links_of nd) k z.0)
  linked_tail = record {
    completed = upd_cases (λ j y. y.completed ≡ (nd j).completed) nd k (with_tail (nd k) z) refl (λ j ne. refl);
    next = upd_cases (λ j y. y.next ≡ (nd j).next) nd k (with_tail (nd k) z) refl (λ j ne. refl);
    links = λ i. record {
      nx = map_keep (λ y. y.next.0) nd k (with_tail (nd k) z) refl i;
      pv = map_keep (λ y. y.prev.0) nd k (with_tail (nd k) z) refl i;
      tl = map_upd (λ y. y.tail.0) nd k (with_tail (nd k) z) i;
    };
  }

  pub linked_prev : Linked nd (upd nd k (with_prev (nd k) z)) (set_pv (links_of nd) k z.0)
  linked_prev = record {
    completed = upd_cases (λ j y. y.completed ≡ (nd j).completed) nd k (with_prev (nd k) z) refl (λ j ne. refl);
    next = upd_cases (λ j y. y.next ≡ (nd j).next) nd k (with_prev (nd k) z) refl (λ j ne. refl);
    links = λ i. record {
      nx = map_keep (λ y. y.next.0) nd k (with_prev (nd k) z) refl i;
      pv = map_upd (λ y. y.prev.0) nd k (with_prev (nd k) z) i;
      tl = map_keep (λ y. y.tail.0) nd k (with_prev (nd k) z) refl i;
    };
  }

-- ── on ──

module _ (st : Setting) (p : Place) (a : Alike (about (mine st).place) (about p)) {nd : ℕ → Node} {l : Links}
    (k : Linked st.s.nd nd l) where
  open st use {n, s, g, i, me, tin}

  pub waits_alike : wait_of (upd s.th me.0 (placed (mine st) p)) nd ≡ wait_of s.th s.nd
  waits_alike =
      waits_as s me.0 (placed (mine st) p) nd (wait_of s.th s.nd) refl
      (rw (a.registered, k.completed (suc me.0))) (λ u ne. rw (k.completed (suc u)))

  -- the queue's step is the lock's
  pub seen_as : (g' : Ghost) (w : Word) → Q.Inv g' (Q.relinked (queue_of s) me.0 l (about p).role)
      → Q.Inv g' (queue_of (moved s me.0 w (placed (mine st) p) nd))
  seen_as g' w q = viewed s me.0 (placed (mine st) p) nd w l (wait_of s.th s.nd) k.links waits_alike q

  pub goes_on_queue : (Real n s → (about p).owner ≡ true → hands_off (about p).seen ≡ true)
      → Q.Inv g (Q.relinked (queue_of s) me.0 l (about p).role) → Inv n (gone_to st p nd) g
  goes_on_queue calm q = stay n s g me.0 (placed (mine st) p) nd i (record {
    queue = seen_as g s.word q;
    inside = tin;
    holding = refl;
    completed = λ u ne. k.completed (suc u);
    next = λ r. k.next (g.log g.lo);
    owner = a.owner;
    leaving = rw a.leaves;
    may = a.may (mine st).holding (i.holding me.0);
    needs = never a.needs_queue;
    plain = λ e. i.plain me.0 (sym a.reader ∙ e);
    calm = calm;
    fits = a.ok;
    clear = never a.unfilled;
    token = never a.asleep;
    contending = λ e. a.contends ∙ e;
    called = λ e d. inl (a.registered ∙ e, k.completed (suc me.0) ∙ d);
  })

-- ── a walk begins at the newest ticket's node ──

pub public_look : (c : Bool) → public (look_kind c) ≡ true
public_look true = refl
public_look false = refl

pub begun_at : (s : Lock) (t : ℕ) (wait : ℕ → Bool) {g : Ghost} {w : Word} (k : WalkKind) → public k ≡ true → Newest g w
    → Q.Inv g (Q.moved (queue_of s) t (links_of s.nd) wait none)
    → Q.Inv g (Q.moved (queue_of s) t (links_of s.nd) wait (walk k (to_node w).0 (to_node w).0))
begun_at s t wait {w} k p v down =
    rw Q.moved_twice at (Walking.begin down t k p (to_node w).0 v.ticket (upd_same (role_of s.th) t none) v.last
    v.some v.node)
