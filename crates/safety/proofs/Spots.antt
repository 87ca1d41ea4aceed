-- Each waiter is in exactly one list: its ticket is somebody's, and nobody else's.
-- Assumes nothing.
use Rattle.std.specs.Prelude.{ℕ, suc, ◌+◌, ◌-◌, Bool, true, false, [], ◌≡◌, refl}
use mathlib.Core.List.Memᴰ
use Rattle.std.proofs.Common.{inl, inr, sym, ap, ◌∙◌, subst, add-one, arith}
use Rattle.word.specs.Base.{pick}
use Rattle.word.specs.Number.{node, thread, node_of}
use Rattle.word.specs.declared.number.NodeNumber.{NodeNumber}
use Rattle.state.specs.Machine.{thread_at}
use Rattle.state.specs.declared.machine.Machine.{Machine}
use Rattle.listing.specs.Listing.{Listed, listed}
use Rattle.standing.specs.Part.{part_of}
use Rattle.standing.specs.declared.part.Part.{Part}
use Rattle.queue.specs.Tests.{never}
use Rattle.queue.specs.Tickets.{Ghost, Held, Somewhere}
use Rattle.invariant.specs.Table.{wait_of}
use Rattle.invariant.proofs.Exclusion.{inside}
use Rattle.invariant.proofs.Wake.{WaiterOf, waiter_of_lem}
use Rattle.invariant.specs.Bridge.{node_in, lock_of}
use Rattle.invariant.proofs.Events.{Sound}
use Rattle.safety.specs.Lists.{held_by, aside_of}
use Rattle.safety.specs.Intervals.{node_is}
use Rattle.safety.specs.Held.{listing_is, held_is}
use Rattle.safety.specs.Members.{Among, in_down, in_up, down_in, up_in}
use Rattle.safety.specs.Parts.{same_part}
use Rattle.safety.specs.Statements.{Waiter, Waits, Spot, queue, aside, waker, In, At, OneSpot}

-- a node that waits is a waiter's
pub waiter_is : (m : Machine) → Sound m → (k : ℕ) → WaiterOf (lock_of m) k → Waits m (node k)
waiter_is m ok k w = (
  w.thread,
  ap node (sym w.node ∙ sym (add-one w.thread)),
  record {
    below = inside ok.inv w.thread (λ a. a.registered) refl w.registered;
    registered = sym (same_part (thread_at m w.thread).place).registered ∙ w.registered;
    uncompleted = ap (λ j. ((lock_of m).nd j).completed) w.node ∙ w.open_node;
  },
)

-- who has a spot's tickets: 0 the queue, t + 1 thread t
abbrev owner_at : Spot → ℕ
owner_at queue = 0
owner_at (aside t) = suc t
owner_at (waker t) = suc t

-- what is on one of a thread's two lists is not on the other
of_aside : (k : NodeNumber) (a : Bool) (l : Listed) → In k (pick a l (listed [])) → (a ≡ true) × In k l
of_aside k true l i = (refl, i)
of_aside k false l i = absurd (Memᴰ.not-nil i)

of_waker : (k : NodeNumber) (a : Bool) (l : Listed) → In k (pick a (listed []) l) → (a ≡ false) × In k l
of_waker k true l i = absurd (Memᴰ.not-nil i)
of_waker k false l i = (refl, i)

module _ (m : Machine) (ok : Sound m) where
  abbrev g : Ghost
  g = ok.ghost

  abbrev wait : ℕ → Bool
  wait = wait_of (thread_at m) (node_in m.nodes)

  abbrev part : ℕ → Part
  part u = part_of (thread_at m u).place

  is_aside_lem : (k : NodeNumber) (t : ℕ) → At m k (aside t) → (aside_of (part t) ≡ true) × In k (held_by m (part t))
  is_aside_lem k t i = of_aside k (aside_of (part t)) (held_by m (part t)) i

  is_waker : (k : NodeNumber) (t : ℕ) → At m k (waker t) → (aside_of (part t) ≡ false) × In k (held_by m (part t))
  is_waker k t i = of_waker k (aside_of (part t)) (held_by m (part t)) i

  -- a node at a spot has a ticket of its owner's
  record Ticketed (k : NodeNumber) (o : ℕ) : Type 0 where
    pub ticket : ℕ
    pub held : Held g wait o ticket
    pub node : g.log ticket ≡ k.0

  in_held : (k : NodeNumber) (t : ℕ) → In k (held_by m (part t)) → Ticketed k (suc t)
  in_held k t i =
      let y : Among g.log (g.taken t).beg ((g.taken t).end - (g.taken t).beg) k =
      in_up g.log (g.taken t).beg ((g.taken t).end - (g.taken t).beg) k (subst (In k) (held_is m ok t) i) in
      record {
        ticket = y.ticket;
        held = (ok.inv.queue.parts.held t y.ticket y.low (omega (arith, y.low, y.high))).1;
        node = y.node;
      }

  ticketed : (k : NodeNumber) (s : Spot) → At m k s → Ticketed k (owner_at s)
  ticketed k queue i =
      let y : Among g.log g.lo (g.hi - g.lo) k =
      in_down g.log g.lo (g.hi - g.lo) k (subst (In k) (listing_is m ok) i) in
      record {
        ticket = y.ticket;
        held = ok.inv.queue.parts.queued y.ticket y.low (omega (arith, y.low, y.high));
        node = y.node;
      }
  ticketed k (aside t) i = in_held k t (is_aside_lem k t i).1
  ticketed k (waker t) i = in_held k t (is_waker k t i).1

  -- a node has one ticket, and a ticket one owner
  one_owner : (k : NodeNumber) (a b : ℕ) → Ticketed k a → Ticketed k b → a ≡ b
  one_owner k a b x y = sym x.held.own ∙ ap g.own same ∙ y.held.own
    where
      same : x.ticket ≡ y.ticket
      same = sym x.held.tk ∙ ap g.tk (x.node ∙ sym y.node) ∙ y.held.tk

  same_spot : (k : NodeNumber) (s s' : Spot) → At m k s → At m k s' → owner_at s ≡ owner_at s' → s ≡ s'
  same_spot k queue queue a b e = refl
  same_spot k queue (aside u) a b e = absurd (omega arith)
  same_spot k queue (waker u) a b e = absurd (omega arith)
  same_spot k (aside t) queue a b e = absurd (omega arith)
  same_spot k (aside t) (aside u) a b e = let z : t ≡ u = omega arith in ap aside z
  same_spot k (aside t) (waker u) a b e =
      let z : t ≡ u = omega arith in
      never (subst (λ v. aside_of (part v) ≡ false) (sym z) (is_waker k u b).0) (is_aside_lem k t a).0
  same_spot k (waker t) queue a b e = absurd (omega arith)
  same_spot k (waker t) (aside u) a b e =
      let z : t ≡ u = omega arith in
      never (is_waker k t a).0 (subst (λ v. aside_of (part v) ≡ true) (sym z) (is_aside_lem k u b).0)
  same_spot k (waker t) (waker u) a b e = let z : t ≡ u = omega arith in ap waker z

  -- the spot of a waiter
  found : (k : NodeNumber) → (g.log (g.tk k.0) ≡ k.0) → Somewhere g (g.tk k.0) → (s : Spot) × At m k s
  found k e (inl x) = (
    queue,
    subst (In k) (sym (listing_is m ok))
        (down_in g.log g.lo (g.hi - g.lo) (g.tk k.0) k x.0 (omega arith)
        (node_is k (g.log (g.tk k.0)) (sym e))),
  )
  found k e (inr x) = by (aside_of (part x.0)) refl
    where
      there : In k (held_by m (part x.0))
      there =
          subst (In k) (sym (held_is m ok x.0))
          (up_in g.log (g.taken x.0).beg ((g.taken x.0).end - (g.taken x.0).beg) (g.tk k.0) k x.1
          (omega (arith, x.1, x.2)) (node_is k (g.log (g.tk k.0)) (sym e)))

      by : (b : Bool) → aside_of (part x.0) ≡ b → (s : Spot) × At m k s
      by true z = (aside x.0, subst (λ a. In k (pick a (held_by m (part x.0)) (listed []))) (sym z) there)
      by false z = (waker x.0, subst (λ a. In k (pick a (listed []) (held_by m (part x.0)))) (sym z) there)

  pub one_spot : (t : ℕ) → Waiter m t → OneSpot m (node_of (thread t))
  one_spot t w = by (found (node_of (thread t)) covered.0 covered.1)
    where
      waits : wait (t + 1) ≡ true
      waits =
          subst (λ j. wait j ≡ true) (sym (add-one t))
          (rw ((same_part (thread_at m t).place).registered ∙ w.registered, w.uncompleted) refl)

      covered : (g.log (g.tk (t + 1)) ≡ t + 1) × Somewhere g (g.tk (t + 1))
      covered = ok.inv.queue.parts.cover (t + 1) waits

      by : (s : Spot) × At m (node_of (thread t)) s → OneSpot m (node_of (thread t))
      by x = record {
        spot = x.0;
        there = x.1;
        only =
            λ s a. same_spot (node_of (thread t)) s x.0 a x.1
            (one_owner (node_of (thread t)) (owner_at s) (owner_at x.0) (ticketed (node_of (thread t)) s a)
            (ticketed (node_of (thread t)) x.0 x.1));
      }

  -- nobody else is anywhere
  pub spot_waits : (k : NodeNumber) (s : Spot) → At m k s → Waits m k
  spot_waits k s a =
      let x : Ticketed k (owner_at s) = ticketed k s a in
      waiter_is m ok k.0 (waiter_of_lem (lock_of m) k.0 (subst (λ j. wait j ≡ true) x.node x.held.waits))
