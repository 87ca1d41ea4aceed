-- A thread off the queue moves on: `goes_off_queue`, without a change of what is shared; `ends_call`, the end of a call
-- by a change of the word's LOCKED, DOWNGRADED or readers' count, with the queue as it was.
-- Assumes nothing.
use Rattle.std.specs.Prelude.{ℕ, ◌+◌, Bool, true, false, ◌≢◌, ◌≡◌, refl}
use Rattle.std.proofs.Common.{sym, ap, ◌∙◌, arith}
use Rattle.word.specs.Flags.{locked, queued, queue_locked, downgraded, to_node}
use Rattle.word.specs.declared.flags.Word.{Word}
use Rattle.state.specs.Holding.{reads_of}
use Rattle.state.specs.declared.holding.Holding.{Holding}
use Rattle.state.specs.declared.machine.Thread.{Thread}
use Rattle.state.specs.declared.place.Place.{Place}
use Rattle.state.specs.declared.place.Place.TheVariants.{Idle}
use Rattle.queue.specs.Tests.{never}
use Rattle.queue.specs.Tickets.{Ghost}
use Rattle.queue.specs.Roles.{none, filled}
use Rattle.queue.specs.Invariant as Q
use Rattle.queue.proofs.Steps as QueueSteps
use Rattle.invariant.specs.Table.{May, About, off_queue, about, Lock, about_at, Allowed, leaver}
use Rattle.invariant.specs.Invariant.{readers, Count, Real, queue_of, Inv}
use Rattle.invariant.specs.Frames.{summed, land, stay, viewed_still, same_newest, Recount}
use Rattle.invariant.specs.Kept.{placed, became, Setting, mine, gone_to, moved_to}

-- what is told of a place off the queue
pub record OffQueue (a : About) : Type 0 where
  pub role : a.role ≡ none
  pub owner : a.owner ≡ false
  pub reader : a.reader ≡ false
  pub registered : a.registered ≡ false
  pub asleep : a.asleep ≡ false
  pub ok : a.ok ≡ true

pub off_queue_lem : (may : May) (leaves needs_queue contends : Bool)
    → OffQueue (off_queue may leaves needs_queue contends)
off_queue_lem may leaves needs_queue contends =
    record { role = refl; owner = refl; reader = refl; registered = refl; asleep = refl; ok = refl }

-- thread t owns nothing of the queue, and its role may be put down
pub record RoleDown (s : Lock) (g : Ghost) (t : ℕ) : Type 0 where
  pub owner : (about_at s t).owner ≡ false
  pub registered : (about_at s t).registered ≡ false
  pub role : Q.Inv g (Q.turned (queue_of s) t none)

pub role_down : {n : ℕ} {s : Lock} {g : Ghost} (i : Inv n s g) (t : ℕ) → OffQueue (about_at s t) → RoleDown s g t
role_down {s} {g} i t o = record {
  owner = o.owner;
  registered = o.registered;
  role = QueueSteps.turn g (queue_of s) i.queue t none (rw o.role at (i.queue.know t)) (never refl);
}

module _ (st : Setting) (o : RoleDown st.s st.g st.me.0) where
  open st use {n, s, g, i, me, tin}

  -- the queue's view where the thread goes on off the queue
  pub queue_still : (w : Word) (x : Thread) → OffQueue (about x.place) → Q.Inv g (queue_of (moved_to st w x))
  queue_still w x o' = viewed_still s me.0 x w (rw (o'.registered, o.registered)) (rw o'.role o.role)

  -- on to another place, with the word as it is
  pub goes_off_queue : (p : Place) → OffQueue (about p) → Allowed (about p).may (mine st).holding
      → ((about p).needs_queue ≡ true → queued s.word ≡ true)
      → leaver (placed (mine st) p) ≡ leaver (mine st)
      → ((about_at s me.0).contends ≡ true → (about p).contends ≡ true)
      → Inv n (gone_to st p s.nd) g
  goes_off_queue p o' may needs leaving contending = stay n s g me.0 (placed (mine st) p) s.nd i (record {
    queue = queue_still s.word (placed (mine st) p) o';
    inside = tin;
    holding = refl;
    completed = λ u ne. refl;
    next = λ r. refl;
    owner = o'.owner ∙ sym o.owner;
    leaving = leaving;
    may = may;
    needs = needs;
    plain = never o'.reader;
    calm = λ r. never o'.owner;
    fits = o'.ok;
    clear = never (ap filled o'.role);
    token = never o'.asleep;
    contending = contending;
    called = λ e. never o.registered e;
  })

  -- the word after a call has ended: only LOCKED, DOWNGRADED or the readers' count differ, and no real readers are left
  pub record Ended (w : Word) (h : Holding) : Type 0 where
    pub same_queue : queued w ≡ queued s.word
    pub same_owner : queue_locked w ≡ queue_locked s.word
    pub same_node : queued s.word ≡ true → to_node w ≡ to_node s.word
    pub handed : queued w ≡ true → downgraded w ≡ true → (queue_locked w ≡ true) × (locked w ≡ true)
    pub bare : queued w ≡ false → downgraded w ≡ false
    pub plain : (u : ℕ) → u ≢ me.0 → (about_at s u).reader ≡ true → downgraded w ≡ false
    pub count : Recount n s (mine st) (became (mine st) Idle h) (Count w)
    pub unreal : queued w ≡ true → downgraded w ≡ false → (r : ℕ)
        → r + reads_of (mine st).holding ≡ readers n s + reads_of h → r ≡ 0
    pub seen_to : queued w ≡ true → locked w ≡ false → queue_locked w ≡ false → ⊥

  pub ends_call : (w : Word) (h : Holding) → Ended w h → Inv n (moved_to st w (became (mine st) Idle h)) g
  ends_call w h c = land i g me.0 w (became (mine st) Idle h) s.nd (record {
    queue = queue_still w (became (mine st) Idle h) (off_queue_lem _ _ _ _);
    newest = λ e.
        let q : queued s.word ≡ true = sym c.same_queue ∙ e in
        same_newest w (c.same_node q) (i.newest q);
    nobody = λ e. i.nobody (sym c.same_queue ∙ e);
    handed = c.handed;
    bare = λ e. (c.same_owner ∙ (i.bare (sym c.same_queue ∙ e)).0, c.bare e);
    inside = tin;
    owner = rw (o.owner, c.same_owner);
    may = tt;
    count = c.count;
    needs = never refl;
    needs_all = λ u ne e. c.same_queue ∙ i.needs u e;
    plain = never refl;
    plain_all = c.plain;
    counted = λ r. absurd (unreal r);
    calm = λ r. absurd (unreal r);
    calm_all = λ r. absurd (unreal r);
    fits = refl;
    clear = never refl;
    clears = λ u ne. i.clear u;
    token = never refl;
    tokens = λ u ne. i.token u;
    seen_to = λ a b d. absurd (c.seen_to a b d);
  })
    where
      unreal : Real n (moved_to st w (became (mine st) Idle h)) → ⊥
      unreal r =
          omega (
            arith,
            r.some,
            c.unreal r.queue r.plain (readers n (moved_to st w (became (mine st) Idle h)))
                (summed s me.0 (became (mine st) Idle h) s.nd n tin (λ y. reads_of y.holding)),
          )
