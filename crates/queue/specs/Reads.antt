-- What the queue's invariant gives a reader: every node number that a role carries waits; who stands on the queue
-- finds it not empty. Not here: the steps (Walking, Registering, Taking).
-- Assumes nothing.
use Rattle.std.specs.Prelude.{◌≡◌, ◌⊎◌, true, ℕ, suc, ◌≤◌, ◌<◌}
use Rattle.std.proofs.Common.{inl, inr, arith}
use Rattle.std.proofs.lemmas.Bool.{false≢true}
use Rattle.queue.specs.Queue.{Links, Interval, Walker, Full}
use Rattle.queue.specs.Tickets.{Ghost, tickets_of, taken_by}
use Rattle.queue.specs.Roles.{WalkKind, looks, changes, alone, Role, none, ready, walk, past, link, head, split}
use Rattle.queue.specs.Roles.{aside, undo, wake, store, PastAt, HeadAt, AsideAt, Know, on_queue}
use Rattle.queue.specs.Invariant.{St, Inv, walked_by}

-- ── every node that a role names waits ──

-- P holds of each node number that the role carries
abbrev pub EachNode : (ℕ → Type 0) → Role → Type 0
EachNode P none = Unit {0}
EachNode P (ready b v) = Unit {0}
EachNode P (walk k hd cu) = P hd × P cu
EachNode P (past k hd cu) = P hd × P cu
EachNode P (link k hd cu nn) = P hd × P cu × P nn
EachNode P (head k hd tail) = P hd × P tail
EachNode P (split hd tail prev) = P hd × P tail × P prev
EachNode P (aside hd tail) = P hd × P tail
EachNode P (undo hd tail rp) = P hd × P tail × P rp
EachNode P (wake cu) = P cu
EachNode P (store cu prev) = P cu × ((prev ≡ 0) ⊎ P prev)

module _ {g : Ghost} {s : St} (v : Inv g s) (t : ℕ) where
  abbrev pub NodeWaits : ℕ → Type 0
  NodeWaits x = s.wait x ≡ true

  waits_on : (k : WalkKind) (i x : ℕ) → (walked_by k g t).lo ≤ i
      → i < (walked_by k g t).hi
      → (walked_by k g t).log i ≡ x → NodeWaits x
  waits_on looks i x a b e = rw (← e) (v.parts.queued i a b).waits
  waits_on changes i x a b e = rw (← e) (v.parts.queued i a b).waits
  waits_on alone i x a b e = rw (← e) (v.parts.held t i a b).1.waits

  aside_waits : (hd tail : ℕ) → AsideAt (tickets_of g) (taken_by g t) s.links hd tail → NodeWaits hd × NodeWaits tail
  aside_waits hd tail w = (
    waits_on looks g.fl hd w.base w.top w.ish,
    waits_on alone (g.taken t).beg tail (omega arith) (omega arith) w.ist,
  )

  head_waits : (k : WalkKind) (hd tail : ℕ) → HeadAt k (tickets_of g) (taken_by g t) s.links hd tail
      → NodeWaits hd × NodeWaits tail
  head_waits k hd tail w =
      let y : Full (walked_by k g t) s.links w.h = w.way in (
        waits_on k w.h hd (omega arith) (omega arith) w.ish,
        waits_on k (walked_by k g t).lo tail (omega arith) (omega arith) w.ist,
      )

  past_waits : (k : WalkKind) (hd cu : ℕ) → PastAt k (tickets_of g) (taken_by g t) s.links hd cu
      → NodeWaits hd × NodeWaits cu
  past_waits k hd cu w =
      let y : Walker (walked_by k g t) s.links w.h (suc w.d) = w.way in (
        waits_on k w.h hd (omega arith) (omega arith) w.ish,
        waits_on k (suc w.d) cu (omega arith) (omega arith) w.isc,
      )

  named : (r : Role) → Know (tickets_of g) (taken_by g t) s.links t r → EachNode NodeWaits r
  named none w = tt
  named (ready b n) w = tt
  named (walk k hd cu) w =
      let y : Walker (walked_by k g t) s.links w.h w.c = w.way in (
        waits_on k w.h hd (omega arith) (omega arith) w.ish,
        waits_on k w.c cu (omega arith) (omega arith) w.isc,
      )
  named (past k hd cu) w = past_waits k hd cu w
  named (link k hd cu nn) w =
      let y : Walker (walked_by k g t) s.links w.past.h (suc w.past.d) =
      w.past.way in (
        (past_waits k hd cu w.past).0,
        (past_waits k hd cu w.past).1,
        waits_on k w.past.d nn (omega (arith, w.past.low)) (omega arith) w.isn,
      )
  named (head k hd tail) w = head_waits k hd tail w
  named (split hd tail prev) w =
      let y : Full (tickets_of g) s.links w.it.h = w.it.way in (
        (head_waits changes hd tail w.it).0,
        (head_waits changes hd tail w.it).1,
        waits_on looks (suc g.lo) prev (omega arith) (omega (arith, w.more)) w.isp,
      )
  named (aside hd tail) w = aside_waits hd tail w
  named (undo hd tail rp) w = (
    (aside_waits hd tail w.it).0,
    (aside_waits hd tail w.it).1,
    waits_on looks w.r rp (omega (arith, w.it.base, w.low)) w.top w.isr,
  )
  named (wake cu) w = waits_on alone (g.taken t).beg cu (omega arith) w.some w.isc
  named (store cu prev) w = (waits_on alone (g.taken t).beg cu (omega arith) w.some w.isc, go w.rest)
    where
      go : ((suc (g.taken t).beg ≡ (g.taken t).end) × (prev ≡ 0))
          ⊎ ((suc (g.taken t).beg < (g.taken t).end) × (g.log (suc (g.taken t).beg) ≡ prev))
          → (prev ≡ 0) ⊎ NodeWaits prev
      go (inl z) = inl z.1
      go (inr z) = inr (waits_on alone (suc (g.taken t).beg) prev (omega arith) z.0 z.1)

  pub named_wait : EachNode NodeWaits (s.role t)
  named_wait = named (s.role t) (v.know t)

-- ── who stands on the queue, so that it is not empty ──

pub on_some : (q p : Interval) (l : Links) (t : ℕ) (r : Role) → on_queue r ≡ true → Know q p l t r → q.lo < q.hi
on_some q p l t none e w = absurd (false≢true e)
on_some q p l t (ready b v) e w = absurd (false≢true e)
on_some q p l t (walk looks hd cu) e w = let y : Walker q l w.h w.c = w.way in omega arith
on_some q p l t (walk changes hd cu) e w = let y : Walker q l w.h w.c = w.way in omega arith
on_some q p l t (walk alone hd cu) e w = absurd (false≢true e)
on_some q p l t (past looks hd cu) e w = let y : Walker q l w.h (suc w.d) = w.way in omega arith
on_some q p l t (past changes hd cu) e w = let y : Walker q l w.h (suc w.d) = w.way in omega arith
on_some q p l t (past alone hd cu) e w = absurd (false≢true e)
on_some q p l t (link looks hd cu nn) e w =
    let y : Walker q l w.past.h (suc w.past.d) = w.past.way in omega arith
on_some q p l t (link changes hd cu nn) e w =
    let y : Walker q l w.past.h (suc w.past.d) = w.past.way in omega arith
on_some q p l t (link alone hd cu nn) e w = absurd (false≢true e)
on_some q p l t (head looks hd tail) e w = let y : Full q l w.h = w.way in omega arith
on_some q p l t (head changes hd tail) e w = let y : Full q l w.h = w.way in omega arith
on_some q p l t (head alone hd tail) e w = absurd (false≢true e)
on_some q p l t (split hd tail prev) e w = let y : Full q l w.it.h = w.it.way in omega arith
on_some q p l t (aside hd tail) e w = omega (arith, w.base, w.top)
on_some q p l t (undo hd tail rp) e w = omega (arith, w.it.base, w.it.top)
on_some q p l t (wake cu) e w = absurd (false≢true e)
on_some q p l t (store cu prev) e w = absurd (false≢true e)
