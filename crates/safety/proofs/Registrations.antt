-- The registrations of a run are the tickets, newest first; so the listing is the newest of them, without repeats.
-- Assumes nothing.
use Rattle.std.specs.Prelude.{ℕ, suc, ◌+◌, ◌-◌, List, [], ◌∷◌, ◌≡◌, take}
use Rattle.std.proofs.Common.{sym, ap, ◌∙◌, subst, zero-add, arith}
use Rattle.word.specs.Number.{node}
use Rattle.word.specs.declared.number.NodeNumber.{NodeNumber}
use Rattle.state.specs.declared.machine.Machine.{Machine}
use Rattle.lock.specs.Effect.{QueueEffect, stands, registers, sets_aside, restores, takes_tail, takes_all, completes}
use Rattle.lock.specs.Event.{event_of}
use Rattle.listing.specs.Listing.{listed, listed_of, waiters_by}
use Rattle.queue.specs.Updates.{upd, upd_same, upd_other}
use Rattle.queue.specs.Tickets.{Ghost, live_queue}
use Rattle.invariant.specs.Moves.{Moved}
use Rattle.invariant.proofs.Events.{Sound, event_safe}
use Rattle.safety.specs.Intervals.{down, down_same, node_is}
use Rattle.safety.specs.Held.{listing_is}
use Rattle.safety.specs.Members.{no_repeats, take_down}
use Rattle.safety.specs.Statements.{Event, after, effect_in, ran_by, ran, registering, registrations}
use Rattle.safety.specs.Statements.{NoRepeats, Listing}

-- all tickets ever, newest first
abbrev logged : Ghost → List NodeNumber
logged g = down g.log 0 g.hi

-- an effect adds what it registered
registering_is : (e : QueueEffect) (g : Ghost) (t : ℕ) (g' : Ghost)
    → Moved e g t g'
    → registering e (logged g) ≡ logged g'
registering_is stands g t g' z = ap logged (sym z)
registering_is (registers k) g t g' z =
    ap (λ l. k ∷ l) (sym older)
    ∙ ap (λ x. x ∷ down (upd g.log g.hi (suc t)) 0 g.hi) newest
    ∙ ap logged (sym z.is)
  where
    older : down (upd g.log g.hi (suc t)) 0 g.hi ≡ logged g
    older =
        down_same g.log (upd g.log g.hi (suc t)) 0 g.hi
        (λ j x y. upd_other g.log g.hi (suc t) j (λ e. omega arith))

    newest : k ≡ node (upd g.log g.hi (suc t) (0 + g.hi))
    newest =
        node_is k (suc t) (sym z.node)
        ∙ ap node (sym (ap (upd g.log g.hi (suc t)) (zero-add g.hi) ∙ upd_same g.log g.hi (suc t)))
registering_is (sets_aside k) g t g' z = ap logged (sym z.is)
registering_is (restores k) g t g' z = ap logged (sym z.is)
registering_is (takes_tail k) g t g' z = ap logged (sym z.is)
registering_is takes_all g t g' z = ap logged (sym z.is)
registering_is (completes k) g t g' z = ap logged (sym z.is)

-- so a run adds what was registered in it
pub record Made (m : Machine) (made : List NodeNumber) : Type 0 where
  pub ok : Sound m
  pub is : made ≡ logged ok.ghost

pub made_in : (m : Machine) (made : List NodeNumber) → Made m made → (es : List Event)
    → Made (ran m es) (registrations event_of m es made)
unfolding ran_by registrations
made_in m made r [] = r
made_in m made r (e ∷ es) =
    let safe = event_safe m r.ok e.thread e.code in
    made_in (after m e) (registering (effect_in m e).queue made)
    (record {
      ok = safe.ok;
      is =
          ap (registering (effect_in m e).queue) r.is
          ∙ registering_is (effect_in m e).queue r.ok.ghost e.thread.0 safe.ok.ghost safe.moved.0;
    }) es

pub listing_made : (m : Machine) (made : List NodeNumber) → Made m made → Listing m made
listing_made m made r = record {
  waiting = g.hi - g.lo;
  fine = ap waiters_by its;
  is = its;
  once =
      subst NoRepeats (sym newest)
      (no_repeats g.log g.lo (g.hi - g.lo)
      (λ i j a b c d ne. (live_queue r.ok.inv.queue.parts).apart i j a (omega arith) c (omega arith) ne));
}
  where
    g : Ghost
    g = r.ok.ghost

    newest : take (r.ok.ghost.hi - r.ok.ghost.lo) made
        ≡ down r.ok.ghost.log r.ok.ghost.lo (r.ok.ghost.hi - r.ok.ghost.lo)
    newest =
        let all : r.ok.ghost.hi ≡ r.ok.ghost.lo + (r.ok.ghost.hi - r.ok.ghost.lo) =
        omega (arith, r.ok.inv.queue.parts.order) in
        ap (take (r.ok.ghost.hi - r.ok.ghost.lo)) (r.is ∙ ap (down r.ok.ghost.log 0) all)
        ∙ take_down r.ok.ghost.log r.ok.ghost.lo (r.ok.ghost.hi - r.ok.ghost.lo)

    its : listed_of m ≡ listed (take (r.ok.ghost.hi - r.ok.ghost.lo) made)
    its = listing_is m r.ok ∙ ap listed (sym newest)
