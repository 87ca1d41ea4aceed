-- How a step is put together: what it is to leave alone for the other threads, and the invariant after it.
-- Assumes nothing.
use Rattle.std.specs.Prelude.{◌≡◌, refl, ◌≢◌, Bool, true, false, ℕ, suc, ◌≤◌, ◌<◌}
use Rattle.std.proofs.Common.{sym, ◌∙◌, arith}
use Rattle.queue.specs.Updates.{upd_cases}
use Rattle.queue.specs.Queue.{Links, Interval, Live, Queue, Agree}
use Rattle.queue.specs.Tickets.{Ghost, tickets_of, taken_by, Held, Parts, owners_apart, waiting_apart, live_queue}
use Rattle.queue.specs.Tickets.{live_taken}
use Rattle.queue.specs.Roles.{WalkKind, looks, changes, alone, Role, on_queue, changing, filled}
use Rattle.queue.specs.Roles.{Ground, Know, Still, KeepsClean, Untouched}
use Rattle.queue.specs.Invariant.{St, Inv, walked_by, moved, turned, Only, Spared}
use Rattle.queue.proofs.Frames.{agree_still, know_frame}

module _ {g : Ghost} {s : St} (v : Inv g s) (t : ℕ) where
  pub step : (g' : Ghost) (l' : Links) (wait' : ℕ → Bool) (r : Role) → Parts g' wait' → Queue (tickets_of g') l'
      → Know (tickets_of g') (taken_by g' t) l' t r → (filled r ≡ true → wait' (suc t) ≡ false)
      → ((u : ℕ) → u ≢ t → Spared g g' s l' wait' u)
      → Inv g' (moved s t l' wait' r)
  step g' l' wait' r ps q k f others = record {
    parts = ps;
    queue = q;
    know = upd_cases (λ u x. Know (tickets_of g') (taken_by g' u) l' u x) s.role t r k (λ u ne. other u (others u ne));
    free = upd_cases (λ u x. filled x ≡ true → wait' (suc u) ≡ false) s.role t r f (λ u ne. (others u ne).free);
  }
    where
      other : (u : ℕ) → Spared g g' s l' wait' u → Know (tickets_of g') (taken_by g' u) l' u (s.role u)
      other u x = rw x.taken (know_frame (s.role u) x.frame (v.know u))

  pub agree_refl : (p : Interval) → Agree p p.log s.links s.links
  agree_refl p = record { log = λ i a b. refl; nx = λ i a b. refl; pv = λ i a b. refl; tl = λ i a b. refl }

  pub role_knows : {r : Role} → s.role t ≡ r → Know (tickets_of g) (taken_by g t) s.links t r
  role_knows e = rw e at (v.know t)

  pub live : Live (tickets_of g)
  live = live_queue v.parts

  pub live_on : (k : WalkKind) → Live (walked_by k g t)
  live_on looks = live
  live_on changes = live
  live_on alone = live_taken v.parts t

  pub queue_on : (k : WalkKind) → Ground k (taken_by g t) s.links
      → Queue (walked_by k g t) s.links
  queue_on looks e = v.queue
  queue_on changes e = v.queue
  queue_on alone e = e

  -- ── a store to one node ──

  pub agree_apart : (p : Interval) (l' : Links) (x : ℕ) → Only s.links l' x
      → ((i : ℕ) → p.lo ≤ i → i < p.hi → p.log i ≢ x) → Agree p p.log s.links l'
  agree_apart p l' x only ne = record {
    log = λ i a b. refl;
    nx = λ i a b. (only (p.log i) (ne i a b)).nx;
    pv = λ i a b. (only (p.log i) (ne i a b)).pv;
    tl = λ i a b. (only (p.log i) (ne i a b)).tl;
  }

  -- where the store is to no node of the queue
  pub still_apart : (l' : Links) → Agree (tickets_of g) g.log s.links l'
      → Still (tickets_of g) (tickets_of g) s.links l'
  still_apart l' a = agree_still a

  pub clean_apart : (l' : Links) → Agree (tickets_of g) g.log s.links l'
      → KeepsClean (tickets_of g) (tickets_of g) s.links l'
  clean_apart l' a h f c i x y = a.pv i (omega (arith, v.queue.base)) y ∙ c i x y

  -- the store is to the node of ticket j, which o holds
  module _ {l' : Links} {j o : ℕ} (hj : Held g s.wait o j) (only : Only s.links l' (g.log j)) where
    pub taken_apart : (u : ℕ) → suc u ≢ o → Agree (taken_by g u) g.log s.links l'
    taken_apart u ne = agree_apart (taken_by g u) l' (g.log j) only
        (λ i a b. owners_apart v.parts i j (suc u) o (v.parts.held u i a b).1 hj ne)

    pub queue_apart : 0 ≢ o → Agree (tickets_of g) g.log s.links l'
    queue_apart ne =
        agree_apart (tickets_of g) l' (g.log j) only
        (λ i a b. owners_apart v.parts i j 0 o (v.parts.queued i a b) hj ne)

    pub node_apart : (u : ℕ) → filled (s.role u) ≡ true → Untouched s.links l' (suc u)
    node_apart u f = only (suc u) (λ e. waiting_apart v.parts j o (suc u) hj (v.free u f) (sym e))

    pub spared_queue : (g' : Ghost) → g'.log ≡ g.log → (u : ℕ) → u ≢ t → suc u ≢ o → g'.taken u ≡ g.taken u
        → (on_queue (s.role u) ≡ true → Still (tickets_of g) (tickets_of g') s.links l')
        → (changing (s.role u) ≡ true → KeepsClean (tickets_of g) (tickets_of g') s.links l')
        → (changing (s.role u) ≡ true → l'.nx (g.log g.lo) ≡ s.links.nx (g.log g.lo))
        → Spared g g' s l' s.wait u
    spared_queue g' lg u ne other et st cl be = record {
      taken = et;
      frame = record {
        taken = rw lg (taken_apart u other);
        node = node_apart u;
        still = st;
        clean = cl;
        below = λ c _. be c;
      };
      free = v.free u;
    }

    -- t stores in what it has taken itself
    pub spared_own : o ≡ suc t → (u : ℕ) → u ≢ t → Spared g g s l' s.wait u
    spared_own eo u ne =
        let a : Agree (tickets_of g) g.log s.links l' = queue_apart (λ z. omega arith) in
        record {
          taken = refl;
          frame = record {
            taken = taken_apart u (λ z. ne (omega arith));
            node = node_apart u;
            still = λ _. still_apart l' a;
            clean = λ _. clean_apart l' a;
            below = λ _ b. a.nx g.lo (omega arith) b;
          };
          free = v.free u;
        }

-- the links stay, and the ghost too: only t's role moves
pub turn : (g : Ghost) (s : St) (v : Inv g s) (t : ℕ) (r : Role) → Know (tickets_of g) (taken_by g t) s.links t r
    → (filled r ≡ true → s.wait (suc t) ≡ false) → Inv g (turned s t r)
turn g s v t r k f = step v t g s.links s.wait r v.parts v.queue k f λ u ne. record {
  taken = refl;
  frame = record {
    taken = agree_refl v t (taken_by g u);
    node = λ _. record { nx = refl; pv = refl; tl = refl };
    still = λ _. agree_still (agree_refl v t (tickets_of g));
    clean = λ _ h a c. c;
    below = λ _ a. refl;
  };
  free = v.free u;
}
