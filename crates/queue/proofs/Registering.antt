-- A node is filled and gets the next ticket, on an empty queue or on another. Each keeps the queue's invariant.
-- Assumes nothing.
use Rattle.std.specs.Prelude.{◌≡◌, refl, ◌≢◌, ◌⊎◌, Bool, true, false, ℕ, suc, ◌≤◌, ◌<◌}
use Rattle.std.proofs.Common.{sym, ap, ◌∙◌, inl, inr, arith}
use Rattle.word.specs.Base.{pick}
use Rattle.queue.specs.Updates.{upd, upd_same, upd_other, eq?}
use Rattle.queue.specs.Queue.{Links, link_in, Clean, Queue, Agree, relog}
use Rattle.queue.specs.Queue
use Rattle.queue.specs.Tickets.{Ghost, tickets_of, taken_by, registered, log_below, waiting_apart, parts_register}
use Rattle.queue.specs.Roles.{none, ready, ReadyAt}
use Rattle.queue.specs.Invariant.{St, Inv, moved, Only, fill_links, only_fill}
use Rattle.queue.specs.Invariant.{turned, relinked}
use Rattle.queue.proofs.Steps.{step, turn, role_knows, agree_apart, still_apart, clean_apart}
use Rattle.queue.specs.Tests.{never}

module _ {g : Ghost} {s : St} (v : Inv g s) (t : ℕ) where
  -- a registration that failed
  pub unready : {first : Bool} {n : ℕ} → s.role t ≡ ready first n → Inv g (turned s t none)
  unready {first} {n} e = turn g s v t none w.empty (never refl)
    where
      w : ReadyAt (taken_by g t) s.links (suc t) first n
      w = role_knows v t e

  -- a node that does not wait is nobody's
  pub fill : (first : Bool) (n : ℕ) → s.role t ≡ none → s.wait (suc t) ≡ false
      → Inv g (relinked s t (fill_links s.links (suc t) first n) (ready first n))
  fill first n e f =
      step v t g l' s.wait (ready first n) v.parts
      (Queue.queue_agree off v.queue)
      (record {
        empty = role_knows v t e;
        nx = upd_same s.links.nx (suc t) n;
        pv = upd_same s.links.pv (suc t) 0;
        tl = upd_same s.links.tl (suc t) (pick first (suc t) 0);
      })
      (λ _. f)
      λ u ne. record {
        taken = refl;
        frame = record {
          taken =
              agree_apart v t (taken_by g u) l' (suc t) only
              (λ i a b. waiting_apart v.parts i (suc u) (suc t) (v.parts.held u i a b).1 f);
          node = λ _. only (suc u) (λ z. ne (omega arith));
          still = λ _. still_apart v t l' off;
          clean = λ _. clean_apart v t l' off;
          below = λ _ b. off.nx g.lo (omega arith) b;
        };
        free = v.free u;
      }
    where
      l' : Links
      l' = fill_links s.links (suc t) first n

      only : Only s.links l' (suc t)
      only = only_fill s.links (suc t) first n

      off : Agree (tickets_of g) g.log s.links l'
      off =
          agree_apart v t (tickets_of g) l' (suc t) only
          (λ i a b. waiting_apart v.parts i 0 (suc t) (v.parts.queued i a b) f)

  -- the node gets ticket hi; with its queue, whether it is the first or not, the rest is the same
  join : (first : Bool) (n : ℕ) → s.role t ≡ ready first n → Queue (tickets_of (registered g (suc t))) s.links
      → Inv (registered g (suc t)) (moved s t s.links (upd s.wait (suc t) true) none)
  join first n e q =
      step v t g' s.links (upd s.wait (suc t) true) none
      (parts_register v.parts (suc t) (λ z. omega arith) (v.free t (rw e refl)))
      q
      w.empty
      (never refl)
      λ u ne. record {
        taken = refl;
        frame = record {
          taken = record {
            log = λ i a b. old i (v.parts.held u i a b).0;
            nx = λ i a b. refl;
            pv = λ i a b. refl;
            tl = λ i a b. refl;
          };
          node = λ _. record { nx = refl; pv = refl; tl = refl };
          still =
              λ _. record {
                lo = refl;
                fl = refl;
                hi = omega arith;
                log = λ i a b. old i b;
                back = λ i a b z. rw (old i (omega arith), old (suc i) b) z;
              };
          clean = λ _ h a c i x y. untouched c x y (eq? i g.hi);
          below = λ _ b. refl;
        };
        free = λ f. rw (upd_other s.wait (suc t) true (suc u) (λ z. ne (omega arith))) (v.free u f);
      }
    where
      g' : Ghost
      g' = registered g (suc t)

      w : ReadyAt (taken_by g t) s.links (suc t) first n
      w = role_knows v t e

      old : (i : ℕ) → i < g.hi → upd g.log g.hi (suc t) i ≡ g.log i
      old i h = log_below v.parts (suc t) i h

      untouched : {h i : ℕ} → Clean (tickets_of g) s.links h → h ≤ i → i < suc g.hi → (i ≡ g.hi) ⊎ (i ≢ g.hi)
          → s.links.pv (upd g.log g.hi (suc t) i) ≡ 0
      untouched {h} {i} c x y (inl z) = rw (z, upd_same g.log g.hi (suc t)) w.pv
      untouched {h} {i} c x y (inr ne) = rw (old i (omega arith)) (c i x (omega arith))

  relogged : Queue (relog (tickets_of g) (upd g.log g.hi (suc t))) s.links
  relogged =
      Queue.queue_agree
      (record {
        log = λ i a b. log_below v.parts (suc t) i b;
        nx = λ i a b. refl;
        pv = λ i a b. refl;
        tl = λ i a b. refl;
      }) v.queue

  pub register_first : {n : ℕ} → s.role t ≡ ready true n → g.lo ≡ g.hi
      → Inv (registered g (suc t)) (moved s t s.links (upd s.wait (suc t) true) none)
  register_first {n} e z =
      let w : ReadyAt (taken_by g t) s.links (suc t) true n = role_knows v t e in
      join true n e
      (Queue.first relogged z (rw (upd_same g.log g.hi (suc t)) w.pv)
      (rw (upd_same g.log g.hi (suc t)) w.tl))

  pub register_next : {n : ℕ} (p : ℕ) → s.role t ≡ ready false n → suc p ≡ g.hi → g.lo ≤ p → g.log p ≡ link_in n
      → Inv (registered g (suc t)) (moved s t s.links (upd s.wait (suc t) true) none)
  register_next {n} p e at some is =
      let w : ReadyAt (taken_by g t) s.links (suc t) false n = role_knows v t e in
      join false n e (Queue.grow relogged p (sym at) (omega arith)
      (rw (upd_same g.log g.hi (suc t), log_below v.parts (suc t) p (omega arith))
      (ap link_in w.nx ∙ sym is))
      (rw (upd_same g.log g.hi (suc t)) w.pv)
      (rw (upd_same g.log g.hi (suc t)) w.tl))
