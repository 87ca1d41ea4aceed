-- A walk on the queue, or on what a downgrade has taken: begin, the loads, the stores of prev and of the tail; a
-- contended reader's subtraction. Each keeps the queue's invariant.
-- Assumes nothing.
use Rattle.std.specs.Prelude.{◌≡◌, refl, ◌≢◌, true, false, ℕ, suc, pred, ◌≤◌, ◌<◌}
use Rattle.std.proofs.Common.{sym, ap, ◌∙◌, subst, subst₂, arith}
use Rattle.std.proofs.lemmas.Bool.{false≢true}
use Rattle.queue.specs.Tests.{never}
use Rattle.queue.specs.Updates.{upd_other}
use Rattle.queue.specs.Queue.{Links, link_in, Interval, Live, Queue, Walker, Full, set_nx, set_pv, set_tl}
use Rattle.queue.specs.Queue
use Rattle.queue.specs.Tickets.{Ghost, tickets_of, taken_by, Held, live_taken}
use Rattle.queue.specs.Roles.{WalkKind, looks, changes, alone, Role, none, walk, past, link, head, wake, public}
use Rattle.queue.specs.Roles.{filled, Ground, Over, WalkAt, PastAt, LinkAt, HeadAt, Know}
use Rattle.queue.specs.Invariant.{St, Inv, Quiet, Only, only_nx, only_pv, only_tl}
use Rattle.queue.specs.Invariant.{turned, relinked}
use Rattle.queue.specs.Invariant.{walked_by}
use Rattle.queue.proofs.Steps.{step, turn, role_knows, live, live_on, queue_on, queue_apart, spared_queue, spared_own}

module _ {g : Ghost} {s : St} (v : Inv g s) (t : ℕ) where
  pub begin : (k : WalkKind) → public k ≡ true → (hd p : ℕ) → s.role t ≡ none → suc p ≡ g.hi → g.lo ≤ p
      → g.log p ≡ hd
      → Inv g (turned s t (walk k hd hd))
  begin k pk hd p e at some is = turn g s v t (walk k hd hd) (it k pk) (never refl)
    where
      w : Walker (tickets_of g) s.links p p
      w = record {
        base = v.queue.base;
        low = omega (arith, v.queue.span (omega arith));
        mid = omega arith;
        top = omega arith;
        back = λ j a b. absurd (omega arith);
      }

      it : (k : WalkKind) → public k ≡ true → WalkAt k (tickets_of g) (taken_by g t) s.links hd hd
      it looks _ = record { h = p; c = p; ish = is; isc = is; way = w; footing = role_knows v t e; over = tt }
      it changes _ = record {
        h = p;
        c = p;
        ish = is;
        isc = is;
        way = w;
        footing = role_knows v t e;
        over = λ i a b. let z : i ≡ p = omega arith in rw z (v.queue.newest p at some);
      }
      it alone x = absurd (false≢true x)

  pub load_none : {k : WalkKind} {hd cu : ℕ} → s.role t ≡ walk k hd cu → s.links.tl cu ≡ 0
      → Inv g (turned s t (past k hd cu))
  load_none {k} {hd} {cu} e z = turn g s v t (past k hd cu) (it (pred w.c) (omega (arith, up))) (never refl)
    where
      x : Interval
      x = walked_by k g t

      w : WalkAt k (tickets_of g) (taken_by g t) s.links hd cu
      w = role_knows v t e

      up : x.fl < w.c
      up = Queue.stands_above (live_on v t k) (queue_on v t k w.footing) w.h w.c w.way (rw w.isc z)

      it : (d : ℕ) → w.c ≡ suc d → PastAt k (tickets_of g) (taken_by g t) s.links hd cu
      it d y = record {
        h = w.h;
        d = d;
        ish = w.ish;
        isc = rw (← y) w.isc;
        low = omega (arith, up);
        way = rw y at w.way;
        footing = w.footing;
        over = w.over;
      }

  pub load_tail : {k : WalkKind} {hd cu : ℕ} → s.role t ≡ walk k hd cu → s.links.tl cu ≢ 0
      → Inv g (turned s t (head k hd (s.links.tl cu)))
  load_tail {k} {hd} {cu} e z = turn g s v t (head k hd (s.links.tl cu)) it (never refl)
    where
      x : Interval
      x = walked_by k g t

      w : WalkAt k (tickets_of g) (taken_by g t) s.links hd cu
      w = role_knows v t e

      y : (s.links.tl (x.log w.c) ≡ x.log x.lo) × Full x s.links w.h
      y = Queue.found (live_on v t k) (queue_on v t k w.footing) w.h w.c w.way (rw w.isc z)

      it : HeadAt k (tickets_of g) (taken_by g t) s.links hd (s.links.tl cu)
      it = record {
        h = w.h;
        ish = w.ish;
        ist = rw (← w.isc) (sym y.0);
        way = y.1;
        footing = w.footing;
        over = w.over;
      }

  pub load_next : {k : WalkKind} {hd cu : ℕ} → s.role t ≡ past k hd cu
      → Inv g (turned s t (link k hd cu (link_in (s.links.nx cu))))
  load_next {k} {hd} {cu} e =
      turn g s v t (link k hd cu (link_in (s.links.nx cu))) (record { past = w; isn = it }) (never refl)
    where
      w : PastAt k (tickets_of g) (taken_by g t) s.links hd cu
      w = role_knows v t e

      it : (walked_by k g t).log w.d ≡ link_in (s.links.nx cu)
      it =
          let y : Walker (walked_by k g t) s.links w.h (suc w.d) = w.way in
          sym ((queue_on v t k w.footing).next w.d (omega (arith, w.low)) (omega arith))
          ∙ ap (λ z. link_in (s.links.nx z)) w.isc

  -- an owner that sees hands off only looks
  pub ease : {hd cu : ℕ} → s.role t ≡ walk changes hd cu → Inv g (turned s t (walk looks hd cu))
  ease {hd} {cu} e =
      turn g s v t (walk looks hd cu)
      (record { h = w.h; c = w.c; ish = w.ish; isc = w.isc; way = w.way; footing = w.footing; over = tt })
      (never refl)
    where
      w : WalkAt changes (tickets_of g) (taken_by g t) s.links hd cu
      w = role_knows v t e

  -- who has found the tail may leave it at that
  pub leave : {k : WalkKind} {hd tail : ℕ} → public k ≡ true → s.role t ≡ head k hd tail → Inv g (turned s t none)
  leave {k} {hd} {tail} pk e = turn g s v t none (it k pk (role_knows v t e)) (never refl)
    where
      it : (k : WalkKind) → public k ≡ true → HeadAt k (tickets_of g) (taken_by g t) s.links hd tail
          → (g.taken t).end ≤ (g.taken t).beg
      it looks _ w = w.footing
      it changes _ w = w.footing
      it alone x w = absurd (false≢true x)

  -- a walker stores the prev of the node that it goes on to
  abbrev backlinked : ℕ → Links
  backlinked d = set_pv s.links (g.log d) (g.log (suc d))

  prev_public : (k : WalkKind) (hd d : ℕ) → g.lo ≤ d → suc d < g.hi → Quiet s t
      → WalkAt k (tickets_of g) (taken_by g t) (backlinked d) hd (g.log d)
      → Inv g (relinked s t (backlinked d) (walk k hd (g.log d)))
  prev_public k hd d dl dh qt w =
      step v t g (backlinked d) s.wait (walk k hd (g.log d)) v.parts
      (Queue.store_pv (live v t) v.queue d dl dh) w (never refl) λ u ne.
      spared_queue v t (v.parts.queued d dl (omega arith)) (only_pv s.links (g.log d) (g.log (suc d))) g refl
      u ne
      (λ e. omega arith) refl
      (λ _. record {
        lo = refl;
        fl = refl;
        hi = omega arith;
        log = λ i a b. refl;
        back = λ i a b e. Queue.pv_right (live v t) v.queue d dl dh i a (omega arith) e;
      })
      (never (qt u ne)) (never (qt u ne))

  prev_on : (k : WalkKind) (hd h d : ℕ) → (walked_by k g t).log h ≡ hd → (walked_by k g t).fl ≤ d
      → Walker (walked_by k g t) s.links h (suc d) → Ground k (taken_by g t) s.links
      → Over k (walked_by k g t) s.links h → (public k ≡ true → Quiet s t)
      → Inv g (relinked s t (backlinked d) (walk k hd (g.log d)))
  prev_on looks hd h d ish low w gr ov qt =
      let dl : g.lo ≤ d = omega arith in
      let dh : suc d < g.hi = omega arith in
      prev_public looks hd d dl dh (qt refl) (record {
        h = h;
        c = d;
        ish = ish;
        isc = refl;
        way = Queue.walk_pv (live v t) v.queue d dl dh h low w;
        footing = gr;
        over = tt;
      })
  prev_on changes hd h d ish low w gr ov qt =
      let dl : g.lo ≤ d = omega arith in
      let dh : suc d < g.hi = omega arith in
      prev_public changes hd d dl dh (qt refl) (record {
        h = h;
        c = d;
        ish = ish;
        isc = refl;
        way = Queue.walk_pv (live v t) v.queue d dl dh h low w;
        footing = gr;
        over = Queue.clean_pv (live v t) v.queue d dl dh h (omega arith) ov;
      })
  prev_on alone hd h d ish low w gr ov qt =
      let dl : (g.taken t).beg ≤ d = omega arith in
      let dh : suc d < (g.taken t).end = omega arith in
      let mine : Held g s.wait (suc t) d = (v.parts.held t d dl (omega arith)).1 in
      let lv : Live (taken_by g t) = live_taken v.parts t in
      let there : Only s.links (backlinked d) (g.log d) = only_pv s.links (g.log d) (g.log (suc d)) in
      step v t g (backlinked d) s.wait (walk alone hd (g.log d)) v.parts
      (Queue.queue_agree (queue_apart v t mine there (λ z. omega arith)) v.queue)
      (record {
        h = h;
        c = d;
        ish = ish;
        isc = refl;
        way = Queue.walk_pv lv gr d dl dh h low w;
        footing = Queue.store_pv lv gr d dl dh;
        over = ov;
      }) (never refl) (spared_own v t mine there refl)

  pub store_prev : {k : WalkKind} {hd cu nn : ℕ} → s.role t ≡ link k hd cu nn → (public k ≡ true → Quiet s t)
      → Inv g (relinked s t (set_pv s.links nn cu) (walk k hd nn))
  store_prev {k} {hd} {cu} {nn} e qt =
      subst₂ (λ n c. Inv g (relinked s t (set_pv s.links n c) (walk k hd n))) (log_on k w.past.d ∙ w.isn)
      (log_on k (suc w.past.d) ∙ w.past.isc)
      (prev_on k hd w.past.h w.past.d w.past.ish w.past.low w.past.way w.past.footing
      w.past.over qt)
    where
      w : LinkAt k (tickets_of g) (taken_by g t) s.links hd cu nn
      w = role_knows v t e

      log_on : (k : WalkKind) (i : ℕ) → g.log i ≡ (walked_by k g t).log i
      log_on looks i = refl
      log_on changes i = refl
      log_on alone i = refl

  full_tl : (x : Interval) (h k n : ℕ) → Full x s.links h → Full x (set_tl s.links k n) h
  full_tl x h k n f = record { base = f.base; low = f.low; top = f.top; back = f.back }

  -- nobody but the walkers that load it notices a tail
  tail_on : (l' : Links) (h : ℕ) (z : ℕ) → l' ≡ set_tl s.links (g.log h) z → g.lo ≤ h → h < g.hi
      → Queue (tickets_of g) l' → (r : Role)
      → Know (tickets_of g) (taken_by g t) l' t r → filled r ≡ false → Inv g (relinked s t l' r)
  tail_on l' h z el a b q r k f = step v t g l' s.wait r v.parts q k (never f) λ u ne.
      spared_queue v t (v.parts.queued h a b) (rw el (only_tl s.links (g.log h) z)) g refl u ne
      (λ e. omega arith) refl
      (λ _. record { lo = refl; fl = refl; hi = omega arith; log = λ i x y. refl; back = λ i x y e. rw el e })
      (λ _ i x c j y o. rw el (c j y o))
      (λ _. rw el refl)

  pub store_tail : {k : WalkKind} {hd tail : ℕ} → public k ≡ true → s.role t ≡ head k hd tail
      → Inv g (relinked s t (set_tl s.links hd tail) (head k hd tail))
  store_tail {k} {hd} {tail} pk e = go k pk (role_knows v t e)
    where
      go : (k : WalkKind) → public k ≡ true → HeadAt k (tickets_of g) (taken_by g t) s.links hd tail
          → Inv g (relinked s t (set_tl s.links hd tail) (head k hd tail))
      go looks _ w =
          let f : Full (tickets_of g) s.links w.h = w.way in
          tail_on (set_tl s.links hd tail) w.h tail (rw w.ish) (omega arith) (omega arith)
          (rw (w.ish, w.ist) at (Queue.store_tl (live v t) v.queue w.h f)) (head looks hd tail)
          (record {
            h = w.h;
            ish = w.ish;
            ist = w.ist;
            way = full_tl (tickets_of g) w.h hd tail f;
            footing = w.footing;
            over = tt;
          }) refl
      go changes _ w =
          let f : Full (tickets_of g) s.links w.h = w.way in
          tail_on (set_tl s.links hd tail) w.h tail (rw w.ish) (omega arith) (omega arith)
          (rw (w.ish, w.ist) at (Queue.store_tl (live v t) v.queue w.h f)) (head changes hd tail)
          (record {
            h = w.h;
            ish = w.ish;
            ist = w.ist;
            way = full_tl (tickets_of g) w.h hd tail f;
            footing = w.footing;
            over = w.over;
          }) refl
      go alone x w = absurd (false≢true x)

  -- the downgrade's walk ends: it has its list, oldest first
  pub store_alone : {hd tail : ℕ} → s.role t ≡ head alone hd tail
      → Inv g (relinked s t (set_tl s.links hd tail) (wake tail))
  store_alone {hd} {tail} e =
      let f : Full (taken_by g t) s.links w.h = w.way in
      let hj : Held g s.wait (suc t) w.h = (v.parts.held t w.h (omega arith) (omega arith)).1 in
      let on' : Only s.links (set_tl s.links hd tail) (g.log w.h) = rw w.ish (only_tl s.links hd tail) in
      step v t g (set_tl s.links hd tail) s.wait (wake tail) v.parts
      (Queue.queue_agree (queue_apart v t hj on' (λ z. omega arith))
      v.queue)
      (record {
        some = omega arith;
        isc = w.ist;
        mine = record {
          back = λ j a b. f.back j a (omega (arith, w.over));
          newest = λ p z a. w.footing.newest p z a;
        };
      })
      (never refl)
      (spared_own v t hj on' refl)
    where
      w : HeadAt alone (tickets_of g) (taken_by g t) s.links hd tail
      w = role_knows v t e

  -- a contended reader subtracts: the oldest's next is nobody's link
  pub subtract : {hd tail : ℕ} (n : ℕ) → s.role t ≡ head looks hd tail → Quiet s t
      → Inv g (relinked s t (set_nx s.links tail n) none)
  subtract {hd} {tail} n e qt =
      let f : Full (tickets_of g) s.links w.h = w.way in
      let hj : Held g s.wait 0 g.lo = v.parts.queued g.lo (omega arith) (omega arith) in
      subst (λ x. Inv g (relinked s t (set_nx s.links x n) none)) w.ist
      (step v t g (set_nx s.links (g.log g.lo) n) s.wait none v.parts queue' w.footing (never refl)
      λ u ne.
      spared_queue v t hj (only_nx s.links (g.log g.lo) n) g
      refl u ne (λ z. omega arith) refl
      (λ _. record { lo = refl; fl = refl; hi = omega arith; log = λ i x y. refl; back = λ i x y z. z })
      (λ _ i x c. c)
      (never (qt u ne)))
    where
      w : HeadAt looks (tickets_of g) (taken_by g t) s.links hd tail
      w = role_knows v t e

      queue' : Queue (tickets_of g) (set_nx s.links (g.log g.lo) n)
      queue' =
          let q : Queue (tickets_of g) s.links = v.queue in
          record {
            base = q.base;
            high = q.high;
            span = q.span;
            next =
                λ i a b. rw (upd_other s.links.nx (g.log g.lo) n (g.log (suc i))
                ((live v t).apart (suc i) g.lo (omega arith) b (omega arith) (omega arith) (λ z. omega arith)))
                (q.next i a b);
            floor = q.floor;
            valid = q.valid;
            newest = q.newest;
          }
