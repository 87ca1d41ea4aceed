-- What is taken off the queue: the oldest set aside, committed or restored; all of it; and its completing, one by
-- one. Each keeps the queue's invariant.
-- Assumes nothing.
use Rattle.std.specs.Prelude.{◌≡◌, refl, ◌≢◌, ◌⊎◌, false, ℕ, suc, ◌≤◌, ◌<◌}
use Rattle.std.proofs.Common.{sym, ap, ◌∙◌, subst, inl, inr, arith}
use Rattle.queue.specs.Tests.{never}
use Rattle.queue.specs.Updates.{upd, upd_same, upd_other, eq?}
use Rattle.queue.specs.Queue.{Queue, Full, set_tl}
use Rattle.queue.specs.Queue
use Rattle.queue.specs.Tickets.{Ghost, tickets_of, span_interval, taken_by, Held, asided, oldest_span, restored}
use Rattle.queue.specs.Tickets.{empty_span, took, whole_span, completed, rest_span, parts_aside, parts_restore}
use Rattle.queue.specs.Tickets.{parts_take, parts_complete}
use Rattle.queue.specs.Roles.{changes, alone, Role, none, walk, head, split, aside, undo, wake, store, filled}
use Rattle.queue.specs.Roles.{WalkAt, HeadAt, SplitAt, AsideAt, UndoAt, WakeAt, StoreAt, Know}
use Rattle.queue.proofs.Frames.{agree_still}
use Rattle.queue.specs.Invariant.{St, Inv, moved, Lonely, only_tl, Spared}
use Rattle.queue.specs.Invariant.{turned, relinked, lonely_quiet}
use Rattle.queue.proofs.Steps.{step, turn, role_knows, live, agree_refl, spared_queue}

module _ {g : Ghost} {s : St} (v : Inv g s) (t : ℕ) where
  -- ── set aside, commit, restore ──

  -- the owner loads the tail's prev: set, it may split (none: it takes all, and knows what it knew)
  pub load_split : {hd tail : ℕ} → s.role t ≡ head changes hd tail → s.links.pv tail ≢ 0
      → Inv g (turned s t (split hd tail (s.links.pv tail)))
  load_split {hd} {tail} e z = turn g s v t (split hd tail (s.links.pv tail)) (go (eq? g.lo w.h)) (never refl)
    where
      w : HeadAt changes (tickets_of g) (taken_by g t) s.links hd tail
      w = role_knows v t e

      go : (g.lo ≡ w.h) ⊎ (g.lo ≢ w.h) → SplitAt (tickets_of g) (taken_by g t) s.links hd tail (s.links.pv tail)
      go (inl y) = absurd (z (rw (← w.ist, y) (w.over w.h (omega arith) w.way.top)))
      go (inr ne) =
          let f : Full (tickets_of g) s.links w.h = w.way in
          record {
            it = w;
            more = omega arith;
            isp = rw (← w.ist) (sym (w.way.back g.lo (omega arith) (omega arith)));
          }

  -- a split that succeeds moves no link and no ticket
  pub commit : {hd tail : ℕ} → s.role t ≡ aside hd tail → Inv g (turned s t (store tail 0))
  commit {hd} {tail} e = turn g s v t (store tail 0) it (never refl)
    where
      w : AsideAt (tickets_of g) (taken_by g t) s.links hd tail
      w = role_knows v t e

      it : StoreAt (taken_by g t) s.links tail 0
      it = record {
        some = omega (arith, w.one, w.end);
        isc = w.ist;
        rest = inl (omega (arith, w.one, w.end), refl);
        mine = record {
          back = λ j x y. absurd (omega (arith, w.one, w.end));
          newest = λ p z x. absurd (omega (arith, w.one, w.end));
        };
      }

  -- a split that fails is reported the newest node
  pub fail : {hd tail rp : ℕ} (p : ℕ) → s.role t ≡ aside hd tail → suc p ≡ g.hi → g.log p ≡ rp
      → Inv g (turned s t (undo hd tail rp))
  fail {hd} {tail} {rp} p e at is =
      turn g s v t (undo hd tail rp)
      (record { it = w; r = p; isr = is; low = omega (arith, w.top); top = omega arith }) (never refl)
    where
      w : AsideAt (tickets_of g) (taken_by g t) s.links hd tail
      w = role_knows v t e

  -- the owner stores prev in its head; tk hd is the head's ticket
  pub set_aside : {hd tail prev : ℕ} → s.role t ≡ split hd tail prev → Lonely s t
      → Inv (asided g t (g.tk hd)) (relinked s t (set_tl s.links hd prev) (aside hd tail))
  set_aside {hd} {tail} {prev} e lone =
      subst (λ z. Inv (asided g t z) (relinked s t (set_tl s.links hd prev) (aside hd tail)))
      (sym (ap g.tk (sym w.it.ish) ∙ hj.tk))
      (step v t (asided g t h) (set_tl s.links hd prev) s.wait (aside hd tail)
      (parts_aside v.parts t h (omega (arith, w.more, f.top)) w.it.footing)
      (rw (w.it.ish, w.isp) at (Queue.set_aside (live v t) v.queue h f w.more w.it.over))
      (rw (upd_same g.taken t (oldest_span g)) it) (never refl)
      λ u ne. spared_queue v t hj (rw w.it.ish (only_tl s.links hd prev))
      (asided g t h) refl u ne (λ z. omega arith) (upd_other g.taken t (oldest_span g) u ne) (never (lone u ne))
      (never (lonely_quiet s t lone u ne)) (never (lonely_quiet s t lone u ne)))
    where
      w : SplitAt (tickets_of g) (taken_by g t) s.links hd tail prev
      w = role_knows v t e

      h : ℕ
      h = w.it.h

      f : Full (tickets_of g) s.links h
      f = w.it.way

      hj : Held g s.wait 0 h
      hj = v.parts.queued h (omega (arith, f.base, f.low)) f.top

      it : AsideAt (tickets_of (asided g t h)) (span_interval g.log (oldest_span g)) (set_tl s.links hd prev) hd tail
      it = record {
        one = refl;
        end = refl;
        ish = w.it.ish;
        ist = w.it.ist;
        base = w.more;
        top = f.top;
        nxt = v.queue.next g.lo (omega arith) (omega (arith, w.more, f.top));
        prv = f.back g.lo (omega arith) w.more;
        clean = w.it.over;
      }

  -- the old head's tail is restored, and the walk goes on from the reported node
  pub restore : {hd tail rp : ℕ} → s.role t ≡ undo hd tail rp → Lonely s t
      → Inv (restored g t (g.taken t).beg) (relinked s t (set_tl s.links hd tail) (walk changes rp rp))
  restore {hd} {tail} {rp} e lone =
      step v t (restored g t b) (set_tl s.links hd tail) s.wait (walk changes rp rp)
      (parts_restore v.parts t b a.one refl a.end)
      (rw (a.ish, a.ist)
      at (Queue.restore (live v t) v.queue b a.one (omega (arith, a.base, a.top)) a.nxt a.prv
      a.clean)) (rw (upd_same g.taken t (empty_span b)) it) (never refl)
      λ u ne. spared_queue v t (v.parts.queued g.fl a.base a.top)
      (rw a.ish (only_tl s.links hd tail)) (restored g t b) refl u ne (λ z. omega arith)
      (upd_other g.taken t (empty_span b) u ne) (never (lone u ne))
      (never (lonely_quiet s t lone u ne)) (never (lonely_quiet s t lone u ne))
    where
      b : ℕ
      b = (g.taken t).beg

      w : UndoAt (tickets_of g) (taken_by g t) s.links hd tail rp
      w = role_knows v t e

      a : AsideAt (tickets_of g) (taken_by g t) s.links hd tail
      a = w.it

      it : WalkAt changes (tickets_of (restored g t b)) (span_interval g.log (empty_span b))
          (set_tl s.links hd tail) rp rp
      it = record {
        h = w.r;
        c = w.r;
        ish = w.isr;
        isc = w.isr;
        way = record {
          base = omega (arith, a.one, a.base);
          low = w.low;
          mid = omega arith;
          top = w.top;
          back = λ j x y. absurd (omega arith);
        };
        footing = omega arith;
        over = λ i x y. a.clean i (omega (arith, w.low)) y;
      }

  -- ── take ──

  -- others hold what they held, and none of them is on the queue
  spared_take : Lonely s t → (u : ℕ) → u ≢ t → Spared g (took g t) s s.links s.wait u
  spared_take lone u ne = record {
    taken = upd_other g.taken t (whole_span g) u ne;
    frame = record {
      taken = agree_refl v t (taken_by g u);
      node = λ _. record { nx = refl; pv = refl; tl = refl };
      still = never (lone u ne);
      clean = never (lonely_quiet s t lone u ne);
      below = never (lonely_quiet s t lone u ne);
    };
    free = v.free u;
  }

  -- the owner, whose head is the newest, takes all
  pub take : {hd tail : ℕ} (p : ℕ) → s.role t ≡ head changes hd tail → Lonely s t → suc p ≡ g.hi → g.log p ≡ hd
      → Inv (took g t) (turned s t (wake tail))
  take {hd} {tail} p e lone at is =
      step v t (took g t) s.links s.wait (wake tail) (parts_take v.parts t w.footing)
      (Queue.empty_queue g.log g.hi s.links) (rw (upd_same g.taken t (whole_span g)) it) (never refl)
      (spared_take lone)
    where
      w : HeadAt changes (tickets_of g) (taken_by g t) s.links hd tail
      w = role_knows v t e

      f : Full (tickets_of g) s.links w.h
      f = w.way

      top : w.h ≡ p
      top = go (eq? w.h p)
        where
          go : (w.h ≡ p) ⊎ (w.h ≢ p) → w.h ≡ p
          go (inl z) = z
          go (inr ne) =
              absurd ((live v t).apart w.h p (omega (arith, f.base, f.low)) f.top
              (omega (arith, f.base, f.low, f.top)) (omega arith) ne (w.ish ∙ sym is))

      it : WakeAt (span_interval g.log (whole_span g)) s.links tail
      it = record {
        some = omega (arith, f.base, f.low, f.top);
        isc = w.ist;
        mine = record { back = λ j a b. f.back j a (omega (arith, top)); newest = λ i z a. v.queue.newest i z a };
      }

  -- a downgrade takes all, newest first, and walks it alone
  pub take_alone : {hd : ℕ} (p : ℕ) → s.role t ≡ none → Lonely s t → suc p ≡ g.hi → g.lo ≤ p → g.log p ≡ hd
      → Inv (took g t) (turned s t (walk alone hd hd))
  take_alone {hd} p e lone at some is =
      step v t (took g t) s.links s.wait (walk alone hd hd) (parts_take v.parts t (role_knows v t e))
      (Queue.empty_queue g.log g.hi s.links) (rw (upd_same g.taken t (whole_span g)) it) (never refl)
      (spared_take lone)
    where
      it : WalkAt alone (tickets_of (took g t)) (span_interval g.log (whole_span g)) s.links hd hd
      it = record {
        h = p;
        c = p;
        ish = is;
        isc = is;
        way = record {
          base = v.queue.base;
          low = omega (arith, v.queue.span (omega arith));
          mid = omega arith;
          top = omega arith;
          back = λ j x y. absurd (omega arith);
        };
        footing = v.queue;
        over = at;
      }

  -- ── wake ──

  pub load_wake : {cu : ℕ} → s.role t ≡ wake cu → Inv g (turned s t (store cu (s.links.pv cu)))
  load_wake {cu} e =
      turn g s v t (store cu (s.links.pv cu))
      (record {
        some = w.some;
        isc = w.isc;
        rest = go (eq? (suc a) b);
        mine = record {
          back = λ j x y. w.mine.back j (omega arith) y;
          newest = λ p z x. w.mine.newest p z (omega arith);
        };
      })
      (never refl)
    where
      a : ℕ
      a = (g.taken t).beg

      b : ℕ
      b = (g.taken t).end

      w : WakeAt (taken_by g t) s.links cu
      w = role_knows v t e

      go : (suc a ≡ b) ⊎ (suc a ≢ b)
          → ((suc a ≡ b) × (s.links.pv cu ≡ 0)) ⊎ ((suc a < b) × (g.log (suc a) ≡ s.links.pv cu))
      go (inl z) = inl (z, rw (← w.isc) (w.mine.newest a z (omega arith)))
      go (inr ne) =
          inr (
            omega (arith, w.some),
            rw (← w.isc) (sym (w.mine.back a (omega arith) (omega (arith, w.some)))),
          )

  completing : (cu : ℕ) → (g.taken t).beg < (g.taken t).end → g.log (g.taken t).beg ≡ cu → (r : Role)
      → filled r ≡ false
      → Know (tickets_of g) (span_interval g.log (rest_span g t)) s.links t r
      → Inv (completed g t) (moved s t s.links (upd s.wait cu false) r)
  completing cu some is r nf k =
      step v t (completed g t) s.links (upd s.wait cu false) r
      (rw is at (parts_complete v.parts t some))
      v.queue
      (rw (upd_same g.taken t (rest_span g t)) k)
      (never nf)
      λ u ne. record {
        taken = upd_other g.taken t (rest_span g t) u ne;
        frame = record {
          taken = agree_refl v t (taken_by g u);
          node = λ _. record { nx = refl; pv = refl; tl = refl };
          still = λ _. agree_still (agree_refl v t (tickets_of g));
          clean = λ _ h a c. c;
          below = λ _ b. refl;
        };
        free = λ f. stays (suc u) (v.free u f) (eq? (suc u) cu);
      }
    where
      stays : (k : ℕ) → s.wait k ≡ false → (k ≡ cu) ⊎ (k ≢ cu) → upd s.wait cu false k ≡ false
      stays k f (inl z) = rw (z, upd_same s.wait cu false)
      stays k f (inr ne) = rw (upd_other s.wait cu false k ne) f

  pub complete_more : {cu prev : ℕ} → s.role t ≡ store cu prev → prev ≢ 0
      → Inv (completed g t) (moved s t s.links (upd s.wait cu false) (wake prev))
  complete_more {cu} {prev} e nz = completing cu w.some w.isc (wake prev) refl (go w.rest)
    where
      w : StoreAt (taken_by g t) s.links cu prev
      w = role_knows v t e

      go : ((suc (g.taken t).beg ≡ (g.taken t).end) × (prev ≡ 0))
          ⊎ ((suc (g.taken t).beg < (g.taken t).end) × (g.log (suc (g.taken t).beg) ≡ prev))
          → WakeAt (span_interval g.log (rest_span g t)) s.links prev
      go (inl z) = absurd (nz z.1)
      go (inr z) = record { some = z.0; isc = z.1; mine = record { back = w.mine.back; newest = w.mine.newest } }

  pub complete_last : {cu : ℕ} → s.role t ≡ store cu 0
      → Inv (completed g t) (moved s t s.links (upd s.wait cu false) none)
  complete_last {cu} e = completing cu w.some w.isc none refl (go w.rest)
    where
      w : StoreAt (taken_by g t) s.links cu 0
      w = role_knows v t e

      go : ((suc (g.taken t).beg ≡ (g.taken t).end) × (◌≡◌ {A = ℕ} 0 0))
          ⊎ ((suc (g.taken t).beg < (g.taken t).end) × (g.log (suc (g.taken t).beg) ≡ 0))
          → (g.taken t).end ≤ suc (g.taken t).beg
      go (inl z) = omega arith
      go (inr z) = absurd ((v.parts.held t (suc (g.taken t).beg) (omega arith) z.0).1.some z.1)
