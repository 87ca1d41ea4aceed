-- What another thread's step leaves alone, a thread goes on knowing: every role's knowledge under a `Frame`.
-- Assumes nothing.
use Rattle.std.specs.Prelude.{◌≡◌, refl, ◌⊎◌, true, ℕ, suc, ◌≤◌, ◌<◌}
use Rattle.std.proofs.Common.{ap, ◌∙◌, inl, inr, arith}
use Rattle.queue.specs.Queue.{Links, link_in, Interval, Back, Walker, Full, Agree, relog}
use Rattle.queue.specs.Queue.{queue_agree, mine_agree}
use Rattle.queue.specs.Roles.{WalkKind, Role, public, modifies, walked_on, Ground, Over, WalkAt, PastAt}
use Rattle.queue.specs.Roles.{LinkAt, HeadAt, SplitAt, AsideAt, UndoAt, WakeAt, StoreAt, Know, Still, KeepsClean}
use Rattle.queue.specs.Roles.{Untouched, Frame, looks, changes, alone, none, ready, walk, past, link, head, split}
use Rattle.queue.specs.Roles.{aside, undo, wake, store}

module _ {x x' : Interval} {l l' : Links} (s : Still x x' l l') where
  back_still : (a b : ℕ) → x.lo ≤ a → b < x.hi → Back x l a b → Back x' l' a b
  back_still a b al bh k j y z = s.back j (omega arith) (omega arith) (k j y z)

  walk_still : (h c : ℕ) → Walker x l h c → Walker x' l' h c
  walk_still h c w = record {
    base = omega arith;
    low = omega arith;
    mid = w.mid;
    top = omega arith;
    back = back_still c h (omega arith) w.top w.back;
  }

  full_still : (h : ℕ) → Full x l h → Full x' l' h
  full_still h w = record {
    base = omega arith;
    low = omega arith;
    top = omega arith;
    back = λ j y z. back_still x.lo h (omega arith) w.top w.back j (omega arith) z;
  }

  log_still : (i v : ℕ) → x.lo ≤ i → i < x.hi → x.log i ≡ v → x'.log i ≡ v
  log_still i v a b e = s.log i a b ∙ e

  lo_still : (v : ℕ) → x.lo < x.hi → x.log x.lo ≡ v → x'.log x'.lo ≡ v
  lo_still v a e = rw s.lo (log_still x.lo v (omega arith) a e)

pub agree_still : {p : Interval} {log' : ℕ → ℕ} {l l' : Links} → Agree p log' l l' → Still p (relog p log') l l'
agree_still a = record {
  lo = refl;
  fl = refl;
  hi = omega arith;
  log = a.log;
  back = λ i x y e. rw (a.log i x (omega arith), a.log (suc i) (omega arith) y, a.pv i x (omega arith)) e;
}

-- what it has taken off
module _ {p : Interval} {log' : ℕ → ℕ} {l l' : Links} (mine : Agree p log' l l') where
  ground_on : (k : WalkKind) → Ground k p l → Ground k (relog p log') l'
  ground_on looks e = e
  ground_on changes e = e
  ground_on alone v = queue_agree mine v

  wake_frame : (cu : ℕ) → WakeAt p l cu → WakeAt (relog p log') l' cu
  wake_frame cu w = record {
    some = w.some;
    isc = mine.log p.lo (omega arith) w.some ∙ w.isc;
    mine = mine_agree mine p.lo (omega arith) w.mine;
  }

  store_frame : (cu prev : ℕ) → StoreAt p l cu prev → StoreAt (relog p log') l' cu prev
  store_frame cu prev w = record {
    some = w.some;
    isc = mine.log p.lo (omega arith) w.some ∙ w.isc;
    rest = go w.rest;
    mine = mine_agree mine (suc p.lo) (omega arith) w.mine;
  }
    where
      go : ((suc p.lo ≡ p.hi) × (prev ≡ 0)) ⊎ ((suc p.lo < p.hi) × (p.log (suc p.lo) ≡ prev))
          → ((suc p.lo ≡ p.hi) × (prev ≡ 0)) ⊎ ((suc p.lo < p.hi) × (log' (suc p.lo) ≡ prev))
      go (inl z) = inl z
      go (inr z) = inr (z.0, mine.log (suc p.lo) (omega arith) z.0 ∙ z.1)

-- a walker's, whatever its kind
module _ {q q' p : Interval} {log' : ℕ → ℕ} {l l' : Links} (mine : Agree p log' l l') (k : WalkKind)
    (st : public k ≡ true → Still q q' l l') (cl : modifies k ≡ true → KeepsClean q q' l l') where
  s : Still (walked_on k q p) (walked_on k q' (relog p log')) l l'
  s = by k st
    where
      by : (k : WalkKind) → (public k ≡ true → Still q q' l l')
          → Still (walked_on k q p) (walked_on k q' (relog p log')) l l'
      by looks st = st refl
      by changes st = st refl
      by alone st = agree_still mine

  over_on : (h : ℕ) → (walked_on k q p).fl ≤ h → Over k (walked_on k q p) l h
      → Over k (walked_on k q' (relog p log')) l' h
  over_on = by k cl
    where
      by : (k : WalkKind) → (modifies k ≡ true → KeepsClean q q' l l') → (h : ℕ) → (walked_on k q p).fl ≤ h
          → Over k (walked_on k q p) l h
          → Over k (walked_on k q' (relog p log')) l' h
      by looks cl h a o = tt
      by changes cl h a o = cl refl h a o
      by alone cl h a o = o

  log_on : (i v : ℕ) → (walked_on k q p).lo ≤ i → i < (walked_on k q p).hi → (walked_on k q p).log i ≡ v
      → (walked_on k q' (relog p log')).log i ≡ v
  log_on = log_still s

  walk_frame : (hd cu : ℕ) → WalkAt k q p l hd cu → WalkAt k q' (relog p log') l' hd cu
  walk_frame hd cu w =
      let y : Walker (walked_on k q p) l w.h w.c = w.way in
      record {
        h = w.h;
        c = w.c;
        ish = log_on w.h hd (omega arith) (omega arith) w.ish;
        isc = log_on w.c cu (omega arith) (omega arith) w.isc;
        way = walk_still s w.h w.c w.way;
        footing = ground_on mine k w.footing;
        over = over_on w.h (omega arith) w.over;
      }

  past_frame : (hd cu : ℕ) → PastAt k q p l hd cu → PastAt k q' (relog p log') l' hd cu
  past_frame hd cu w =
      let y : Walker (walked_on k q p) l w.h (suc w.d) = w.way in
      record {
        h = w.h;
        d = w.d;
        ish = log_on w.h hd (omega arith) (omega arith) w.ish;
        isc = log_on (suc w.d) cu (omega arith) (omega arith) w.isc;
        low = omega (arith, s.fl, w.low);
        way = walk_still s w.h (suc w.d) w.way;
        footing = ground_on mine k w.footing;
        over = over_on w.h (omega arith) w.over;
      }

  link_frame : (hd cu nn : ℕ) → LinkAt k q p l hd cu nn → LinkAt k q' (relog p log') l' hd cu nn
  unfolding past_frame
  link_frame hd cu nn w =
      let y : Walker (walked_on k q p) l w.past.h (suc w.past.d) = w.past.way in
      record {
        past = past_frame hd cu w.past;
        isn = log_on w.past.d nn (omega (arith, w.past.low)) (omega arith) w.isn;
      }

  head_frame : (hd tail : ℕ) → HeadAt k q p l hd tail → HeadAt k q' (relog p log') l' hd tail
  head_frame hd tail w =
      let y : Full (walked_on k q p) l w.h = w.way in
      record {
        h = w.h;
        ish = log_on w.h hd (omega arith) (omega arith) w.ish;
        ist = lo_still s tail (omega arith) w.ist;
        way = full_still s w.h w.way;
        footing = ground_on mine k w.footing;
        over = over_on w.h (omega arith) w.over;
      }

-- the changing owner's
module _ {q q' p : Interval} {log' : ℕ → ℕ} {l l' : Links} (mine : Agree p log' l l') (s : Still q q' l l')
    (cl : KeepsClean q q' l l') where
  split_frame : (hd tail prev : ℕ) → SplitAt q p l hd tail prev → SplitAt q' (relog p log') l' hd tail prev
  unfolding head_frame
  split_frame hd tail prev w =
      let y : Full q l w.it.h = w.it.way in
      record {
        it = head_frame mine changes (λ _. s) (λ _. cl) hd tail w.it;
        more = omega (arith, s.lo, w.more);
        isp = rw s.lo (log_still s (suc q.lo) prev (omega arith) (omega (arith, w.more)) w.isp);
      }

  aside_frame : (hd tail : ℕ) → (q.lo < q.hi → l'.nx (q.log q.lo) ≡ l.nx (q.log q.lo))
      → AsideAt q p l hd tail → AsideAt q' (relog p log') l' hd tail
  aside_frame hd tail e w =
      let a : log' p.lo ≡ p.log p.lo = mine.log p.lo (omega arith) (omega arith) in
      let b : q'.log q.lo ≡ q.log q.lo = s.log q.lo (omega arith) (omega arith) in
      record {
        one = omega (arith, s.lo, w.one);
        end = omega (arith, s.lo, w.end);
        ish = rw s.fl (log_still s q.fl hd w.base w.top w.ish);
        ist = a ∙ w.ist;
        base = omega arith;
        top = omega arith;
        nxt = rw (s.lo, b, a) (ap link_in (e (omega arith)) ∙ w.nxt);
        prv = rw (s.lo, a, b) (mine.pv p.lo (omega arith) (omega arith) ∙ w.prv);
        clean = rw s.fl (cl q.fl (omega arith) w.clean);
      }

  undo_frame : (hd tail rp : ℕ) → (q.lo < q.hi → l'.nx (q.log q.lo) ≡ l.nx (q.log q.lo))
      → UndoAt q p l hd tail rp → UndoAt q' (relog p log') l' hd tail rp
  undo_frame hd tail rp e w = record {
    it = aside_frame hd tail e w.it;
    r = w.r;
    isr = log_still s w.r rp (omega (arith, w.it.base, w.low)) w.top w.isr;
    low = omega (arith, s.fl, w.low);
    top = omega (arith, s.hi, w.top);
  }

pub know_frame : {q q' p : Interval} {log' : ℕ → ℕ} {l l' : Links} {t : ℕ} (r : Role) → Frame q q' p log' l l' t r
    → Know q p l t r → Know q' (relog p log') l' t r
know_frame none f w = w
know_frame {l} {l'} {t} (ready b v) f w =
    let u : Untouched l l' (suc t) = f.node refl in
    record { empty = w.empty; nx = u.nx ∙ w.nx; pv = u.pv ∙ w.pv; tl = u.tl ∙ w.tl }
know_frame (walk k hd cu) f w = walk_frame f.taken k f.still f.clean hd cu w
know_frame (past k hd cu) f w = past_frame f.taken k f.still f.clean hd cu w
know_frame (link k hd cu nn) f w = link_frame f.taken k f.still f.clean hd cu nn w
know_frame (head k hd tail) f w = head_frame f.taken k f.still f.clean hd tail w
know_frame (split hd tail prev) f w = split_frame f.taken (f.still refl) (f.clean refl) hd tail prev w
know_frame (aside hd tail) f w = aside_frame f.taken (f.still refl) (f.clean refl) hd tail (f.below refl) w
know_frame (undo hd tail rp) f w = undo_frame f.taken (f.still refl) (f.clean refl) hd tail rp (f.below refl) w
know_frame (wake cu) f w = wake_frame f.taken cu w
know_frame (store cu prev) f w = store_frame f.taken cu prev w
