-- One queue of waiters by tickets, and what each store to a link does to it. Ticket i is the i-th registration ever,
-- log i its node; a queue is the tickets lo .. hi - 1, oldest first, and fl a ticket at and above which every tail
-- that is set is right. In this order: what a queue is, who walks it; frame; store of prev; store of a tail;
-- register; set aside; restore. Not here: which thread holds which tickets (Tickets), what a thread knows at its
-- place (Roles).
-- Assumes nothing.
use Rattle.std.specs.Prelude.{◌≡◌, ◌≢◌, ◌⊎◌, ℕ, suc, ◌/◌, ◌≤◌, ◌<◌}
use Rattle.std.proofs.Common.{sym, ◌∙◌, inl, inr, arith}
use Rattle.std.proofs.Math.Decide.{dec_lt}
use Rattle.queue.specs.Updates.{upd, upd_same, upd_other, eq?}

-- next, prev and tail of all nodes; next is a word, and as a link its sixteenth; 0 is none
pub record Links : Type 0 where
  pub nx : ℕ → ℕ
  pub pv : ℕ → ℕ
  pub tl : ℕ → ℕ

abbrev pub link_in : ℕ → ℕ
link_in w = w / 16

abbrev pub set_nx : Links → ℕ → ℕ → Links
set_nx l k x = record { nx = upd l.nx k x; pv = l.pv; tl = l.tl }

abbrev pub set_pv : Links → ℕ → ℕ → Links
set_pv l k x = record { nx = l.nx; pv = upd l.pv k x; tl = l.tl }

abbrev pub set_tl : Links → ℕ → ℕ → Links
set_tl l k x = record { nx = l.nx; pv = l.pv; tl = upd l.tl k x }

pub record Interval : Type 0 where
  pub log : ℕ → ℕ
  pub lo : ℕ
  pub hi : ℕ
  pub fl : ℕ

-- the tickets of a queue have nodes, each its own
pub record Live (q : Interval) : Type 0 where
  pub apart : (i j : ℕ) → q.lo ≤ i → i < q.hi → q.lo ≤ j → j < q.hi → i ≢ j → q.log i ≢ q.log j
  pub some : (i : ℕ) → q.lo ≤ i → i < q.hi → q.log i ≢ 0

-- the backlinks of the tickets a .. b - 1
abbrev pub Back : Interval → Links → ℕ → ℕ → Type 0
Back q l a b = (j : ℕ) → a ≤ j → j < b → l.pv (q.log j) ≡ q.log (suc j)

-- ticket i's node has the tail, and the backlinks below it are there
abbrev pub Set : Interval → Links → ℕ → Type 0
Set q l i = (l.tl (q.log i) ≡ q.log q.lo) × Back q l q.lo i

-- no backlink at ticket h nor above
abbrev pub Clean : Interval → Links → ℕ → Type 0
Clean q l h = (i : ℕ) → h ≤ i → i < q.hi → l.pv (q.log i) ≡ 0

pub record Queue (q : Interval) (l : Links) : Type 0 where
  pub base : q.lo ≤ q.fl
  pub high : q.fl ≤ q.hi
  pub span : q.lo < q.hi → q.fl < q.hi
  pub next : (i : ℕ) → q.lo ≤ i → suc i < q.hi → link_in (l.nx (q.log (suc i))) ≡ q.log i
  pub floor : q.lo < q.hi → Set q l q.fl
  pub valid : (i : ℕ) → q.fl ≤ i → i < q.hi → (l.tl (q.log i) ≡ 0) ⊎ Set q l i
  pub newest : (p : ℕ) → suc p ≡ q.hi → q.lo ≤ p → l.pv (q.log p) ≡ 0

-- a walker that began at ticket h and stands at c
pub record Walker (q : Interval) (l : Links) (h c : ℕ) : Type 0 where
  pub base : q.lo ≤ q.fl
  pub low : q.fl ≤ c
  pub mid : c ≤ h
  pub top : h < q.hi
  pub back : Back q l c h

-- a walker that has found the tail from ticket h
pub record Full (q : Interval) (l : Links) (h : ℕ) : Type 0 where
  pub base : q.lo ≤ q.fl
  pub low : q.fl ≤ h
  pub top : h < q.hi
  pub back : Back q l q.lo h

-- a waker's list from ticket a: oldest first by prev, ending in none
pub record Mine (q : Interval) (l : Links) (a : ℕ) : Type 0 where
  pub back : (j : ℕ) → a ≤ j → suc j < q.hi → l.pv (q.log j) ≡ q.log (suc j)
  pub newest : (p : ℕ) → suc p ≡ q.hi → a ≤ p → l.pv (q.log p) ≡ 0

-- ── frame: links that agree on a queue's nodes ──

pub record Agree (q : Interval) (log' : ℕ → ℕ) (l l' : Links) : Type 0 where
  pub log : (i : ℕ) → q.lo ≤ i → i < q.hi → log' i ≡ q.log i
  pub nx : (i : ℕ) → q.lo ≤ i → i < q.hi → l'.nx (q.log i) ≡ l.nx (q.log i)
  pub pv : (i : ℕ) → q.lo ≤ i → i < q.hi → l'.pv (q.log i) ≡ l.pv (q.log i)
  pub tl : (i : ℕ) → q.lo ≤ i → i < q.hi → l'.tl (q.log i) ≡ l.tl (q.log i)

abbrev pub relog : Interval → (ℕ → ℕ) → Interval
relog q log' = record { log = log'; lo = q.lo; hi = q.hi; fl = q.fl }

module _ {q : Interval} {log' : ℕ → ℕ} {l l' : Links} (s : Agree q log' l l') where
  pv_agree : (i v : ℕ) → q.lo ≤ i → i < q.hi → l.pv (q.log i) ≡ v → l'.pv (log' i) ≡ v
  pv_agree i v a b e = rw (s.log i a b, s.pv i a b) e

  pub back_agree : (a b : ℕ) → q.lo ≤ a → b < q.hi → Back q l a b → Back (relog q log') l' a b
  back_agree a b al bh k j x y =
      pv_agree j _ (omega arith) (omega arith) (k j x y) ∙ sym (s.log (suc j) (omega arith) (omega arith))

  set_agree : (i : ℕ) → q.lo ≤ i → i < q.hi → Set q l i → Set (relog q log') l' i
  set_agree i a b k = (
    rw (s.log i a b, s.tl i a b, s.log q.lo (omega arith) (omega arith)) k.0,
    back_agree q.lo i (omega arith) b k.1,
  )

  pub queue_agree : Queue q l → Queue (relog q log') l'
  queue_agree v = record {
    base = v.base;
    high = v.high;
    span = v.span;
    next =
        λ i a b. rw (
          s.log i (omega arith) (omega arith),
          s.log (suc i) (omega arith) b,
          s.nx (suc i) (omega arith) b,
        ) (v.next i a b);
    floor = λ h. set_agree q.fl v.base (v.span h) (v.floor h);
    valid = λ i a b. go i (omega (arith, v.base)) b (v.valid i a b);
    newest = λ p e a. pv_agree p 0 a (omega arith) (v.newest p e a);
  }
    where
      go : (i : ℕ) → q.lo ≤ i → i < q.hi → (l.tl (q.log i) ≡ 0) ⊎ Set q l i
          → (l'.tl (log' i) ≡ 0) ⊎ Set (relog q log') l' i
      go i a b (inl e) = inl (rw (s.log i a b, s.tl i a b) e)
      go i a b (inr k) = inr (set_agree i a b k)

  pub mine_agree : (a : ℕ) → q.lo ≤ a → Mine q l a → Mine (relog q log') l' a
  mine_agree a x m = record {
    back = λ j y z. pv_agree j _ (omega arith) (omega arith) (m.back j y z) ∙ sym (s.log (suc j) (omega arith) z);
    newest = λ p e y. pv_agree p 0 (omega arith) (omega arith) (m.newest p e y);
  }

module _ {q : Interval} {l : Links} (d : Live q) (v : Queue q l) where
  -- ── store of a right prev: every prev that is right stays so ──

  module _ (j : ℕ) (jl : q.lo ≤ j) (jh : suc j < q.hi) where
    abbrev with_pv : Links
    with_pv = set_pv l (q.log j) (q.log (suc j))

    pv_at : with_pv.pv (q.log j) ≡ q.log (suc j)
    pv_at = upd_same l.pv (q.log j) (q.log (suc j))

    pub pv_other : (i : ℕ) → q.lo ≤ i → i < q.hi → i ≢ j → with_pv.pv (q.log i) ≡ l.pv (q.log i)
    pv_other i a b ne = upd_other l.pv (q.log j) (q.log (suc j)) (q.log i) (d.apart i j a b jl (omega arith) ne)

    pub pv_right : (i : ℕ) → q.lo ≤ i → i < q.hi → l.pv (q.log i) ≡ q.log (suc i)
        → with_pv.pv (q.log i) ≡ q.log (suc i)
    pv_right i a b k = go (eq? i j)
      where
        go : (i ≡ j) ⊎ (i ≢ j) → with_pv.pv (q.log i) ≡ q.log (suc i)
        go (inl e) = rw e pv_at
        go (inr ne) = rw (pv_other i a b ne) k

    pv_back : (a b : ℕ) → q.lo ≤ a → b < q.hi → Back q l a b → Back q with_pv a b
    pv_back a b al bh k i x y = pv_right i (omega arith) (omega arith) (k i x y)

    pv_set : (i : ℕ) → i < q.hi → Set q l i → Set q with_pv i
    pv_set i h s = (s.0, pv_back q.lo i (omega arith) h s.1)

    pub store_pv : Queue q with_pv
    store_pv = record {
      base = v.base;
      high = v.high;
      span = v.span;
      next = v.next;
      floor = λ h. pv_set q.fl (v.span h) (v.floor h);
      valid = λ i a b. go i b (v.valid i a b);
      newest = λ p e a. rw (pv_other p a (omega arith) (λ z. omega arith)) (v.newest p e a);
    }
      where
        go : (i : ℕ) → i < q.hi → (l.tl (q.log i) ≡ 0) ⊎ Set q l i → (l.tl (q.log i) ≡ 0) ⊎ Set q with_pv i
        go i b (inl e) = inl e
        go i b (inr s) = inr (pv_set i b s)

    -- the walker that stored it goes on there
    pub walk_pv : (h : ℕ) → q.fl ≤ j → Walker q l h (suc j) → Walker q with_pv h j
    walk_pv h f w = record {
      base = w.base;
      low = f;
      mid = omega (arith, w.mid);
      top = w.top;
      back = λ i x y. go i x y (eq? i j);
    }
      where
        go : (i : ℕ) → j ≤ i → i < h → (i ≡ j) ⊎ (i ≢ j) → with_pv.pv (q.log i) ≡ q.log (suc i)
        go i x y (inl e) = rw e pv_at
        go i x y (inr ne) = pv_back (suc j) h (omega arith) w.top w.back i (omega arith) y

    -- the nodes above it stay untouched
    pub clean_pv : (h : ℕ) → j < h → Clean q l h → Clean q with_pv h
    clean_pv h k c i x y = rw (pv_other i (omega arith) y (λ e. omega arith)) (c i x y)

  -- ── what a walker reads ──

  -- no tail: it stands above the floor
  pub stands_above : (h c : ℕ) → Walker q l h c → l.tl (q.log c) ≡ 0 → q.fl < c
  stands_above h c w e = go (eq? c q.fl)
    where
      s : q.lo < q.hi
      s = omega (arith, v.base, w.low, w.mid, w.top)

      go : (c ≡ q.fl) ⊎ (c ≢ q.fl) → q.fl < c
      go (inl z) = absurd (d.some q.lo (omega arith) s (sym (v.floor s).0 ∙ (rw z at e)))
      go (inr ne) = omega (arith, w.low)

  -- a tail: it is the oldest, and all the backlinks from there to the head are set
  pub found : (h c : ℕ) → Walker q l h c → l.tl (q.log c) ≢ 0 → (l.tl (q.log c) ≡ q.log q.lo) × Full q l h
  found h c w ne = go (v.valid c w.low (omega (arith, w.mid, w.top)))
    where
      go : (l.tl (q.log c) ≡ 0) ⊎ Set q l c → (l.tl (q.log c) ≡ q.log q.lo) × Full q l h
      go (inl e) = absurd (ne e)
      go (inr s) = (
        s.0,
        record {
          base = w.base;
          low = omega (arith, w.low, w.mid);
          top = w.top;
          back = λ j a b. below j a b (dec_lt j c);
        },
      )
        where
          below : (j : ℕ) → q.lo ≤ j → j < h → Dec (j < c) → l.pv (q.log j) ≡ q.log (suc j)
          below j a b (yes k) = s.1 j a k
          below j a b (no k) = w.back j (omega arith) b

  -- above an owner's head nobody has a tail
  pub bare : (h i : ℕ) → q.fl ≤ h → h < i → i < q.hi → Clean q l h → l.tl (q.log i) ≡ 0
  bare h i f a b c = go (v.valid i (omega arith) b)
    where
      go : (l.tl (q.log i) ≡ 0) ⊎ Set q l i → l.tl (q.log i) ≡ 0
      go (inl e) = e
      go (inr s) =
          absurd (d.some (suc h) (omega (arith, v.base)) (omega arith)
          (sym (s.1 h (omega (arith, v.base)) a) ∙ c h (omega arith) (omega arith)))

  -- ── store of the tail in a head ──

  module _ (h : ℕ) (f : Full q l h) where
    ahead : q.lo ≤ h
    ahead = omega (arith, v.base, f.low)

    abbrev with_tl : ℕ → Links
    with_tl z = set_tl l (q.log h) z

    pub tl_other : (z i : ℕ) → q.lo ≤ i → i < q.hi → i ≢ h → (with_tl z).tl (q.log i) ≡ l.tl (q.log i)
    tl_other z i c k ne = upd_other l.tl (q.log h) z (q.log i) (d.apart i h c k ahead f.top ne)

    pub store_tl : Queue q (with_tl (q.log q.lo))
    store_tl = record {
      base = v.base;
      high = v.high;
      span = v.span;
      next = v.next;
      floor = λ s. tl_set q.fl v.base (v.span s) (eq? q.fl h) (v.floor s);
      valid = λ i x y. tl_valid i (omega (arith, v.base)) y (eq? i h) (v.valid i x y);
      newest = v.newest;
    }
      where
        z : ℕ
        z = q.log q.lo

        tl_set : (i : ℕ) → q.lo ≤ i → i < q.hi → (i ≡ h) ⊎ (i ≢ h) → Set q l i → Set q (with_tl z) i
        tl_set i c k (inl e) g = (rw (e, upd_same l.tl (q.log h) z), g.1)
        tl_set i c k (inr ne) g = (rw (tl_other z i c k ne) g.0, g.1)

        tl_valid : (i : ℕ) → q.lo ≤ i → i < q.hi → (i ≡ h) ⊎ (i ≢ h) → (l.tl (q.log i) ≡ 0) ⊎ Set q l i
            → ((with_tl z).tl (q.log i) ≡ 0) ⊎ Set q (with_tl z) i
        tl_valid i c k (inl e) g = inr (rw (e, upd_same l.tl (q.log h) z), λ j x y. f.back j x (omega arith))
        tl_valid i c k (inr ne) (inl e) = inl (rw (tl_other z i c k ne) e)
        tl_valid i c k (inr ne) (inr g) = inr (tl_set i c k (inr ne) g)

    -- ── set aside: the oldest goes, the head has its predecessor for a tail and is the floor ──

    abbrev pub less : Interval
    less = record { log = q.log; lo = suc q.lo; hi = q.hi; fl = h }

    pub set_aside : q.lo < h → Clean q l h → Queue less (with_tl (q.log (suc q.lo)))
    set_aside a cl = record {
      base = a;
      high = omega (arith, f.top);
      span = λ _. f.top;
      next = λ i x y. v.next i (omega arith) y;
      floor = λ _. (upd_same l.tl (q.log h) z, λ j x y. f.back j (omega arith) y);
      valid = λ i x y. go i x y (eq? i h);
      newest = λ p e x. v.newest p e (omega arith);
    }
      where
        z : ℕ
        z = q.log (suc q.lo)

        go : (i : ℕ) → h ≤ i → i < q.hi → (i ≡ h) ⊎ (i ≢ h) → ((with_tl z).tl (q.log i) ≡ 0) ⊎ Set less (with_tl z) i
        go i x y (inl e) = inr (rw e (upd_same l.tl (q.log h) z), λ j c k. f.back j (omega arith) (omega arith))
        go i x y (inr ne) = inl (rw (tl_other z i (omega arith) y ne) (bare h i f.low (omega arith) y cl))

  -- ── restore: the one set aside comes back, whatever has registered above ──

  abbrev pub more : ℕ → Interval
  more b = record { log = q.log; lo = b; hi = q.hi; fl = q.fl }

  pub restore : (b : ℕ) → suc b ≡ q.lo → q.lo < q.hi → link_in (l.nx (q.log q.lo)) ≡ q.log b
      → l.pv (q.log b) ≡ q.log q.lo
      → Clean q l q.fl → Queue (more b) (set_tl l (q.log q.fl) (q.log b))
  restore b e s ne pe cl = record {
    base = omega (arith, v.base);
    high = v.high;
    span = λ _. v.span s;
    next = λ i x y. next' i x y (eq? i b);
    floor = λ _. (upd_same l.tl (q.log q.fl) (q.log b), λ j x y. back' j x y (eq? j b));
    valid = λ i x y. valid' i x y (eq? i q.fl);
    newest = λ p z x. newest' p z x (eq? p b);
  }
    where
      l' : Links
      l' = set_tl l (q.log q.fl) (q.log b)

      next' : (i : ℕ) → b ≤ i → suc i < q.hi → (i ≡ b) ⊎ (i ≢ b) → link_in (l.nx (q.log (suc i))) ≡ q.log i
      next' i x y (inl z) = rw (z, e) ne
      next' i x y (inr z) = v.next i (omega arith) y

      back' : (j : ℕ) → b ≤ j → j < q.fl → (j ≡ b) ⊎ (j ≢ b) → l.pv (q.log j) ≡ q.log (suc j)
      back' j x y (inl z) = rw (z, e) pe
      back' j x y (inr z) = (v.floor s).1 j (omega arith) y

      valid' : (i : ℕ) → q.fl ≤ i → i < q.hi → (i ≡ q.fl) ⊎ (i ≢ q.fl)
          → (upd l.tl (q.log q.fl) (q.log b) (q.log i) ≡ 0)
          ⊎ ((upd l.tl (q.log q.fl) (q.log b) (q.log i) ≡ q.log b) × Back (more b) l b i)
      valid' i x y (inl z) =
          inr (rw z (upd_same l.tl (q.log q.fl) (q.log b)), λ j c k. back' j c (omega arith) (eq? j b))
      valid' i x y (inr z) =
          inl (rw (upd_other l.tl (q.log q.fl) (q.log b) (q.log i)
          (d.apart i q.fl (omega (arith, v.base)) y v.base (v.span s) z))
          (bare q.fl i (omega arith) (omega arith) y cl))

      newest' : (p : ℕ) → suc p ≡ q.hi → b ≤ p → (p ≡ b) ⊎ (p ≢ b) → l.pv (q.log p) ≡ 0
      newest' p z x (inl w) = absurd (omega arith)
      newest' p z x (inr w) = v.newest p z (omega arith)

-- ── register: the node of ticket hi becomes the newest ──

module _ {q : Interval} {l : Links} (v : Queue q l) where
  abbrev pub grown : Interval
  grown = record { log = q.log; lo = q.lo; hi = suc q.hi; fl = q.fl }

  -- on a queue
  pub grow : (p : ℕ) → q.hi ≡ suc p → q.lo < q.hi → link_in (l.nx (q.log q.hi)) ≡ q.log p
      → l.pv (q.log q.hi) ≡ 0
      → l.tl (q.log q.hi) ≡ 0 → Queue grown l
  grow p at s ne pe te = record {
    base = v.base;
    high = omega (arith, v.high);
    span = λ _. omega (arith, v.high);
    next = λ i x y. next' i x y (eq? i p);
    floor = λ _. v.floor s;
    valid = λ i x y. valid' i x y (eq? i q.hi);
    newest = λ i z x. rw (sucs i z) pe;
  }
    where
      sucs : (i : ℕ) → suc i ≡ suc q.hi → i ≡ q.hi
      sucs i z = omega arith

      next' : (i : ℕ) → q.lo ≤ i → suc i < suc q.hi → (i ≡ p) ⊎ (i ≢ p) → link_in (l.nx (q.log (suc i))) ≡ q.log i
      next' i x y (inl z) = rw (z, ← at) ne
      next' i x y (inr z) = v.next i x (omega arith)

      valid' : (i : ℕ) → q.fl ≤ i → i < suc q.hi → (i ≡ q.hi) ⊎ (i ≢ q.hi) → (l.tl (q.log i) ≡ 0) ⊎ Set q l i
      valid' i x y (inl z) = inl (rw z te)
      valid' i x y (inr z) = v.valid i x (omega arith)

  -- the first
  pub first : q.lo ≡ q.hi → l.pv (q.log q.hi) ≡ 0 → l.tl (q.log q.hi) ≡ q.log q.hi → Queue grown l
  first e pe te = record {
    base = v.base;
    high = omega (arith, v.high);
    span = λ _. omega (arith, v.high);
    next = λ i x y. absurd (omega arith);
    floor = λ _. set q.fl (omega (arith, v.base, v.high));
    valid = λ i x y. inr (set i (omega (arith, v.base)));
    newest = λ i z x. rw (sucs i z) pe;
  }
    where
      sucs : (i : ℕ) → suc i ≡ suc q.hi → i ≡ q.hi
      sucs i z = omega arith

      set : (i : ℕ) → i ≡ q.hi → Set grown l i
      set i z = (rw (z, e) te, λ j x y. absurd (omega arith))

-- ── nobody waits ──

pub empty_queue : (log : ℕ → ℕ) (n : ℕ) (l : Links) → Queue (record { log = log; lo = n; hi = n; fl = n }) l
empty_queue log n l = record {
  base = omega arith;
  high = omega arith;
  span = λ s. absurd (omega arith);
  next = λ i a b. absurd (omega arith);
  floor = λ s. absurd (omega arith);
  valid = λ i a b. absurd (omega arith);
  newest = λ p e a. absurd (omega arith);
}
