-- Who holds which tickets: the queue the interval lo .. hi - 1, each thread an interval that it took off, all apart,
-- and their nodes the waiting ones. In this order: the ghost, what it must satisfy, nodes that differ; then the five
-- ways in which tickets pass on: register, set aside, restore, take, complete. A thread that has set the oldest aside
-- holds it already; a split that succeeds moves no ticket. Not here: links (Queue).
-- Assumes nothing.
use Rattle.std.specs.Prelude.{◌≡◌, ◌≢◌, ◌⊎◌, Bool, true, false, ℕ, suc, ◌≤◌, ◌<◌, eqb}
use Rattle.std.proofs.Common.{sym, ap, ◌∙◌, inl, inr, arith, ne_eqb}
use Rattle.std.proofs.lemmas.Bool.{false≢true}
use Rattle.word.specs.Base.{pick}
use Rattle.queue.specs.Updates.{upd, upd_same, upd_other, upd_cases, eq?}
use Rattle.queue.specs.Queue.{Interval, Live}

-- what a thread has taken off: tickets beg .. end - 1, and the floor of its tails
pub record Span : Type 0 where
  pub beg : ℕ
  pub end : ℕ
  pub flo : ℕ

-- ticket i's node, a node's last ticket, who holds ticket i (0 the queue, t + 1 thread t); the queue; what the
-- threads have taken
pub record Ghost : Type 0 where
  pub log : ℕ → ℕ
  pub tk : ℕ → ℕ
  pub own : ℕ → ℕ
  pub lo : ℕ
  pub hi : ℕ
  pub fl : ℕ
  pub taken : ℕ → Span

abbrev pub tickets_of : Ghost → Interval
tickets_of g = record { log = g.log; lo = g.lo; hi = g.hi; fl = g.fl }

abbrev pub span_interval : (ℕ → ℕ) → Span → Interval
span_interval log s = record { log = log; lo = s.beg; hi = s.end; fl = s.flo }

abbrev pub taken_by : Ghost → ℕ → Interval
taken_by g t = span_interval g.log (g.taken t)

-- ticket i is held by o, and its node waits
pub record Held (g : Ghost) (wait : ℕ → Bool) (o i : ℕ) : Type 0 where
  pub own : g.own i ≡ o
  pub tk : g.tk (g.log i) ≡ i
  pub some : g.log i ≢ 0
  pub waits : wait (g.log i) ≡ true

abbrev pub WithThread : (ℕ → Span) → ℕ → Type 0
WithThread f i = (t : ℕ) × ((f t).beg ≤ i) × (i < (f t).end)

-- ticket i is in the queue or with a thread
abbrev pub Somewhere : Ghost → ℕ → Type 0
Somewhere g i = ((g.lo ≤ i) × (i < g.hi)) ⊎ WithThread g.taken i

abbrev pub HeldBy : Ghost → (ℕ → Bool) → ℕ → Span → Type 0
HeldBy g wait t s = (i : ℕ) → s.beg ≤ i → i < s.end → (i < g.hi) × Held g wait (suc t) i

pub record Parts (g : Ghost) (wait : ℕ → Bool) : Type 0 where
  pub order : g.lo ≤ g.hi
  pub queued : (i : ℕ) → g.lo ≤ i → i < g.hi → Held g wait 0 i
  pub held : (t : ℕ) → HeldBy g wait t (g.taken t)
  pub cover : (k : ℕ) → wait k ≡ true → (g.log (g.tk k) ≡ k) × Somewhere g (g.tk k)

-- ── the five ways in which tickets pass on ──

-- node k gets ticket hi
abbrev pub registered : Ghost → ℕ → Ghost
registered g k = record {
  log = upd g.log g.hi k;
  tk = upd g.tk k g.hi;
  own = upd g.own g.hi 0;
  lo = g.lo;
  hi = suc g.hi;
  fl = g.fl;
  taken = g.taken;
}

abbrev pub oldest_span : Ghost → Span
oldest_span g = record { beg = g.lo; end = suc g.lo; flo = g.lo }

-- thread t gets the oldest; the floor becomes h
abbrev pub asided : Ghost → ℕ → ℕ → Ghost
asided g t h = record {
  log = g.log;
  tk = g.tk;
  own = upd g.own g.lo (suc t);
  lo = suc g.lo;
  hi = g.hi;
  fl = h;
  taken = upd g.taken t (oldest_span g);
}

abbrev pub empty_span : ℕ → Span
empty_span b = record { beg = b; end = b; flo = b }

-- what thread t holds, ticket b, goes back
abbrev pub restored : Ghost → ℕ → ℕ → Ghost
restored g t b = record {
  log = g.log;
  tk = g.tk;
  own = upd g.own b 0;
  lo = b;
  hi = g.hi;
  fl = g.fl;
  taken = upd g.taken t (empty_span b);
}

abbrev pub whole_span : Ghost → Span
whole_span g = record { beg = g.lo; end = g.hi; flo = g.fl }

-- thread t gets the whole queue
abbrev pub took : Ghost → ℕ → Ghost
took g t = record {
  log = g.log;
  tk = g.tk;
  own = λ i. pick (eqb (g.own i) 0) (suc t) (g.own i);
  lo = g.hi;
  hi = g.hi;
  fl = g.hi;
  taken = upd g.taken t (whole_span g);
}

abbrev pub rest_span : Ghost → ℕ → Span
rest_span g t = record { beg = suc (g.taken t).beg; end = (g.taken t).end; flo = (g.taken t).flo }

-- thread t's oldest no longer waits
abbrev pub completed : Ghost → ℕ → Ghost
completed g t = record {
  log = g.log;
  tk = g.tk;
  own = g.own;
  lo = g.lo;
  hi = g.hi;
  fl = g.fl;
  taken = upd g.taken t (rest_span g t);
}

-- thread t's interval is replaced
module _ (f : ℕ → Span) (t : ℕ) (s : Span) (i : ℕ) where
  among_new : s.beg ≤ i → i < s.end → WithThread (upd f t s) i
  among_new a b = (t, rw (upd_same f t s) a, rw (upd_same f t s) b)

  among_old : {A : Type 0} → (WithThread (upd f t s) i → A) → ((f t).beg ≤ i → i < (f t).end → A) → WithThread f i → A
  among_old {A = A} there here x = go (eq? x.0 t)
    where
      go : (x.0 ≡ t) ⊎ (x.0 ≢ t) → A
      go (inl e) = here (rw e at x.1) (rw e at x.2)
      go (inr ne) = there (x.0, rw (upd_other f t s x.0 ne) x.1, rw (upd_other f t s x.0 ne) x.2)

module _ {g : Ghost} {wait : ℕ → Bool} (v : Parts g wait) where
  -- ── nodes that differ ──

  pub tickets_apart : (i j a b : ℕ) → Held g wait a i → Held g wait b j → i ≢ j → g.log i ≢ g.log j
  tickets_apart i j a b x y ne e = ne (sym x.tk ∙ ap g.tk e ∙ y.tk)

  pub owners_apart : (i j a b : ℕ) → Held g wait a i → Held g wait b j → a ≢ b → g.log i ≢ g.log j
  owners_apart i j a b x y ne e = ne (sym x.own ∙ ap g.own (sym x.tk ∙ ap g.tk e ∙ y.tk) ∙ y.own)

  pub waiting_apart : (i o k : ℕ) → Held g wait o i → wait k ≡ false → g.log i ≢ k
  waiting_apart i o k x e z = false≢true (sym e ∙ ap wait (sym z) ∙ x.waits)

  pub live_queue : Live (tickets_of g)
  live_queue = record {
    apart = λ i j a b c d ne. tickets_apart i j 0 0 (v.queued i a b) (v.queued j c d) ne;
    some = λ i a b. (v.queued i a b).some;
  }

  pub live_taken : (t : ℕ) → Live (taken_by g t)
  live_taken t = record {
    apart = λ i j a b c d ne. tickets_apart i j (suc t) (suc t) (v.held t i a b).1 (v.held t j c d).1 ne;
    some = λ i a b. (v.held t i a b).1.some;
  }

  -- ── register: node k gets ticket hi ──

  pub log_below : (k i : ℕ) → i < g.hi → (registered g k).log i ≡ g.log i
  log_below k i h = upd_other g.log g.hi k i (λ e. omega arith)

  pub parts_register : (k : ℕ) → k ≢ 0 → wait k ≡ false → Parts (registered g k) (upd wait k true)
  parts_register k nz e = record {
    order = omega (arith, v.order);
    queued = λ i a b. queued' i a (eq? i g.hi) b;
    held =
        λ t i a b. let x : (i < g.hi) × Held g wait (suc t) i = v.held t i a b in
        (omega arith, keep (suc t) i x.0 x.1);
    cover = λ j w. cover' j (eq? j k) w;
  }
    where
      keep : (o i : ℕ) → i < g.hi → Held g wait o i → Held (registered g k) (upd wait k true) o i
      keep o i h x = record {
        own = rw (upd_other g.own g.hi 0 i (λ z. omega arith)) x.own;
        tk = rw (log_below k i h, upd_other g.tk k g.hi (g.log i) (waiting_apart i o k x e)) x.tk;
        some = rw (log_below k i h) x.some;
        waits = rw (log_below k i h, upd_other wait k true (g.log i) (waiting_apart i o k x e)) x.waits;
      }

      queued' : (i : ℕ) → g.lo ≤ i → (i ≡ g.hi) ⊎ (i ≢ g.hi) → i < suc g.hi
          → Held (registered g k) (upd wait k true) 0 i
      queued' i a (inl z) b = record {
        own = rw (z, upd_same g.own g.hi 0);
        tk = rw (z, upd_same g.log g.hi k, upd_same g.tk k g.hi);
        some = rw (z, upd_same g.log g.hi k) nz;
        waits = rw (z, upd_same g.log g.hi k, upd_same wait k true);
      }
      queued' i a (inr ne) b = keep 0 i (omega arith) (v.queued i a (omega arith))

      where' : (i : ℕ) → Somewhere g i → (i < g.hi) × Somewhere (registered g k) i
      where' i (inl x) = (x.1, inl (x.0, omega arith))
      where' i (inr x) = ((v.held x.0 i x.1 x.2).0, inr x)

      cover' : (j : ℕ) → (j ≡ k) ⊎ (j ≢ k) → upd wait k true j ≡ true
          → ((registered g k).log ((registered g k).tk j) ≡ j) × Somewhere (registered g k) ((registered g k).tk j)
      cover' j (inl z) w = rw (z, upd_same g.tk k g.hi) (upd_same g.log g.hi k, inl (v.order, omega arith))
      cover' j (inr ne) w =
          let c : (g.log (g.tk j) ≡ j) × Somewhere g (g.tk j) = v.cover j (rw (upd_other wait k true j ne) at w) in
          let x : (g.tk j < g.hi) × Somewhere (registered g k) (g.tk j) = where' (g.tk j) c.1 in
          rw (upd_other g.tk k g.hi j ne) (log_below k (g.tk j) x.0 ∙ c.0, x.1)

  module _ (t : ℕ) where
    -- what another thread holds is not the queue's, nor t's
    not_zero : (u : ℕ) → suc u ≢ 0
    not_zero u e = omega arith

    -- ── set aside: thread t gets the oldest; the floor becomes h ──

    pub parts_aside : (h : ℕ) → g.lo < g.hi → (g.taken t).end ≤ (g.taken t).beg → Parts (asided g t h) wait
    parts_aside h s none = record {
      order = s;
      queued = λ i a b. keep 0 i (λ e. omega arith) (v.queued i (omega arith) b);
      held = upd_cases (HeldBy (asided g t h) wait) g.taken t (oldest_span g)
          (λ i a b. (omega arith, it i (omega arith)))
          (λ u ne i a b. let x : (i < g.hi) × Held g wait (suc u) i = v.held u i a b in
          (x.0, keep (suc u) i (other u i x.1) x.1));
      cover = λ k w. ((v.cover k w).0, somewhere (g.tk k) (v.cover k w).1);
    }
      where
        keep : (o i : ℕ) → i ≢ g.lo → Held g wait o i → Held (asided g t h) wait o i
        keep o i ne x = record {
          own = rw (upd_other g.own g.lo (suc t) i ne) x.own;
          tk = x.tk;
          some = x.some;
          waits = x.waits;
        }

        other : (u i : ℕ) → Held g wait (suc u) i → i ≢ g.lo
        other u i x e = not_zero u (sym x.own ∙ rw e (v.queued g.lo (omega arith) s).own)

        it : (i : ℕ) → i ≡ g.lo → Held (asided g t h) wait (suc t) i
        it i e =
            let x : Held g wait 0 g.lo = v.queued g.lo (omega arith) s in
            record {
              own = rw (e, upd_same g.own g.lo (suc t));
              tk = rw e x.tk;
              some = rw e x.some;
              waits = rw e x.waits;
            }

        somewhere : (i : ℕ) → Somewhere g i → Somewhere (asided g t h) i
        somewhere i (inl x) = go (eq? i g.lo)
          where
            go : (i ≡ g.lo) ⊎ (i ≢ g.lo) → Somewhere (asided g t h) i
            go (inl e) = inr (among_new g.taken t (oldest_span g) i (omega arith) (omega arith))
            go (inr ne) = inl (omega arith, x.1)
        somewhere i (inr x) = among_old g.taken t (oldest_span g) i (λ y. inr y) (λ a b. absurd (omega arith)) x

    -- ── restore: ticket b, all that thread t holds, goes back ──

    pub parts_restore : (b : ℕ) → suc b ≡ g.lo → (g.taken t).beg ≡ b → (g.taken t).end ≡ g.lo
        → Parts (restored g t b) wait
    parts_restore b eb e₁ e₂ = record {
      order = omega (arith, v.order);
      queued = λ i a k. queued' i a k (eq? i b);
      held = upd_cases (HeldBy (restored g t b) wait) g.taken t (empty_span b)
          (λ i a k. absurd (omega arith))
          (λ u ne i a k. let x : (i < g.hi) × Held g wait (suc u) i = v.held u i a k in
          (x.0, keep (suc u) i (other u ne i x.1) x.1));
      cover = λ k w. ((v.cover k w).0, somewhere (g.tk k) (v.cover k w).1);
    }
      where
        it : Held g wait (suc t) b
        it = (v.held t b (omega arith) (omega arith)).1

        keep : (o i : ℕ) → i ≢ b → Held g wait o i → Held (restored g t b) wait o i
        keep o i ne x = record {
          own = rw (upd_other g.own b 0 i ne) x.own;
          tk = x.tk;
          some = x.some;
          waits = x.waits;
        }

        other : (u : ℕ) → u ≢ t → (i : ℕ) → Held g wait (suc u) i → i ≢ b
        other u ne i x e = ne (pull (sym x.own ∙ rw e it.own))
          where
            pull : suc u ≡ suc t → u ≡ t
            pull z = omega arith

        queued' : (i : ℕ) → b ≤ i → i < g.hi → (i ≡ b) ⊎ (i ≢ b) → Held (restored g t b) wait 0 i
        queued' i a k (inl e) = record {
          own = rw (e, upd_same g.own b 0);
          tk = rw e it.tk;
          some = rw e it.some;
          waits = rw e it.waits;
        }
        queued' i a k (inr ne) = keep 0 i ne (v.queued i (omega arith) k)

        somewhere : (i : ℕ) → Somewhere g i → Somewhere (restored g t b) i
        somewhere i (inl x) = inl (omega arith, x.1)
        somewhere i (inr x) =
            among_old g.taken t (empty_span b) i (λ y. inr y)
            (λ a k. inl (omega arith, omega (arith, (v.held t i a k).0))) x

    -- ── take: thread t gets the whole queue ──

    pub parts_take : (g.taken t).end ≤ (g.taken t).beg → Parts (took g t) wait
    parts_take none = record {
      order = omega arith;
      queued = λ i a b. absurd (omega arith);
      held = upd_cases (HeldBy (took g t) wait) g.taken t (whole_span g)
          (λ i a b. (b, it i (v.queued i a b)))
          (λ u ne i a b. let x : (i < g.hi) × Held g wait (suc u) i = v.held u i a b in (x.0, keep u i x.1));
      cover = λ k w. ((v.cover k w).0, somewhere (g.tk k) (v.cover k w).1);
    }
      where
        it : (i : ℕ) → Held g wait 0 i → Held (took g t) wait (suc t) i
        it i x = record { own = rw x.own; tk = x.tk; some = x.some; waits = x.waits }

        keep : (u i : ℕ) → Held g wait (suc u) i → Held (took g t) wait (suc u) i
        keep u i x = record {
          own = rw (x.own, ne_eqb (suc u) 0 (not_zero u));
          tk = x.tk;
          some = x.some;
          waits = x.waits;
        }

        somewhere : (i : ℕ) → Somewhere g i → Somewhere (took g t) i
        somewhere i (inl x) = inr (among_new g.taken t (whole_span g) i x.0 x.1)
        somewhere i (inr x) = among_old g.taken t (whole_span g) i (λ y. inr y) (λ a b. absurd (omega arith)) x

    -- ── complete: thread t's oldest no longer waits ──

    pub parts_complete : (g.taken t).beg < (g.taken t).end
        → Parts (completed g t) (upd wait (g.log (g.taken t).beg) false)
    parts_complete s = record {
      order = v.order;
      queued =
          λ i a b. keep 0 i (owners_apart i at 0 (suc t) (v.queued i a b) it (λ e. omega arith)) (v.queued i a b);
      held = upd_cases (HeldBy (completed g t) wait') g.taken t (rest_span g t)
          (λ i a b. let x : (i < g.hi) × Held g wait (suc t) i = v.held t i (omega arith) b in
          (x.0, keep (suc t) i (tickets_apart i at (suc t) (suc t) x.1 it (λ e. omega arith)) x.1))
          (λ u ne i a b. let x : (i < g.hi) × Held g wait (suc u) i = v.held u i a b in
          (x.0, keep (suc u) i (owners_apart i at (suc u) (suc t) x.1 it (λ e. ne (omega arith))) x.1));
      cover = λ k w. cover' k (eq? k (g.log at)) w;
    }
      where
        at : ℕ
        at = (g.taken t).beg

        wait' : ℕ → Bool
        wait' = upd wait (g.log at) false

        it : Held g wait (suc t) at
        it = (v.held t at (omega arith) s).1

        keep : (o i : ℕ) → g.log i ≢ g.log at → Held g wait o i → Held (completed g t) wait' o i
        keep o i ne x = record {
          own = x.own;
          tk = x.tk;
          some = x.some;
          waits = rw (upd_other wait (g.log at) false (g.log i) ne) x.waits;
        }

        somewhere : (i : ℕ) → i ≢ at → Somewhere g i → Somewhere (completed g t) i
        somewhere i ne (inl x) = inl x
        somewhere i ne (inr x) =
            among_old g.taken t (rest_span g t) i (λ y. inr y)
            (λ a b. inr (among_new g.taken t (rest_span g t) i (omega arith) b)) x

        cover' : (k : ℕ) → (k ≡ g.log at) ⊎ (k ≢ g.log at) → wait' k ≡ true
            → (g.log (g.tk k) ≡ k) × Somewhere (completed g t) (g.tk k)
        cover' k (inl e) w = absurd (false≢true (sym (upd_same wait (g.log at) false) ∙ (rw e at w)))
        cover' k (inr ne) w =
            let c = v.cover k (rw (upd_other wait (g.log at) false k ne) at w) in
            (c.0, somewhere (g.tk k) (λ e. ne (sym c.0 ∙ ap g.log e)) c.1)
