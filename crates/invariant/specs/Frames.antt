-- The invariant after one thread has moved on: what must be shown where the word changes, where it stays, and where
-- the tickets stay too. In this order: the queue's view of such a machine; `land`; `glide`; `stay`. Not here: any
-- place (the files by subject).
-- Assumes nothing.
use Rattle.std.specs.Prelude.{ℕ, zero, suc, ◌+◌, ◌*◌, ◌<◌, Bool, true, false, not, ◌≢◌, ◌⊎◌, ◌≡◌, refl}
use Rattle.std.proofs.Common.{inl, inr, sym, ap, ◌∙◌, subst, arith}
use Rattle.std.proofs.Math.Path.{fun_ext}
use Rattle.word.specs.Base.{pick}
use Rattle.word.specs.Flags.{SINGLE, locked, queued, queue_locked, downgraded, to_node}
use Rattle.word.specs.declared.flags.Word.{Word}
use Rattle.state.specs.Holding.{reads_of, writes_of}
use Rattle.state.specs.declared.machine.Thread.{Thread}
use Rattle.state.specs.declared.node.Node.{Node}
use Rattle.queue.specs.Updates.{upd, upd_same, upd_other, upd_cases, map_upd, eq?}
use Rattle.queue.specs.Sums.{sum, sum_upd}
use Rattle.queue.specs.Tickets.{Ghost}
use Rattle.queue.specs.Queue.{Links}
use Rattle.queue.specs.Roles.{filled}
use Rattle.queue.specs.Invariant as Q
use Rattle.invariant.specs.Table.{hands_off, about, Lock, about_at, links_of, wait_of, Allowed, weight, leaver}
use Rattle.invariant.specs.Invariant.{readers, writers, leavers, Count, Real, Responsible, contends, called}
use Rattle.invariant.specs.Invariant.{wakes, Newest, queue_of, Inv}

-- thread t has become x, the word w, the nodes nd
abbrev pub moved : Lock → ℕ → Word → Thread → (ℕ → Node) → Lock
moved s t w x nd = record { word = w; th = upd s.th t x; nd = nd }

-- ── the queue's view ──

module _ (s : Lock) (t : ℕ) (x : Thread) (nd : ℕ → Node) where
  -- which nodes wait then
  pub waits_as : (wait : ℕ → Bool) → false ≡ wait 0
      → pick (about x.place).registered (not (nd (suc t)).completed) false ≡ wait (suc t)
      → ((u : ℕ) → u ≢ t → pick (about_at s u).registered (not (nd (suc u)).completed) false ≡ wait (suc u))
      → wait_of (upd s.th t x) nd ≡ wait
  waits_as wait none own others = fun_ext λ k. at k
    where
      at : (k : ℕ) → wait_of (upd s.th t x) nd k ≡ wait k
      at zero = none
      at (suc u) =
          upd_cases (λ u y. pick (about y.place).registered (not (nd (suc u)).completed) false ≡ wait (suc u))
          s.th t x own others u

  pub view : (w : Word) (l : Links) (wait : ℕ → Bool) → links_of nd ≡ l → wait_of (upd s.th t x) nd ≡ wait
      → queue_of (moved s t w x nd) ≡ Q.moved (queue_of s) t l wait (about x.place).role
  view w l wait e f =
      λ i. record { links = e i; wait = f i; role = map_upd (λ y. (about y.place).role) s.th t x i }

  -- so the queue's step is the lock's
  pub viewed : {g : Ghost} (w : Word) (l : Links) (wait : ℕ → Bool) → links_of nd ≡ l
      → wait_of (upd s.th t x) nd ≡ wait
      → Q.Inv g (Q.moved (queue_of s) t l wait (about x.place).role) → Q.Inv g (queue_of (moved s t w x nd))
  viewed {g} w l wait e f q = subst (λ z. Q.Inv g z) (sym (view w l wait e f)) q

  -- a sum over the threads, after t became x
  pub summed : (n : ℕ) → t < n → (f : Thread → ℕ)
      → sum n (λ u. f (upd s.th t x u)) + f (s.th t) ≡ sum n (λ u. f (s.th u)) + f x
  summed n l f = sum_upd n f s.th t x l

-- where no node changes, and the thread is registered if it was
pub viewed_still : (s : Lock) (t : ℕ) (x : Thread) {g : Ghost} (w : Word)
    → (about x.place).registered ≡ (about_at s t).registered → Q.Inv g (Q.turned (queue_of s) t (about x.place).role)
    → Q.Inv g (queue_of (moved s t w x s.nd))
viewed_still s t x w same =
    viewed s t x s.nd w (links_of s.nd) (wait_of s.th s.nd) refl
    (waits_as s t x s.nd (wait_of s.th s.nd) refl (rw same) (λ u ne. refl))

-- another word of the same node
pub same_newest : {g : Ghost} {w : Word} (w' : Word) → to_node w' ≡ to_node w → Newest g w → Newest g w'
same_newest w' same v =
    record { ticket = v.ticket; last = v.last; some = v.some; node = v.node ∙ ap (λ z. z.0) (sym same) }

-- the holders counted anew, r readers, v writers and l leavers, after thread x became y
abbrev pub Recount : ℕ → Lock → Thread → Thread → (ℕ → ℕ → ℕ → Type 0) → Type 0
Recount n s x y P =
    (r v l : ℕ) → r + reads_of x.holding ≡ readers n s + reads_of y.holding
    → v + writes_of x.holding ≡ writers n s + writes_of y.holding → l + leaver x ≡ leavers n s + leaver y → P r v l

-- ── the word changes ──

module _ {n : ℕ} {s : Lock} {g : Ghost} (i : Inv n s g) (g' : Ghost) (t : ℕ) (w : Word) (x : Thread)
    (nd : ℕ → Node) where
  pub record Land : Type 0 where
    pub queue : Q.Inv g' (queue_of (moved s t w x nd))
    pub newest : queued w ≡ true → Newest g' w
    pub nobody : queued w ≡ false → g'.lo ≡ g'.hi
    pub handed : queued w ≡ true → downgraded w ≡ true → (queue_locked w ≡ true) × (locked w ≡ true)
    pub bare : queued w ≡ false → (queue_locked w ≡ false) × (downgraded w ≡ false)
    pub inside : t < n
    pub owner : weight (about x.place).owner + weight (queue_locked s.word)
        ≡ weight (about_at s t).owner + weight (queue_locked w)
    pub may : Allowed (about x.place).may x.holding
    pub count : Recount n s (s.th t) x (Count w)
    pub needs : (about x.place).needs_queue ≡ true → queued w ≡ true
    pub needs_all : (u : ℕ) → u ≢ t → (about_at s u).needs_queue ≡ true → queued w ≡ true
    pub plain : (about x.place).reader ≡ true → downgraded w ≡ false
    pub plain_all : (u : ℕ) → u ≢ t → (about_at s u).reader ≡ true → downgraded w ≡ false
    pub counted : Real n (moved s t w x nd) → (nd (g'.log g'.lo)).next.0 ≡ SINGLE * readers n (moved s t w x nd)
    pub calm : Real n (moved s t w x nd) → (about x.place).owner ≡ true → hands_off (about x.place).seen ≡ true
    pub calm_all : Real n (moved s t w x nd) → (u : ℕ) → u ≢ t → (about_at s u).owner ≡ true
        → hands_off (about_at s u).seen ≡ true
    pub fits : (about x.place).ok ≡ true
    pub clear : filled (about x.place).role ≡ true → (nd (suc t)).completed ≡ false
    pub clears : (u : ℕ) → u ≢ t → filled (about_at s u).role ≡ true → (nd (suc u)).completed ≡ false
    pub token : (about x.place).asleep ≡ true → (nd (suc t)).completed ≡ true → x.token ≡ true
    pub tokens : (u : ℕ) → u ≢ t → (about_at s u).asleep ≡ true → (nd (suc u)).completed ≡ true → (s.th u).token ≡ true
    pub seen_to : queued w ≡ true → locked w ≡ false → queue_locked w ≡ false
        → (y : ℕ) × Responsible (moved s t w x nd) g' y

  pub land : Land → Inv n (moved s t w x nd) g'
  land c = record {
    queue = c.queue;
    newest = c.newest;
    nobody = c.nobody;
    handed = c.handed;
    bare = c.bare;
    owners = omega (arith, summed s t x nd n c.inside (λ y. weight (about y.place).owner), i.owners, c.owner);
    holding =
        upd_cases (λ u y. Allowed (about y.place).may y.holding) s.th t x c.may (λ u ne. i.holding u);
    outside = λ u l. rw (upd_other s.th t x u (λ e. omega (arith, c.inside))) (i.outside u l);
    unheld = λ u l. rw (upd_other s.th t x u (λ e. omega (arith, c.inside))) (i.unheld u l);
    count =
        c.count (readers n (moved s t w x nd)) (writers n (moved s t w x nd)) (leavers n (moved s t w x nd))
        (summed s t x nd n c.inside (λ y. reads_of y.holding))
        (summed s t x nd n c.inside (λ y. writes_of y.holding)) (summed s t x nd n c.inside leaver);
    needs =
        upd_cases (λ u y. (about y.place).needs_queue ≡ true → queued w ≡ true) s.th t x c.needs
        c.needs_all;
    plain =
        upd_cases (λ u y. (about y.place).reader ≡ true → downgraded w ≡ false) s.th t x c.plain
        c.plain_all;
    counted = c.counted;
    calm =
        λ r. upd_cases (λ u y. (about y.place).owner ≡ true → hands_off (about y.place).seen ≡ true) s.th t
        x (c.calm r) (c.calm_all r);
    clear =
        upd_cases (λ u y. filled (about y.place).role ≡ true → (nd (suc u)).completed ≡ false) s.th t x
        c.clear c.clears;
    fits = upd_cases (λ u y. (about y.place).ok ≡ true) s.th t x c.fits (λ u ne. i.fits u);
    token =
        upd_cases (λ u y. (about y.place).asleep ≡ true → (nd (suc u)).completed ≡ true → y.token ≡ true) s.th
        t x c.token c.tokens;
    seen_to = c.seen_to;
  }

-- ── neither the word nor what the thread holds changes ──

module _ {n : ℕ} {s : Lock} {g : Ghost} (i : Inv n s g) (g' : Ghost) (t : ℕ) (x : Thread) (nd : ℕ → Node) where
  pub record Glide : Type 0 where
    pub queue : Q.Inv g' (queue_of (moved s t s.word x nd))
    pub newest : queued s.word ≡ true → Newest g' s.word
    pub nobody : queued s.word ≡ false → g'.lo ≡ g'.hi
    pub inside : t < n
    pub holding : x.holding ≡ (s.th t).holding
    pub owner : (about x.place).owner ≡ (about_at s t).owner
    pub leaving : leaver x ≡ leaver (s.th t)
    pub may : Allowed (about x.place).may x.holding
    pub needs : (about x.place).needs_queue ≡ true → queued s.word ≡ true
    pub plain : (about x.place).reader ≡ true → downgraded s.word ≡ false
    pub counted : Real n s → (nd (g'.log g'.lo)).next.0 ≡ SINGLE * readers n s
    pub calm : Real n s → (about x.place).owner ≡ true → hands_off (about x.place).seen ≡ true
    pub fits : (about x.place).ok ≡ true
    pub clear : filled (about x.place).role ≡ true → (nd (suc t)).completed ≡ false
    pub clears : (u : ℕ) → u ≢ t → filled (about_at s u).role ≡ true → (nd (suc u)).completed ≡ false
    pub token : (about x.place).asleep ≡ true → (nd (suc t)).completed ≡ true → x.token ≡ true
    pub tokens : (u : ℕ) → u ≢ t → (about_at s u).asleep ≡ true → (nd (suc u)).completed ≡ true → (s.th u).token ≡ true
    pub seen_to : queue_locked s.word ≡ false → (u : ℕ) → Responsible s g u
        → (y : ℕ) × Responsible (moved s t s.word x nd) g' y

  pub glide : Glide → Inv n (moved s t s.word x nd) g'
  glide c = land i g' t s.word x nd (record {
    queue = c.queue;
    newest = c.newest;
    nobody = c.nobody;
    handed = i.handed;
    bare = i.bare;
    inside = c.inside;
    owner = rw c.owner;
    may = c.may;
    count = λ r v l er ev el. same_count r v l (rw c.holding at er) (rw c.holding at ev) (rw c.leaving at el);
    needs = c.needs;
    needs_all = λ u ne. i.needs u;
    plain = c.plain;
    plain_all = λ u ne. i.plain u;
    counted = λ r. rw same_readers (c.counted (back r));
    calm = λ r. c.calm (back r);
    calm_all = λ r u ne. i.calm (back r) u;
    fits = c.fits;
    clear = c.clear;
    clears = c.clears;
    token = c.token;
    tokens = c.tokens;
    seen_to = λ a b d. let y : (u : ℕ) × Responsible s g u = i.seen_to a b d in c.seen_to d y.0 y.1;
  })
    where
      same_count : Recount n s (s.th t) (s.th t) (Count s.word)
      same_count r v l er ev el =
          let e : r ≡ readers n s = omega arith in
          let f : v ≡ writers n s = omega arith in
          let h : l ≡ leavers n s = omega arith in
          rw (e, f, h) i.count

      same_readers : readers n (moved s t s.word x nd) ≡ readers n s
      same_readers = by (summed s t x nd n c.inside (λ y. reads_of y.holding))
        where
          by : {a b : ℕ} → a + reads_of (s.th t).holding ≡ b + reads_of x.holding → a ≡ b
          by e = omega (arith, ap reads_of c.holding)

      back : Real n (moved s t s.word x nd) → Real n s
      back r = record { some = rw same_readers at r.some; queue = r.queue; plain = r.plain }

-- ── and the tickets stay too: every node but t's own is completed or not as before, and the oldest's next is as
-- before ──

module _ (n : ℕ) (s : Lock) (g : Ghost) (t : ℕ) (x : Thread) (nd : ℕ → Node) where
  pub record Stay : Type 0 where
    pub queue : Q.Inv g (queue_of (moved s t s.word x nd))
    pub inside : t < n
    pub holding : x.holding ≡ (s.th t).holding
    pub completed : (u : ℕ) → u ≢ t → (nd (suc u)).completed ≡ (s.nd (suc u)).completed
    pub next : Real n s → (nd (g.log g.lo)).next ≡ (s.nd (g.log g.lo)).next
    pub owner : (about x.place).owner ≡ (about_at s t).owner
    pub leaving : leaver x ≡ leaver (s.th t)
    pub may : Allowed (about x.place).may x.holding
    pub needs : (about x.place).needs_queue ≡ true → queued s.word ≡ true
    pub plain : (about x.place).reader ≡ true → downgraded s.word ≡ false
    pub calm : Real n s → (about x.place).owner ≡ true → hands_off (about x.place).seen ≡ true
    pub fits : (about x.place).ok ≡ true
    pub clear : filled (about x.place).role ≡ true → (nd (suc t)).completed ≡ false
    pub token : (about x.place).asleep ≡ true → (nd (suc t)).completed ≡ true → x.token ≡ true
    -- a contending or completed thread still sees to the queue
    pub contending : (about_at s t).contends ≡ true → (about x.place).contends ≡ true
    pub called : (about_at s t).registered ≡ true → (s.nd (suc t)).completed ≡ true
        → (((about x.place).registered ≡ true) × ((nd (suc t)).completed ≡ true)) ⊎ ((about x.place).contends ≡ true)

  pub stay : Inv n s g → Stay → Inv n (moved s t s.word x nd) g
  stay i c = glide i g t x nd (record {
    queue = c.queue;
    newest = i.newest;
    nobody = i.nobody;
    inside = c.inside;
    holding = c.holding;
    owner = c.owner;
    leaving = c.leaving;
    may = c.may;
    needs = c.needs;
    plain = c.plain;
    counted = λ r. ap (λ y. y.0) (c.next r) ∙ i.counted r;
    calm = c.calm;
    fits = c.fits;
    clear = c.clear;
    clears = λ u ne e. c.completed u ne ∙ i.clear u e;
    token = c.token;
    tokens = λ u ne e d. i.token u e (sym (c.completed u ne) ∙ d);
    seen_to = λ _ u r. (u, sees u (eq? u t) r);
  })
    where
      own : Responsible s g t → Responsible (moved s t s.word x nd) g t
      own (contends e) = contends (rw (upd_same s.th t x) (c.contending e))
      own (called e d) = by (c.called e d)
        where
          by : (((about x.place).registered ≡ true) × ((nd (suc t)).completed ≡ true))
              ⊎ ((about x.place).contends ≡ true) → Responsible (moved s t s.word x nd) g t
          by (inl z) = called (rw (upd_same s.th t x) z.0) z.1
          by (inr z) = contends (rw (upd_same s.th t x) z)
      own (wakes l) = wakes l

      other : (u : ℕ) → u ≢ t → Responsible s g u → Responsible (moved s t s.word x nd) g u
      other u ne (contends e) = contends (rw (upd_other s.th t x u ne) e)
      other u ne (called e d) = called (rw (upd_other s.th t x u ne) e) (c.completed u ne ∙ d)
      other u ne (wakes l) = wakes l

      sees : (u : ℕ) → (u ≡ t) ⊎ (u ≢ t) → Responsible s g u → Responsible (moved s t s.word x nd) g u
      sees u (inl z) r =
          subst (λ k. Responsible (moved s t s.word x nd) g k) (sym z) (own (subst (λ k. Responsible s g k) z r))
      sees u (inr ne) r = other u ne r
