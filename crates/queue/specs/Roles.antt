-- What a thread knows of the queue, by its role; a role carries the node numbers that the thread's place carries, and
-- nothing else. In this order: kinds of walk, roles, what each knows, what it tells the others; then the frame: what
-- another thread's step must leave alone (that what a role knows then stays: proofs/Frames.antt). Not here: the steps
-- themselves (proofs/Walking, Registering, Taking).
-- Assumes nothing.
use Rattle.std.specs.Prelude.{◌≡◌, refl, ◌⊎◌, Bool, true, false, ℕ, suc, ◌≤◌, ◌<◌}
use Rattle.word.specs.Base.{pick}
use Rattle.queue.specs.Queue.{Links, link_in, Interval, Clean, Queue, Walker, Full, Mine, Agree}

-- looks: leaves the queue as it is (a contended reader, an owner that saw hands off); changes: the owner that will
-- take something off; alone: a downgrade, on what it has taken
pub data WalkKind : Type 0 where
  looks : WalkKind
  changes : WalkKind
  alone : WalkKind

pub data Role : Type 0 where
  none : Role
  ready : Bool → ℕ → Role
  walk : WalkKind → ℕ → ℕ → Role
  past : WalkKind → ℕ → ℕ → Role
  link : WalkKind → ℕ → ℕ → ℕ → Role
  head : WalkKind → ℕ → ℕ → Role
  split : ℕ → ℕ → ℕ → Role
  aside : ℕ → ℕ → Role
  undo : ℕ → ℕ → ℕ → Role
  wake : ℕ → Role
  store : ℕ → ℕ → Role

-- ── what a role tells the others ──

abbrev pub public : WalkKind → Bool
public looks = true
public changes = true
public alone = false

abbrev pub modifies : WalkKind → Bool
modifies looks = false
modifies changes = true
modifies alone = false

modifies_public : (k : WalkKind) → modifies k ≡ true → public k ≡ true
modifies_public looks e = refl
modifies_public changes e = refl
modifies_public alone e = e

-- it needs the queue's floor and oldest to stay
abbrev pub on_queue : Role → Bool
on_queue none = false
on_queue (ready _ _) = false
on_queue (walk k _ _) = public k
on_queue (past k _ _) = public k
on_queue (link k _ _ _) = public k
on_queue (head k _ _) = public k
on_queue (split _ _ _) = true
on_queue (aside _ _) = true
on_queue (undo _ _ _) = true
on_queue (wake _) = false
on_queue (store _ _) = false

-- it needs the nodes from its head on to stay untouched
abbrev pub changing : Role → Bool
changing none = false
changing (ready _ _) = false
changing (walk k _ _) = modifies k
changing (past k _ _) = modifies k
changing (link k _ _ _) = modifies k
changing (head k _ _) = modifies k
changing (split _ _ _) = true
changing (aside _ _) = true
changing (undo _ _ _) = true
changing (wake _) = false
changing (store _ _) = false

-- what it holds is set aside: from the store of prev in the head until the compare succeeds or the old tail is restored
abbrev pub aside_role : Role → Bool
aside_role none = false
aside_role (ready _ _) = false
aside_role (walk _ _ _) = false
aside_role (past _ _ _) = false
aside_role (link _ _ _ _) = false
aside_role (head _ _ _) = false
aside_role (split _ _ _) = false
aside_role (aside _ _) = true
aside_role (undo _ _ _) = true
aside_role (wake _) = false
aside_role (store _ _) = false

-- its own node is filled and not registered
abbrev pub filled : Role → Bool
filled none = false
filled (ready _ _) = true
filled (walk _ _ _) = false
filled (past _ _ _) = false
filled (link _ _ _ _) = false
filled (head _ _ _) = false
filled (split _ _ _) = false
filled (aside _ _) = false
filled (undo _ _ _) = false
filled (wake _) = false
filled (store _ _) = false

-- ── what a role knows: q is the queue, p what the thread has taken off ──

abbrev pub walked_on : WalkKind → Interval → Interval → Interval
walked_on looks q p = q
walked_on changes q p = q
walked_on alone q p = p

abbrev pub Ground : WalkKind → Interval → Links → Type 0
Ground looks p l = p.hi ≤ p.lo
Ground changes p l = p.hi ≤ p.lo
Ground alone p l = Queue p l

abbrev pub Over : WalkKind → Interval → Links → ℕ → Type 0
Over looks x l h = Unit {0}
Over changes x l h = Clean x l h
Over alone x l h = suc h ≡ x.hi

pub record WalkAt (k : WalkKind) (q p : Interval) (l : Links) (hd cu : ℕ) : Type 0 where
  pub h : ℕ
  pub c : ℕ
  pub ish : (walked_on k q p).log h ≡ hd
  pub isc : (walked_on k q p).log c ≡ cu
  pub way : Walker (walked_on k q p) l h c
  pub footing : Ground k p l
  pub over : Over k (walked_on k q p) l h

-- stands at ticket d + 1, above the floor
pub record PastAt (k : WalkKind) (q p : Interval) (l : Links) (hd cu : ℕ) : Type 0 where
  pub h : ℕ
  pub d : ℕ
  pub ish : (walked_on k q p).log h ≡ hd
  pub isc : (walked_on k q p).log (suc d) ≡ cu
  pub low : (walked_on k q p).fl ≤ d
  pub way : Walker (walked_on k q p) l h (suc d)
  pub footing : Ground k p l
  pub over : Over k (walked_on k q p) l h

pub record LinkAt (k : WalkKind) (q p : Interval) (l : Links) (hd cu nn : ℕ) : Type 0 where
  pub past : PastAt k q p l hd cu
  pub isn : (walked_on k q p).log past.d ≡ nn

pub record HeadAt (k : WalkKind) (q p : Interval) (l : Links) (hd tail : ℕ) : Type 0 where
  pub h : ℕ
  pub ish : (walked_on k q p).log h ≡ hd
  pub ist : (walked_on k q p).log (walked_on k q p).lo ≡ tail
  pub way : Full (walked_on k q p) l h
  pub footing : Ground k p l
  pub over : Over k (walked_on k q p) l h

pub record SplitAt (q p : Interval) (l : Links) (hd tail prev : ℕ) : Type 0 where
  pub it : HeadAt changes q p l hd tail
  pub more : q.lo < it.h
  pub isp : q.log (suc q.lo) ≡ prev

-- the head is the floor, and the thread has the ticket below the queue's oldest
pub record AsideAt (q p : Interval) (l : Links) (hd tail : ℕ) : Type 0 where
  pub one : suc p.lo ≡ q.lo
  pub end : p.hi ≡ q.lo
  pub ish : q.log q.fl ≡ hd
  pub ist : p.log p.lo ≡ tail
  pub base : q.lo ≤ q.fl
  pub top : q.fl < q.hi
  pub nxt : link_in (l.nx (q.log q.lo)) ≡ p.log p.lo
  pub prv : l.pv (p.log p.lo) ≡ q.log q.lo
  pub clean : Clean q l q.fl

pub record UndoAt (q p : Interval) (l : Links) (hd tail rp : ℕ) : Type 0 where
  pub it : AsideAt q p l hd tail
  pub r : ℕ
  pub isr : q.log r ≡ rp
  pub low : q.fl ≤ r
  pub top : r < q.hi

pub record WakeAt (p : Interval) (l : Links) (cu : ℕ) : Type 0 where
  pub some : p.lo < p.hi
  pub isc : p.log p.lo ≡ cu
  pub mine : Mine p l p.lo

pub record StoreAt (p : Interval) (l : Links) (cu prev : ℕ) : Type 0 where
  pub some : p.lo < p.hi
  pub isc : p.log p.lo ≡ cu
  pub rest : ((suc p.lo ≡ p.hi) × (prev ≡ 0)) ⊎ ((suc p.lo < p.hi) × (p.log (suc p.lo) ≡ prev))
  pub mine : Mine p l (suc p.lo)

pub record ReadyAt (p : Interval) (l : Links) (k : ℕ) (first : Bool) (v : ℕ) : Type 0 where
  pub empty : p.hi ≤ p.lo
  pub nx : l.nx k ≡ v
  pub pv : l.pv k ≡ 0
  pub tl : l.tl k ≡ pick first k 0

abbrev pub Know : Interval → Interval → Links → ℕ → Role → Type 0
Know q p l t none = p.hi ≤ p.lo
Know q p l t (ready b v) = ReadyAt p l (suc t) b v
Know q p l t (walk k hd cu) = WalkAt k q p l hd cu
Know q p l t (past k hd cu) = PastAt k q p l hd cu
Know q p l t (link k hd cu nn) = LinkAt k q p l hd cu nn
Know q p l t (head k hd tail) = HeadAt k q p l hd tail
Know q p l t (split hd tail prev) = SplitAt q p l hd tail prev
Know q p l t (aside hd tail) = AsideAt q p l hd tail
Know q p l t (undo hd tail rp) = UndoAt q p l hd tail rp
Know q p l t (wake cu) = WakeAt p l cu
Know q p l t (store cu prev) = StoreAt p l cu prev

-- who changes the queue stands on it
pub changing_on : (r : Role) → changing r ≡ true → on_queue r ≡ true
changing_on none e = e
changing_on (ready _ _) e = e
changing_on (walk k _ _) e = modifies_public k e
changing_on (past k _ _) e = modifies_public k e
changing_on (link k _ _ _) e = modifies_public k e
changing_on (head k _ _) e = modifies_public k e
changing_on (split _ _ _) e = e
changing_on (aside _ _) e = e
changing_on (undo _ _ _) e = e
changing_on (wake _) e = e
changing_on (store _ _) e = e

-- ── the frame ──

-- for walkers: oldest and floor stay, right prevs stay right; newer nodes may come
pub record Still (x x' : Interval) (l l' : Links) : Type 0 where
  pub lo : x'.lo ≡ x.lo
  pub fl : x'.fl ≡ x.fl
  pub hi : x.hi ≤ x'.hi
  pub log : (i : ℕ) → x.lo ≤ i → i < x.hi → x'.log i ≡ x.log i
  pub back : (i : ℕ) → x.lo ≤ i → suc i < x.hi → l.pv (x.log i) ≡ x.log (suc i)
      → l'.pv (x'.log i) ≡ x'.log (suc i)

abbrev pub KeepsClean : Interval → Interval → Links → Links → Type 0
KeepsClean q q' l l' = (h : ℕ) → q.fl ≤ h → Clean q l h → Clean q' l' h

pub record Untouched (l l' : Links) (k : ℕ) : Type 0 where
  pub nx : l'.nx k ≡ l.nx k
  pub pv : l'.pv k ≡ l.pv k
  pub tl : l'.tl k ≡ l.tl k

-- what a step of another thread leaves alone for thread t in role r
pub record Frame (q q' p : Interval) (log' : ℕ → ℕ) (l l' : Links) (t : ℕ) (r : Role) : Type 0 where
  pub taken : Agree p log' l l'
  pub node : filled r ≡ true → Untouched l l' (suc t)
  pub still : on_queue r ≡ true → Still q q' l l'
  pub clean : changing r ≡ true → KeepsClean q q' l l'
  pub below : changing r ≡ true → q.lo < q.hi → l'.nx (q.log q.lo) ≡ l.nx (q.log q.lo)
