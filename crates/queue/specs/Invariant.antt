-- The queue's invariant, fresh, and what a step is to leave alone for the other threads (how a step is put together:
-- proofs/Steps.antt). A hypothesis `quiet` or `lonely` is what the lock's word says of the others (at most one owner;
-- readers and a changing owner exclude each other). Not here: the accesses (proofs/Walking, Registering, Taking); the
-- word, holding, tokens, who may begin what.
-- Assumes nothing.
use Rattle.std.specs.Prelude.{◌≡◌, refl, ◌≢◌, Bool, true, false, ℕ, suc}
use Rattle.std.proofs.Common.{arith}
use Rattle.std.proofs.lemmas.Bool.{false≢true}
use Rattle.word.specs.Base.{pick}
use Rattle.queue.specs.Updates.{upd, upd_other, upd_twice}
use Rattle.queue.specs.Queue.{Links, Interval, Queue, set_nx, set_pv, set_tl}
use Rattle.queue.specs.Queue
use Rattle.queue.specs.Tickets.{Ghost, tickets_of, taken_by, Parts}
use Rattle.queue.specs.Roles.{WalkKind, Role, none, on_queue, changing, filled, walked_on}
use Rattle.queue.specs.Roles.{Know, Untouched, Frame}
use Rattle.queue.specs.Roles.{changing_on}
use Rattle.queue.specs.Tests.{never, not_true}

-- the links, which nodes wait, the threads' roles
pub record St : Type 0 where
  pub links : Links
  pub wait : ℕ → Bool
  pub role : ℕ → Role

pub record Inv (g : Ghost) (s : St) : Type 0 where
  pub parts : Parts g s.wait
  pub queue : Queue (tickets_of g) s.links
  pub know : (t : ℕ) → Know (tickets_of g) (taken_by g t) s.links t (s.role t)
  pub free : (t : ℕ) → filled (s.role t) ≡ true → s.wait (suc t) ≡ false

-- where a walker of kind k walks
abbrev pub walked_by : WalkKind → Ghost → ℕ → Interval
walked_by k g t = walked_on k (tickets_of g) (taken_by g t)

-- thread t has moved
abbrev pub moved : St → ℕ → Links → (ℕ → Bool) → Role → St
moved s t l wait r = record { links = l; wait = wait; role = upd s.role t r }

-- only its role; its role and the links
abbrev pub turned : St → ℕ → Role → St
turned s t r = moved s t s.links s.wait r

abbrev pub relinked : St → ℕ → Links → Role → St
relinked s t l r = moved s t l s.wait r

-- two steps of t are one: an access of the lock may be several of the queue
pub moved_twice : (s : St) (t : ℕ) (l l' : Links) (wait wait' : ℕ → Bool) (r r' : Role)
    → moved (moved s t l wait r) t l' wait' r' ≡ moved s t l' wait' r'
moved_twice s t l l' wait wait' r r' = λ i. record { links = l'; wait = wait'; role = upd_twice s.role t r r' i }

abbrev pub ghost0 : Ghost
ghost0 = record {
  log = λ i. 0;
  tk = λ k. 0;
  own = λ i. 0;
  lo = 0;
  hi = 0;
  fl = 0;
  taken = λ t. record { beg = 0; end = 0; flo = 0 };
}

pub queue_fresh : (l : Links) → Inv ghost0 (record { links = l; wait = λ k. false; role = λ t. none })
queue_fresh l = record {
  parts = record {
    order = omega arith;
    queued = λ i a b. absurd (omega arith);
    held = λ t i a b. absurd (omega arith);
    cover = λ k e. absurd (false≢true e);
  };
  queue = Queue.empty_queue (λ i. 0) 0 l;
  know = λ t. omega arith;
  free = λ t e. refl;
}

-- ── how a step is put together ──

-- nobody but t stands on the queue
abbrev pub Lonely : St → ℕ → Type 0
Lonely s t = (u : ℕ) → u ≢ t → on_queue (s.role u) ≡ false

-- nobody but t changes the queue
abbrev pub Quiet : St → ℕ → Type 0
Quiet s t = (u : ℕ) → u ≢ t → changing (s.role u) ≡ false

-- who changes the queue stands on it
pub lonely_quiet : (s : St) (t : ℕ) → Lonely s t → Quiet s t
lonely_quiet s t lone u ne = not_true (changing (s.role u)) (λ c. never (lone u ne) (changing_on (s.role u) c))

-- a store to node x
abbrev pub Only : Links → Links → ℕ → Type 0
Only l l' x = (k : ℕ) → k ≢ x → Untouched l l' k

pub only_nx : (l : Links) (x n : ℕ) → Only l (set_nx l x n) x
only_nx l x n k ne = record { nx = upd_other l.nx x n k ne; pv = refl; tl = refl }

pub only_pv : (l : Links) (x n : ℕ) → Only l (set_pv l x n) x
only_pv l x n k ne = record { nx = refl; pv = upd_other l.pv x n k ne; tl = refl }

pub only_tl : (l : Links) (x n : ℕ) → Only l (set_tl l x n) x
only_tl l x n k ne = record { nx = refl; pv = refl; tl = upd_other l.tl x n k ne }

-- the fill of node x
abbrev pub fill_links : Links → ℕ → Bool → ℕ → Links
fill_links l x first n = record { nx = upd l.nx x n; pv = upd l.pv x 0; tl = upd l.tl x (pick first x 0) }

pub only_fill : (l : Links) (x : ℕ) (first : Bool) (n : ℕ) → Only l (fill_links l x first n) x
only_fill l x first n k ne = record {
  nx = upd_other l.nx x n k ne;
  pv = upd_other l.pv x 0 k ne;
  tl = upd_other l.tl x (pick first x 0) k ne;
}

-- what the step of t is to leave alone for another thread
pub record Spared (g g' : Ghost) (s : St) (l' : Links) (wait' : ℕ → Bool) (u : ℕ) : Type 0 where
  pub taken : g'.taken u ≡ g.taken u
  pub frame : Frame (tickets_of g) (tickets_of g') (taken_by g u) g'.log s.links l' u (s.role u)
  pub free : filled (s.role u) ≡ true → wait' (suc u) ≡ false
