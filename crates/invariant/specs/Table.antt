-- The lock's threads as the queue sees them: one table over the places, from which every summary is read. In this
-- order: what an owner makes of the word it saw; what is told of a place; the table; the machine as functions; its
-- holders.
-- Assumes nothing.
use Rattle.std.specs.Prelude.{ℕ, zero, suc, Bool, true, false, not, ◌≡◌}
use Rattle.std.proofs.Common.{ap}
use Rattle.word.specs.Base.{pick}
use Rattle.word.specs.Flags.{word, locked, queued, downgraded, to_node, without_flags}
use Rattle.word.specs.declared.flags.Word.{Word}
use Rattle.state.specs.Holding.{reads_of, writes_of}
use Rattle.state.specs.declared.holding.Holding.{Holding}
use Rattle.state.specs.declared.machine.Thread.{Thread}
use Rattle.state.specs.declared.node.Node.{Node}
use Rattle.state.specs.declared.place.Who.{Who}
use Rattle.state.specs.declared.place.Who.TheVariants.{Waiter, Leaver}
use Rattle.state.specs.declared.place.Walk.{Walk}
use Rattle.state.specs.declared.place.Walk.TheVariants.{Queue, ReadUnlock, Downgrade}
use Rattle.state.specs.declared.place.Place.{Place}
use Rattle.state.specs.declared.place.Place.TheVariants as At
use Rattle.lock.specs.Begin.{holds_nothing}
use Rattle.queue.specs.Queue.{Links}
use Rattle.queue.specs.Roles.{Role, none, ready, walk, past, link, head, split, aside, undo, wake, store, WalkKind}
use Rattle.queue.specs.Roles.{looks, changes, alone}

-- ── the word that an owner saw ──

-- the owner that has seen it will leave the queue as it is
abbrev pub hands_off : Word → Bool
hands_off w = pick (locked w) (not (downgraded w)) false

-- neither LOCKED nor DOWNGRADED
abbrev pub unheld : Word → Bool
unheld w = pick (locked w) false (not (downgraded w))

-- ── what is told of a place ──

-- what its thread may hold
pub data May : Type 0 where
  any : May
  free : May
  reads : May
  writes : May
  not_read : May
  not_write : May

-- role: what it knows of the queue. owner, seen: the queue owner and the word it saw. reader: a contended reader.
-- registered: its node waits or is completed. ok: what its place says of the word it saw. leaves: a last reader
-- between its subtraction and its release, if it holds nothing
pub record About : Type 0 where
  pub role : Role
  pub owner : Bool
  pub seen : Word
  pub reader : Bool
  pub registered : Bool
  pub asleep : Bool
  pub may : May
  pub ok : Bool
  pub leaves : Bool
  pub needs_queue : Bool
  pub contends : Bool

abbrev pub waiter : Who → Bool
waiter (Waiter _) = true
waiter Leaver = false

abbrev pub may_wake : Who → May
may_wake (Waiter _) = free
may_wake Leaver = not_write

abbrev pub for_queue : Walk → Bool
for_queue (Queue _) = true
for_queue ReadUnlock = false
for_queue Downgrade = false

abbrev pub for_reader : Walk → Bool
for_reader (Queue _) = false
for_reader ReadUnlock = true
for_reader Downgrade = false

abbrev pub walked_by_waiter : Walk → Bool
walked_by_waiter (Queue who) = waiter who
walked_by_waiter ReadUnlock = false
walked_by_waiter Downgrade = false

abbrev pub may_walk : Walk → May
may_walk (Queue _) = free
may_walk ReadUnlock = reads
may_walk Downgrade = reads

abbrev pub look_kind : Bool → WalkKind
look_kind true = looks
look_kind false = changes

abbrev pub walk_kind_of : Walk → Word → WalkKind
walk_kind_of (Queue _) w = look_kind (hands_off w)
walk_kind_of ReadUnlock w = looks
walk_kind_of Downgrade w = alone

-- ── the table ──

-- off the queue: may, leaves, needs_queue, contends
abbrev pub off_queue : May → Bool → Bool → Bool → About
off_queue may leaves needs_queue contends =
    record {
      role = none;
      owner = false;
      seen = word 0;
      reader = false;
      registered = false;
      asleep = false;
      may = may;
      ok = true;
      leaves = leaves;
      needs_queue = needs_queue;
      contends = contends;
    }

-- its node is filled for the word it saw: nobody queues on a free lock
abbrev pub filling : Word → About
filling seen =
    record {
      role = ready (not (queued seen)) (without_flags seen).0;
      owner = false;
      seen = word 0;
      reader = false;
      registered = false;
      asleep = false;
      may = free;
      ok = pick (queued seen) true (locked seen);
      leaves = false;
      needs_queue = false;
      contends = true;
    }

-- registered, and at its own node
abbrev pub waiting : Bool → About
waiting asleep =
    record {
      role = none;
      owner = false;
      seen = word 0;
      reader = false;
      registered = true;
      asleep = asleep;
      may = free;
      ok = true;
      leaves = false;
      needs_queue = false;
      contends = false;
    }

abbrev pub walking : Walk → Word → Role → About
walking k seen role =
    record {
      role = role;
      owner = for_queue k;
      seen = seen;
      reader = for_reader k;
      registered = walked_by_waiter k;
      asleep = false;
      may = may_walk k;
      ok = true;
      leaves = false;
      needs_queue = false;
      contends = false;
    }

-- the queue owner after its walk
abbrev pub owning : Who → Word → Role → Bool → About
owning who seen role ok =
    record {
      role = role;
      owner = true;
      seen = seen;
      reader = false;
      registered = waiter who;
      asleep = false;
      may = free;
      ok = ok;
      leaves = false;
      needs_queue = false;
      contends = false;
    }

abbrev pub waking : Who → Role → About
waking who role =
    record {
      role = role;
      owner = false;
      seen = word 0;
      reader = false;
      registered = waiter who;
      asleep = false;
      may = may_wake who;
      ok = true;
      leaves = false;
      needs_queue = false;
      contends = false;
    }

abbrev pub about : Place → About
about At.Idle = off_queue any false false false
about (At.TryReadLoad _) = off_queue free false false false
about (At.TryReadCas _ _) = off_queue free false false false
about (At.TryWriteOr _) = off_queue free false false false
about (At.ContendLoad _ _) = off_queue free false false true
about (At.ContendCas _ _ _) = off_queue free false false true
about (At.RegisterCas _ _ seen) = filling seen
about (At.CompletedLoad _) = waiting false
about (At.Park _) = waiting true
about (At.WalkTail k seen current) = walking k seen (walk (walk_kind_of k seen) (to_node seen).0 current.0)
about (At.WalkNext k seen current) = walking k seen (past (walk_kind_of k seen) (to_node seen).0 current.0)
about (At.WalkPrev k seen current next) =
    walking k seen (link (walk_kind_of k seen) (to_node seen).0 current.0 next.0)
about (At.WalkHead k seen tail) = walking k seen (head (walk_kind_of k seen) (to_node seen).0 tail.0)
about (At.QueueCas who seen) = owning who seen none (hands_off seen)
about (At.SplitPrev who seen tail) = owning who seen (head changes (to_node seen).0 tail.0) (unheld seen)
about (At.SplitStore who seen tail prev) = owning who seen (split (to_node seen).0 tail.0 prev.0) (unheld seen)
about (At.SplitCas who seen tail) = owning who seen (aside (to_node seen).0 tail.0) (unheld seen)
about (At.SplitRestore who seen tail reported) =
    owning who seen (undo (to_node seen).0 tail.0 (to_node reported).0) (unheld seen)
about (At.TakeCas who seen tail) = owning who seen (head changes (to_node seen).0 tail.0) (not (hands_off seen))
about (At.WakePrev who current) = waking who (wake current.0)
about (At.WakeStore who current prev) = waking who (store current.0 prev.0)
about At.ReadUnlockLoad = off_queue reads false false false
about (At.ReadUnlockCas _) = off_queue reads false false false
about (At.Subtract seen tail) = walking ReadUnlock seen (head looks (to_node seen).0 tail.0)
about At.WriteUnlockCas = off_queue writes false false false
about (At.ReleaseCas _) = off_queue not_read true true false
about At.DowngradeCas = off_queue writes false false false
about (At.DowngradeSlowCas _) = off_queue writes false true false

-- ── the machine as functions: of threads, and of node numbers ──

pub record Lock : Type 0 where
  pub word : Word
  pub th : ℕ → Thread
  pub nd : ℕ → Node

abbrev pub about_at : Lock → ℕ → About
about_at s t = about (s.th t).place

abbrev pub links_of : (ℕ → Node) → Links
links_of nd = record { nx = λ k. (nd k).next.0; pv = λ k. (nd k).prev.0; tl = λ k. (nd k).tail.0 }

-- node k waits: its thread is registered, and it is not completed
abbrev pub wait_of : (ℕ → Thread) → (ℕ → Node) → ℕ → Bool
wait_of th nd zero = false
wait_of th nd (suc t) = pick (about (th t).place).registered (not (nd (suc t)).completed) false

abbrev pub role_of : (ℕ → Thread) → ℕ → Role
role_of th t = (about (th t).place).role

pub same_role : {p q : Place} → p ≡ q → (about p).role ≡ (about q).role
same_role e = ap (λ p. (about p).role) e

-- ── holders, through what they read and write ──

pub record Free (h : Holding) : Type 0 where
  pub reads : reads_of h ≡ 0
  pub writes : writes_of h ≡ 0

pub record Reads (h : Holding) : Type 0 where
  pub reads : reads_of h ≡ 1
  pub writes : writes_of h ≡ 0

pub record Writes (h : Holding) : Type 0 where
  pub reads : reads_of h ≡ 0
  pub writes : writes_of h ≡ 1

abbrev pub Allowed : May → Holding → Type 0
Allowed any h = Unit {0}
Allowed free h = Free h
Allowed reads h = Reads h
Allowed writes h = Writes h
Allowed not_read h = reads_of h ≡ 0
Allowed not_write h = writes_of h ≡ 0

abbrev pub weight : Bool → ℕ
weight b = pick b 1 0

-- a last reader that has subtracted and not yet cleared LOCKED
abbrev pub leaver : Thread → ℕ
leaver x = pick (about x.place).leaves (weight (holds_nothing x.holding)) 0
