-- The invariant of the lock, over its machine as functions and a ghost of tickets: to be proved of every reachable
-- machine, not believed. The queue's part is crate queue's; here the word against holders and owner, and the tokens.
-- In this order: holders against the word; the invariant.
-- Assumes nothing.
use Rattle.std.specs.Prelude.{ℕ, suc, ◌+◌, ◌*◌, ◌≤◌, ◌<◌, true, false, ◌≡◌}
use Rattle.word.specs.Flags.{LOCKED, SINGLE, locked, queued, queue_locked, downgraded, to_node}
use Rattle.word.specs.declared.flags.Word.{Word}
use Rattle.state.specs.Holding.{reads_of, writes_of}
use Rattle.state.specs.declared.place.Place.TheVariants.{Idle}
use Rattle.queue.specs.Sums.{sum}
use Rattle.queue.specs.Tickets.{Ghost}
use Rattle.queue.specs.Roles.{filled}
use Rattle.queue.specs.Invariant as Q
use Rattle.invariant.specs.Table.{hands_off, Lock, about_at, links_of, wait_of, role_of, Free, Allowed, weight, leaver}

-- ── holders ──

abbrev pub readers : ℕ → Lock → ℕ
readers n s = sum n (λ t. reads_of (s.th t).holding)

abbrev pub writers : ℕ → Lock → ℕ
writers n s = sum n (λ t. writes_of (s.th t).holding)

abbrev pub leavers : ℕ → Lock → ℕ
leavers n s = sum n (λ t. leaver (s.th t))

-- the three of a lock of n threads
abbrev pub CountedAs : (ℕ → ℕ → ℕ → Type 0) → ℕ → Lock → Type 0
CountedAs P n s = P (readers n s) (writers n s) (leavers n s)

-- r readers, w writers and l leavers, by number
pub record Hold (r w l r' w' l' : ℕ) : Type 0 where
  pub reads : r ≡ r'
  pub writes : w ≡ w'
  pub leaves : l ≡ l'

abbrev pub HoldersAre : ℕ → Lock → ℕ → ℕ → ℕ → Type 0
HoldersAre n s r w l = Hold (readers n s) (writers n s) (leavers n s) r w l

-- an unqueued word: nobody's, the writer's, the readers'
pub data Unqueued (x : Word) (r w l : ℕ) : Type 0 where
  empty : x.0 ≡ 0 → Hold r w l 0 0 0 → Unqueued x r w l
  written : x.0 ≡ LOCKED → Hold r w l 0 1 0 → Unqueued x r w l
  read : x.0 ≡ SINGLE * r + LOCKED → 1 ≤ r → Hold r w l r 0 0 → Unqueued x r w l

-- a queued word with LOCKED and without DOWNGRADED: a writer's, readers', a last reader's that leaves
pub data Locked (r w l : ℕ) : Type 0 where
  by_writer : Hold r w l 0 1 0 → Locked r w l
  by_readers : 1 ≤ r → Hold r w l r 0 0 → Locked r w l
  by_leaver : Hold r w l 0 0 1 → Locked r w l

-- holders against the word
pub record Count (x : Word) (r w l : ℕ) : Type 0 where
  pub bare : queued x ≡ false → Unqueued x r w l
  pub unlocked : queued x ≡ true → locked x ≡ false → Hold r w l 0 0 0
  pub handed : queued x ≡ true → locked x ≡ true → downgraded x ≡ true → Hold r w l 1 0 0
  pub held : queued x ≡ true → locked x ≡ true → downgraded x ≡ false → Locked r w l

-- ── the invariant ──

-- readers hold whose count stands in the queue
pub record Real (n : ℕ) (s : Lock) : Type 0 where
  pub some : 1 ≤ readers n s
  pub queue : queued s.word ≡ true
  pub plain : downgraded s.word ≡ false

-- thread t will see to the queue: it contends, or was called, or has somebody to call
pub data Responsible (s : Lock) (g : Ghost) (t : ℕ) : Type 0 where
  contends : (about_at s t).contends ≡ true → Responsible s g t
  called : (about_at s t).registered ≡ true → (s.nd (suc t)).completed ≡ true → Responsible s g t
  wakes : (g.taken t).beg < (g.taken t).end → Responsible s g t

-- the word's node is the newest ticket's
pub record Newest (g : Ghost) (w : Word) : Type 0 where
  pub ticket : ℕ
  pub last : suc ticket ≡ g.hi
  pub some : g.lo ≤ ticket
  pub node : g.log ticket ≡ (to_node w).0

abbrev pub queue_of : Lock → Q.St
queue_of s = record { links = links_of s.nd; wait = wait_of s.th s.nd; role = role_of s.th }

pub record Inv (n : ℕ) (s : Lock) (g : Ghost) : Type 0 where
  -- the queue, who walks it, and what each thread has taken off it
  pub queue : Q.Inv g (queue_of s)
  pub newest : queued s.word ≡ true → Newest g s.word
  pub nobody : queued s.word ≡ false → g.lo ≡ g.hi
  -- the word's shape
  pub handed : queued s.word ≡ true → downgraded s.word ≡ true
      → (queue_locked s.word ≡ true) × (locked s.word ≡ true)
  pub bare : queued s.word ≡ false → (queue_locked s.word ≡ false) × (downgraded s.word ≡ false)
  -- one queue owner if QUEUE_LOCKED is set, else none
  pub owners : sum n (λ t. weight (about_at s t).owner) ≡ weight (queue_locked s.word)
  -- holding fits the place; nobody is beyond the count
  pub holding : (t : ℕ) → Allowed (about_at s t).may (s.th t).holding
  pub outside : (t : ℕ) → n ≤ t → (s.th t).place ≡ Idle
  pub unheld : (t : ℕ) → n ≤ t → Free (s.th t).holding
  pub count : CountedAs (Count s.word) n s
  -- who is about to release or to downgrade slowly needs the queue to stay; while a contended reader walks, no
  -- downgrade is pending
  pub needs : (t : ℕ) → (about_at s t).needs_queue ≡ true → queued s.word ≡ true
  pub plain : (t : ℕ) → (about_at s t).reader ≡ true → downgraded s.word ≡ false
  -- under real readers the oldest waiter's next is their count, and no owner changes the queue
  pub counted : Real n s → (s.nd (g.log g.lo)).next.0 ≡ SINGLE * readers n s
  pub calm : Real n s → (t : ℕ) → (about_at s t).owner ≡ true → hands_off (about_at s t).seen ≡ true
  -- a filled node is not completed
  pub clear : (t : ℕ) → filled (about_at s t).role ≡ true → (s.nd (suc t)).completed ≡ false
  -- what a place says of the word that it saw
  pub fits : (t : ℕ) → (about_at s t).ok ≡ true
  -- the tokens: who is asleep and completed has one
  pub token : (t : ℕ) → (about_at s t).asleep ≡ true → (s.nd (suc t)).completed ≡ true → (s.th t).token ≡ true
  -- a queue that nobody holds and nobody owns has somebody who sees to it
  pub seen_to : queued s.word ≡ true → locked s.word ≡ false → queue_locked s.word ≡ false
      → (t : ℕ) × Responsible s g t
