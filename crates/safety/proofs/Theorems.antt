-- The theorems of demand 3, by the names of their statements and in the order of the page (Statements.antt,
-- Calls.antt).
-- Assumes nothing.
use Rattle.std.specs.Prelude.{ℕ, ◌+◌, ◌<◌, [], ◌⊎◌, ◌≡◌, refl}
use Rattle.std.proofs.Common.{inl, inr, sym, ap, ◌∙◌, subst, arith}
use Rattle.std.proofs.Math.Decide.{dec_lt}
use Rattle.word.specs.Number.{none, node_of}
use Rattle.word.specs.declared.number.NodeNumber.{NodeNumber}
use Rattle.state.specs.Machine.{thread_at, fresh_of}
use Rattle.state.specs.declared.machine.Machine.{Machine}
use Rattle.lock.specs.Event.{event_of}
use Rattle.schedule.specs.Replay.{replay_of}
use Rattle.schedule.specs.Whole.{file_replay_of}
use Rattle.queue.specs.Sums.{sum_zero}
use Rattle.invariant.specs.Invariant.{readers}
use Rattle.invariant.proofs.Wake.{waiter_of_lem}
use Rattle.invariant.proofs.Steps.{WaitingNode, touches, marks}
use Rattle.invariant.specs.Bridge.{lock_of}
use Rattle.invariant.proofs.Events.{Sound}
use Rattle.safety.specs.Statements.{reached, CountStays, holders_of, Plainly, PlainLock, MutualExclusion}
use Rattle.safety.specs.Statements.{ChangesWithTheWord, ReaderCount, registrations, ListingTotal, ListsMove}
use Rattle.safety.specs.Statements.{Waits, OnePlace, StandingIsItsList, OneQueueOwner, NobodyStuck, NeverEight}
use Rattle.safety.specs.Statements.{TouchedAlive, NeverStopsAtEight, ReplayedSafe}
use Rattle.safety.specs.Calls.{EachCallDoesItsWork}
use Rattle.safety.specs.Intervals.{down, node_is}
use Rattle.safety.specs.Runs.{start, reached_ok, reached_count, event_not_eight}
use Rattle.safety.proofs.Plain.{whose, run_allowed}
use Rattle.safety.specs.ChangesWithTheWord.{event_changes}
use Rattle.safety.proofs.Counts.{readers_in, tallied, counted}
use Rattle.safety.proofs.Registrations.{made_in, listing_made}
use Rattle.safety.proofs.ListMoves.{event_lists}
use Rattle.safety.proofs.Spots.{waiter_is, one_spot, spot_waits}
use Rattle.safety.proofs.StandingList.{stands_so}
use Rattle.safety.specs.OneQueueOwner.{owned}
use Rattle.safety.specs.Stuck.{Rests, nobody_asleep}
use Rattle.safety.specs.Replays.{replay_not_eight, replayed}
use Rattle.safety.specs.EachCall.{run_works}

pub count_stays : CountStays event_of
count_stays = reached_count

-- ── the plain lock ──

pub plain_lock : PlainLock event_of
plain_lock n es =
    subst (λ h. Plainly event_of h (fresh_of n).machine es (holders_of (reached n es)))
    (ap (λ s t. (s.th t).holding) (start n).lock)
    (run_allowed (fresh_of n).machine (start n).ok es)

pub mutual_exclusion : MutualExclusion event_of
mutual_exclusion n es = whose (reached n es) (reached_ok n es)

pub changes_with_the_word : ChangesWithTheWord event_of
changes_with_the_word n es e = event_changes (reached n es) (reached_ok n es) e

-- ── the readers' number ──

pub reader_count : ReaderCount event_of
reader_count n es = (
  readers_in (reached n es),
  omega (arith, tallied (fresh_of n).machine (start n).ok es, none),
  counted (reached n es) (reached_ok n es),
)
  where
    none : readers_in (fresh_of n).machine ≡ 0
    none =
        ap (λ s. readers (fresh_of n).machine.count s) (start n).lock
        ∙ sum_zero (fresh_of n).machine.count (λ t. 0) (λ j l. refl)

-- ── the lists of waiters ──

pub listing_total : ListingTotal event_of
listing_total n es =
    listing_made (reached n es) (registrations event_of (fresh_of n).machine es [])
    (made_in (fresh_of n).machine []
    (record { ok = (start n).ok; is = ap (λ g. down g.log 0 g.hi) (sym (start n).none) }) es)

pub lists_move : ListsMove event_of
lists_move n es e = event_lists (reached n es) (reached_ok n es) e

pub one_place : OnePlace event_of
one_place n es = (one_spot (reached n es) (reached_ok n es), spot_waits (reached n es) (reached_ok n es))

pub standing_is_its_list : StandingIsItsList event_of
standing_is_its_list n es = stands_so (reached n es) (reached_ok n es)

pub one_queue_owner : OneQueueOwner event_of
one_queue_owner n es = owned (reached n es) (reached_ok n es)

-- ── nobody is left asleep ──

pub nobody_stuck : NobodyStuck event_of
nobody_stuck n es all t l asleep =
    nobody_asleep m.count (lock_of m) ok.ghost ok.inv (λ u. rests u (dec_lt u m.count))
    t asleep.0 asleep.1
  where
    m : Machine
    m = reached n es

    ok : Sound (reached n es)
    ok = reached_ok n es

    rests : (u : ℕ) → Dec (u < (reached n es).count) → Rests (lock_of (reached n es)) u
    rests u (yes k) = record {
      place = (all u k).place;
      holding = rw (all u k).holding (record { reads = refl; writes = refl });
    }
    rests u (no k) = record {
      place = inl (ok.inv.outside u (omega arith));
      holding = ok.inv.unheld u (omega arith);
    }

-- ── refusal 8, and the nodes touched ──

pub never_eight : NeverEight event_of
never_eight n es e = event_not_eight (reached n es) (reached_ok n es) e.code e.thread

pub touched_alive : TouchedAlive event_of
touched_alive n es t =
    record {
      accessed = accessed (touches ok.inv t (thread_at m t.0).place refl);
      marked = read (marks ok.inv t.0 (thread_at m t.0).place refl);
    }
  where
    m : Machine
    m = reached n es

    ok : Sound (reached n es)
    ok = reached_ok n es

    WaitingIn : NodeNumber → Type 0
    WaitingIn k = WaitingNode ok.inv k.0

    waits : (k : NodeNumber) → WaitingIn k → Waits (reached n es) k
    waits k w = waiter_is (reached n es) ok k.0 (waiter_of_lem (lock_of (reached n es)) k.0 w)

    accessed : {k : NodeNumber} → (k.0 ≡ t.0 + 1) ⊎ WaitingIn k → (k ≡ node_of t) ⊎ Waits (reached n es) k
    accessed {k} (inl e) = inl (node_is k (t.0 + 1) e)
    accessed {k} (inr w) = inr (waits k w)

    read : {k : NodeNumber} → (k ≡ none) ⊎ WaitingIn k → (k ≡ none) ⊎ Waits (reached n es) k
    read {k} (inl e) = inl e
    read {k} (inr w) = inr (waits k w)

-- ── replays; each thread's calls ──

pub never_stops_at_eight : NeverStopsAtEight replay_of
never_stops_at_eight = replay_not_eight

pub replayed_safe : ReplayedSafe file_replay_of
replayed_safe = replayed

pub each_call_does_its_work : EachCallDoesItsWork event_of
each_call_does_its_work = run_works
