-- Proof of park_takes_the_token: what park leaves of the thread's own token. In order: park is the one place that takes
-- it; what its rule gives; the token after.
-- Not here: the statement (Statements.antt); the tokens of other threads (OneAccess.antt, WokenOwner.antt).
-- Assumes nothing.
use Rattle.std.specs.Prelude.{ℕ, Bool, true, false, ◌≡◌, refl, eqb, Option, None}
use Rattle.std.proofs.Common.{sym, ap, subst, ◌∙◌}
use Rattle.word.specs.Base.{pick}
use Rattle.word.specs.declared.number.ThreadNumber.{ThreadNumber}
use Rattle.state.specs.Answer.{accepted_with}
use Rattle.state.specs.Access.{access_of}
use Rattle.state.specs.Machine.{Sized, thread_at}
use Rattle.state.specs.declared.access.Kind.TheVariants.{Park as Parking}
use Rattle.state.specs.declared.answer.Answer.{Answer}
use Rattle.state.specs.declared.machine.Machine.{Machine}
use Rattle.state.specs.declared.machine.Thread.{Thread}
use Rattle.state.specs.declared.place.Place.{Place}
use Rattle.state.specs.declared.place.Place.TheVariants as At
use Rattle.state.specs.declared.view.Change.{Change}
use Rattle.state.specs.declared.view.View.{View}
use Rattle.lock.specs.Advance.{advance_of}
use Rattle.lock.specs.Event.{event_of}
use Rattle.lock.specs.Landed.{woken_of}
use Rattle.promises.proofs.Afterwards.{fails_17, step_made, by_rule, seen, laid, landed, own_thread, woke}
use Rattle.promises.proofs.Obeys.{All}
use Rattle.promises.specs.Places.{never}
use Rattle.promises.specs.Program.{place_of, access_at}
use Rattle.promises.specs.Refusals.{steps}
use Rattle.promises.proofs.RuleEnds.{park_ends}
use Rattle.promises.specs.Shared.{takes_token}
use Rattle.promises.specs.Statements.{ParkTakesTheToken}

-- ── park's rule ──

-- at park the token is kept by a failure, else cleared, and nobody is woken
abbrev Parked : View → Change → Type 0
Parked v c = (c.thread.token ≡ pick v.fails v.token false) × (c.woken ≡ None)

parked : (v : View) (writer : Bool) → All (Parked v) (advance_of v (At.Park writer))
unfolding advance_of
parked v writer = park_ends v _ writer (λ f. (rw f, refl)) (λ f. (rw f, refl))

-- a place that takes the token is park
park_only : (t : ThreadNumber) (p : Place)
    → takes_token (access_of t p).kind ≡ true
    → (writer : Bool) × (p ≡ At.Park writer)
unfolding access_of
park_only t At.Idle e = never e
park_only t (At.TryReadLoad _) e = never e
park_only t (At.TryReadCas _ _) e = never e
park_only t (At.TryWriteOr _) e = never e
park_only t (At.ContendLoad _ _) e = never e
park_only t (At.ContendCas _ _ _) e = never e
park_only t (At.RegisterCas _ _ _) e = never e
park_only t (At.CompletedLoad _) e = never e
park_only t (At.Park writer) e = (writer, refl)
park_only t (At.WalkTail _ _ _) e = never e
park_only t (At.WalkNext _ _ _) e = never e
park_only t (At.WalkPrev _ _ _ _) e = never e
park_only t (At.WalkHead _ _ _) e = never e
park_only t (At.QueueCas _ _) e = never e
park_only t (At.SplitPrev _ _ _) e = never e
park_only t (At.SplitStore _ _ _ _) e = never e
park_only t (At.SplitCas _ _ _) e = never e
park_only t (At.SplitRestore _ _ _ _) e = never e
park_only t (At.TakeCas _ _ _) e = never e
park_only t (At.WakePrev _ _) e = never e
park_only t (At.WakeStore _ _ _) e = never e
park_only t At.ReadUnlockLoad e = never e
park_only t (At.ReadUnlockCas _) e = never e
park_only t (At.Subtract _ _) e = never e
park_only t At.WriteUnlockCas e = never e
park_only t (At.ReleaseCas _) e = never e
park_only t At.DowngradeCas e = never e
park_only t (At.DowngradeSlowCas _) e = never e

-- ── the token after ──

token_after_lem : (m : Machine) (code : ℕ) (t : ThreadNumber) (a : Answer) (w : Option ThreadNumber)
    → Sized m
    → (access_at m t).kind ≡ Parking
    → (event_of m code t).reply ≡ accepted_with a w
    → steps code ≡ true
    → (thread_at (event_of m code t).machine t.0).token ≡ pick (eqb code 17) (thread_at m t.0).token false
token_after_lem m code t a w z parks e is_step =
    let s = step_made m code t a w is_step e in
    let v = seen m code t a w e s in
    let only : (x : Bool) × (place_of m t ≡ At.Park x) = park_only t (place_of m t) (ap takes_token parks) in
    let facts : Parked v s.c =
    by_rule m code t a w e s (Parked v)
    (subst (λ p. All (Parked v) (advance_of v p)) (sym only.1) (parked v only.0)) in
    let nobody : w ≡ None = sym (woke m code t a w e s) ∙ facts.1 in
    ap (λ (x : Machine). (thread_at x t.0).token) (landed m code t a w e s) ∙
    (ap (λ (o : Option ThreadNumber). (thread_at (woken_of (laid m code t a w e s) o) t.0).token) nobody ∙
    (ap (λ (x : Thread). x.token) (own_thread m code t a w e s z) ∙
    (facts.0 ∙ ap (λ f. pick f (thread_at m t.0).token false) (fails_17 code s.fails s.codes))))

pub park_takes_the_token : ParkTakesTheToken event_of
park_takes_the_token =
    record {
      clears = λ m t a w z parks e. token_after_lem m 16 t a w z parks e refl;
      leaves = λ m t a w z parks e. token_after_lem m 17 t a w z parks e refl;
    }
