-- Proof of seen_is_the_last_word: which word the next place goes by. In order: what each rule carries on, place by
-- place; the machine.
-- Not here: the statement (Statements.antt); the table of the words that places go by (Tables.antt).
-- Assumes nothing.
use Rattle.std.specs.Prelude.{ℕ, true, false, ◌≡◌, refl}
use Rattle.std.proofs.Common.{sym, ap, ◌∙◌}
use Rattle.word.specs.Base.{pick}
use Rattle.word.specs.declared.flags.Word.{Word}
use Rattle.word.specs.declared.number.ThreadNumber.{ThreadNumber}
use Rattle.state.specs.Access.{access_of}
use Rattle.state.specs.View.{agrees_of}
use Rattle.state.specs.declared.place.Place.{Place}
use Rattle.state.specs.declared.place.Place.TheVariants as At
use Rattle.state.specs.declared.place.Walk.TheVariants.{Queue, ReadUnlock, Downgrade}
use Rattle.state.specs.declared.place.Who.TheVariants.{Waiter, Leaver}
use Rattle.state.specs.declared.view.Change.{Change}
use Rattle.state.specs.declared.view.View.{View}
use Rattle.lock.specs.Advance.{advance_of}
use Rattle.lock.specs.Effect.{QueueEffect, queue_effect, effect_of, stand_of}
use Rattle.lock.specs.Event.{event_of}
use Rattle.promises.proofs.Afterwards.{step_made, by_rule, seen, next_word, own_place}
use Rattle.promises.proofs.Obeys.{All, agrees_word}
use Rattle.promises.specs.Program.{place_of}
use Rattle.promises.proofs.RuleEnds.{try_read_ends, try_read_cas_ends, try_write_ends, contend_ends}
use Rattle.promises.proofs.RuleEnds.{contend_cas_ends}
use Rattle.promises.proofs.RuleEnds.{register_ends, completed_ends, park_ends, walk_tail_ends, found_ends}
use Rattle.promises.proofs.RuleEnds.{queue_cas_ends, split_prev_ends, split_cas_ends, take_cas_ends}
use Rattle.promises.proofs.RuleEnds.{wake_store_ends}
use Rattle.promises.proofs.RuleEnds.{read_unlock_ends, read_unlock_cas_ends, subtract_ends, write_unlock_ends}
use Rattle.promises.proofs.RuleEnds.{release_ends, downgrade_ends, downgrade_slow_ends}
use Rattle.promises.specs.Shared.{took_all}
use Rattle.promises.specs.Statements.{last_by, SeenIsTheLastWord}
use Rattle.promises.specs.Tables.{in_word, Seen, nothing, saw, goes_by, restores_at}

-- ── what each rule carries on ──

-- the last word, by the place and what the step did
abbrev last_of : ThreadNumber → Place → Word → Word → QueueEffect → Seen
last_of t p before after effect =
    pick (took_all effect) (saw before) (pick (in_word (access_of t p).location) (saw after) (goes_by p))

-- a claim on what is seen, where anything is
abbrev where_seen : Seen → Seen → Seen
where_seen nothing claim = nothing
where_seen (saw x) claim = claim

abbrev Carries : View → Place → Change → Type 0
Carries v p c =
    (goes_by c.thread.place
    ≡ where_seen (goes_by c.thread.place)
    (last_of v.me p v.word c.word (queue_effect v.me p (stand_of c.thread.place))))
    × (restores_at c.thread.place ≡ where_seen (restores_at c.thread.place) (goes_by p))

agreed_word : (v : View) (x : Word) → agrees_of v x ≡ true → saw x ≡ saw v.word
agreed_word v x a = ap (λ (n : ℕ). saw (record { 0 = n })) (sym (agrees_word v x a))

carries : (v : View) (p : Place) → All (Carries v p) (advance_of v p)
unfolding advance_of access_of goes_by restores_at queue_effect stand_of
carries v At.Idle = tt
carries v (At.TryReadLoad true) = try_read_ends v _ true (refl, refl) (refl, refl)
carries v (At.TryReadLoad false) = try_read_ends v _ false (refl, refl) (refl, refl)
carries v (At.TryReadCas true x) =
    try_read_cas_ends v _ true x (λ _ _ _. (refl, refl)) (try_read_ends v _ true (refl, refl) (refl, refl))
carries v (At.TryReadCas false x) =
    try_read_cas_ends v _ false x (λ _ _ _. (refl, refl)) (try_read_ends v _ false (refl, refl) (refl, refl))
carries v (At.TryWriteOr true) = try_write_ends v _ true (λ _. (refl, refl)) (λ _. (refl, refl))
carries v (At.TryWriteOr false) = try_write_ends v _ false (λ _. (refl, refl)) (λ _. (refl, refl))
carries v (At.ContendLoad w r) = contend_ends v _ w r (refl, refl) (refl, refl) (refl, refl)
carries v (At.ContendCas w r x) =
    contend_cas_ends v _ w r x
    (λ _ _ _. (refl, refl))
    (contend_ends v _ w r (refl, refl) (refl, refl) (refl, refl))
carries v (At.RegisterCas w r x) =
    register_ends v _ w r x (refl, refl) (refl, refl) (contend_ends v _ w r (refl, refl) (refl, refl) (refl, refl))
carries v (At.CompletedLoad w) = completed_ends v _ w (refl, refl) (refl, refl)
carries v (At.Park w) = park_ends v _ w (λ _. (refl, refl)) (λ _. (refl, refl))
carries v (At.WalkTail k x n) = walk_tail_ends v _ k x n (refl, refl) (refl, refl)
carries v (At.WalkNext k x n) = (refl, refl)
carries v (At.WalkPrev k x n y) = (refl, refl)
carries v (At.WalkHead (Queue who) x z) = found_ends v _ who x z (refl, refl) (refl, refl) (refl, refl)
carries v (At.WalkHead ReadUnlock x z) = (refl, refl)
carries v (At.WalkHead Downgrade x z) = (refl, refl)
carries v (At.QueueCas (Waiter w) x) = queue_cas_ends v _ (Waiter w) x (refl, refl) (refl, refl)
carries v (At.QueueCas Leaver x) = queue_cas_ends v _ Leaver x (refl, refl) (refl, refl)
carries v (At.SplitPrev who x z) = split_prev_ends v _ who x z (refl, refl) (refl, refl)
carries v (At.SplitStore who x z y) = (refl, refl)
carries v (At.SplitCas who x z) = split_cas_ends v _ who x z (refl, refl) (refl, refl)
carries v (At.SplitRestore who x z y) = (refl, refl)
carries v (At.TakeCas who x z) = take_cas_ends v _ who x z (refl, refl) (refl, refl)
carries v (At.WakePrev who n) = (refl, refl)
carries v (At.WakeStore (Waiter w) n y) = wake_store_ends v _ (Waiter w) n y (refl, refl) (refl, refl)
carries v (At.WakeStore Leaver n y) = wake_store_ends v _ Leaver n y (refl, refl) (refl, refl)
carries v At.ReadUnlockLoad = read_unlock_ends v _ (refl, refl) (refl, refl)
carries v (At.ReadUnlockCas x) =
    read_unlock_cas_ends v _ x (λ _ _ _. (refl, refl)) (read_unlock_ends v _ (refl, refl) (refl, refl))
carries v (At.Subtract x z) = subtract_ends v _ x z (refl, refl) (refl, refl)
carries v At.WriteUnlockCas = write_unlock_ends v _ (λ _. (refl, refl)) (refl, refl)
carries v (At.ReleaseCas x) = release_ends v _ x (λ _. (refl, refl)) (λ _. (refl, refl)) (refl, refl)
carries v At.DowngradeCas = downgrade_ends v _ (λ _. (refl, refl)) (refl, refl)
carries v (At.DowngradeSlowCas x) =
    downgrade_slow_ends v _ x (λ _. (refl, refl)) (λ a. (agreed_word v x a, refl)) (refl, refl)

-- ── the machine ──

-- what is seen is what is claimed, where it is seen
seen_there : (s claim : Seen) (x : Word) → s ≡ where_seen s claim → s ≡ saw x → saw x ≡ claim
seen_there s claim x e q = sym q ∙ (e ∙ ap (λ (y : Seen). where_seen y claim) q)

pub seen_is_the_last_word : SeenIsTheLastWord event_of
seen_is_the_last_word m code t a w z is_step e x =
    let s = step_made m code t a w is_step e in
    let p = place_of m t in
    let v = seen m code t a w e s in
    let facts : Carries v p s.c = by_rule m code t a w e s (Carries v p) (carries v p) in
    let place : place_of (event_of m code t).machine t ≡ s.c.thread.place = own_place m code t a w e s z in
    let effect = (effect_of t m (event_of m code t).machine).queue in
    let last : last_by m t (event_of m code t).machine
    ≡ last_of t p m.word s.c.word (queue_effect t p (stand_of s.c.thread.place)) =
    ap (λ (y : Word). last_of t p m.word y effect) (next_word m code t a w e s) ∙
    ap (λ (y : Place). last_of t p m.word s.c.word (queue_effect t p (stand_of y))) place in (
      λ q. seen_there _ _ x facts.0 (sym (ap goes_by place) ∙ q) ∙ sym last,
      λ q. seen_there _ _ x facts.1 (sym (ap restores_at place) ∙ q),
    )
