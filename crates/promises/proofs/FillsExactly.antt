-- Proof of fills_exactly: the own node at an access to the word. In order: what each rule leaves of it, place by place;
-- the machine.
-- Not here: the statement (Statements.antt); the table (Goes.antt).
-- Assumes nothing.
use Rattle.std.specs.Prelude.{◌<◌, true, false, ◌≡◌, refl, length}
use Rattle.std.proofs.Common.{sym, ap, ◌∙◌, arith, get_or-set_same}
use Rattle.state.specs.Access.{access_of, touched_of}
use Rattle.state.specs.Machine.{node_at}
use Rattle.state.specs.Node.{blank_node}
use Rattle.state.specs.declared.place.Place.{Place}
use Rattle.state.specs.declared.place.Place.TheVariants as At
use Rattle.state.specs.declared.place.Walk.TheVariants.{Queue, ReadUnlock, Downgrade}
use Rattle.state.specs.declared.place.Who.TheVariants.{Waiter, Leaver}
use Rattle.state.specs.declared.view.Change.{Change}
use Rattle.state.specs.declared.view.View.{View}
use Rattle.lock.specs.Advance.{advance_of}
use Rattle.lock.specs.Event.{event_of}
use Rattle.lock.specs.Laws.{slot_at, good_count_lem}
use Rattle.promises.proofs.Afterwards.{step_made, by_rule, seen, next_node, touched, own_place}
use Rattle.promises.specs.Goes.{node_for}
use Rattle.promises.proofs.Obeys.{All}
use Rattle.promises.specs.Program.{place_of, access_at}
use Rattle.promises.proofs.RuleEnds.{try_read_ends, try_read_cas_ends, try_write_ends, contend_ends}
use Rattle.promises.proofs.RuleEnds.{contend_cas_ends}
use Rattle.promises.proofs.RuleEnds.{register_ends, completed_ends, park_ends, walk_tail_ends, found_ends}
use Rattle.promises.proofs.RuleEnds.{queue_cas_ends, split_prev_ends, split_cas_ends, take_cas_ends}
use Rattle.promises.proofs.RuleEnds.{wake_store_ends}
use Rattle.promises.proofs.RuleEnds.{read_unlock_ends, read_unlock_cas_ends, subtract_ends, write_unlock_ends}
use Rattle.promises.proofs.RuleEnds.{release_ends, downgrade_ends, downgrade_slow_ends}
use Rattle.promises.specs.Statements.{FillsExactly}
use Rattle.promises.specs.Values.{InWord, in_word_lem, own_touched}

-- ── what each rule leaves of the own node ──

-- the own node is the one of the table, where the access lies in the word
abbrev Fills : View → Place → Change → Type 0
Fills v p c = InWord (access_of v.me p).location (c.node ≡ node_for v.me c.thread.place v.node)

rule_fills : (v : View) (p : Place) → All (Fills v p) (advance_of v p)
unfolding advance_of access_of node_for
rule_fills v At.Idle = tt
rule_fills v (At.TryReadLoad true) = try_read_ends v _ true refl refl
rule_fills v (At.TryReadLoad false) = try_read_ends v _ false refl refl
rule_fills v (At.TryReadCas true x) = try_read_cas_ends v _ true x (λ _ _ _. refl) (try_read_ends v _ true refl refl)
rule_fills v (At.TryReadCas false x) = try_read_cas_ends v _ false x (λ _ _ _. refl) (try_read_ends v _ false refl refl)
rule_fills v (At.TryWriteOr true) = try_write_ends v _ true (λ _. refl) (λ _. refl)
rule_fills v (At.TryWriteOr false) = try_write_ends v _ false (λ _. refl) (λ _. refl)
rule_fills v (At.ContendLoad w r) = contend_ends v _ w r refl refl refl
rule_fills v (At.ContendCas w r x) =
    contend_cas_ends v _ w r x (λ _ _ _. refl) (contend_ends v _ w r refl refl refl)
rule_fills v (At.RegisterCas w r x) = register_ends v _ w r x refl refl (contend_ends v _ w r refl refl refl)
rule_fills v (At.CompletedLoad w) = completed_ends v _ w tt tt
rule_fills v (At.Park w) = park_ends v _ w (λ _. tt) (λ _. tt)
rule_fills v (At.WalkTail k x n) = walk_tail_ends v _ k x n tt tt
rule_fills v (At.WalkNext k x n) = tt
rule_fills v (At.WalkPrev k x n y) = tt
rule_fills v (At.WalkHead (Queue who) x z) = found_ends v _ who x z tt tt tt
rule_fills v (At.WalkHead ReadUnlock x z) = tt
rule_fills v (At.WalkHead Downgrade x z) = tt
rule_fills v (At.QueueCas (Waiter w) x) = queue_cas_ends v _ (Waiter w) x refl refl
rule_fills v (At.QueueCas Leaver x) = queue_cas_ends v _ Leaver x refl refl
rule_fills v (At.SplitPrev who x z) = split_prev_ends v _ who x z tt tt
rule_fills v (At.SplitStore who x z y) = tt
rule_fills v (At.SplitCas who x z) = split_cas_ends v _ who x z refl refl
rule_fills v (At.SplitRestore who x z y) = tt
rule_fills v (At.TakeCas who x z) = take_cas_ends v _ who x z refl refl
rule_fills v (At.WakePrev who n) = tt
rule_fills v (At.WakeStore (Waiter w) n y) = wake_store_ends v _ (Waiter w) n y tt tt
rule_fills v (At.WakeStore Leaver n y) = wake_store_ends v _ Leaver n y tt tt
rule_fills v At.ReadUnlockLoad = read_unlock_ends v _ refl refl
rule_fills v (At.ReadUnlockCas x) = read_unlock_cas_ends v _ x (λ _ _ _. refl) (read_unlock_ends v _ refl refl)
rule_fills v (At.Subtract x z) = subtract_ends v _ x z tt tt
rule_fills v At.WriteUnlockCas = write_unlock_ends v _ (λ _. refl) refl
rule_fills v (At.ReleaseCas x) = release_ends v _ x (λ _. refl) (λ _. refl) refl
rule_fills v At.DowngradeCas = downgrade_ends v _ (λ _. refl) refl
rule_fills v (At.DowngradeSlowCas x) = downgrade_slow_ends v _ x (λ _. refl) (λ _. refl) refl

-- ── the machine ──

pub fills_exactly : FillsExactly event_of
fills_exactly m code t a w z is_step e word =
    let s = step_made m code t a w is_step e in
    let p = place_of m t in
    let m' = (event_of m code t).machine in
    let v = seen m code t a w e s in
    let l = (access_at m t).location in
    let own : s.k ≡ t.0 = omega (arith, touched m code t a w e s, own_touched l t word) in
    let slot = (slot_at (touched_of (access_at m t) t) m.count s.k s.slot).1 in
    let low : s.k < length m.nodes = omega (arith, slot, (good_count_lem m.count s.good).1, z.nodes) in
    let facts : s.c.node ≡ node_for t s.c.thread.place (node_at m s.k) =
    in_word_lem l _ word (by_rule m code t a w e s (Fills v p) (rule_fills v p)) in
    let there : node_at m' s.k ≡ s.c.node =
    next_node m code t a w e s s.k ∙ get_or-set_same m.nodes s.k s.c.node blank_node low in
    ap (node_at m') (sym own) ∙
    (there ∙
    (facts ∙
    (ap (λ q. node_for t q (node_at m s.k)) (sym (own_place m code t a w e s z)) ∙
    ap (λ j. node_for t (place_of m' t) (node_at m j)) own)))
