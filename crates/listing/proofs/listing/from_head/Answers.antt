-- `listing::listing::from_head` meets its contract: by the turns of its walk. Assumes nothing.
use Rattle.std.proofs.Common.{true, Ok, [], ◌≡◌, sym, ap, ◌∙◌, rules}
use Rattle.std.proofs.lemmas.Result.{err_from_is_err_and}
use Rattle.word.specs.Cases.{pick_yes}
use Rattle.word.specs.Flags.{to_node}
use Rattle.word.specs.declared.number.NodeNumber.{NodeNumber}
use Rattle.state.specs.Machine.{good_count}
use Rattle.state.specs.declared.machine.Machine.{Machine}
use Rattle.listing.specs.Listing.{Listed, lost, listed, followed_of, from_head_of, array_of, waiters_by}
use Rattle.listing.specs.Way.{listed_in}
use Rattle.listing.proofs.Turn.{few, begins, set_refused, set_on, tail_refused, tail_on, tail_met}
use Rattle.listing.proofs.listing.from_head.Goals as goal

all : (m : Machine) (head : NodeNumber) (l : Listed)
    → true ≡ good_count m.count
    → l ≡ followed_of m head
    → waiters_by l ≡ waiters_by (from_head_of m head)
all m head l good e = ap waiters_by (pick_yes (good_count m.count) l (followed_of m head) lost (sym good) e)

pub returns-in_err-node : goal.returns-in_err-node
returns-in_err-node c =
    let m = c.args.m in
    let p = err_from_is_err_and c.from_residual.result c.from_residual.ensures.1 in
    let why = rw c.none_waiting-waiters.ensures at c.in_err-node.ensures.err in
    rw (p.1, p.2, why.0)
    (all m c.args.head lost c.if-not-good_count.ensures
    (set_refused m (array_of []) c.args.head why.1 ∙ begins m c.args.head))

pub loop-at-init : goal.loop-at-init
loop-at-init c =
    let m = c.args.m in
    let s = rw c.none_waiting-waiters.ensures at c.in_ok-node.ensures.ok in
    record {
      padded = s.padded;
      few = few s;
      its = s.its;
      whole = set_on m (array_of []) c.args.head _ _ s ∙ begins m c.args.head;
    }

pub returns-in_err-node-2 : goal.returns-in_err-node-2
returns-in_err-node-2 c =
    let m = c.args.m in
    let l = c.loop-at in
    let p = err_from_is_err_and c.from_residual-in_err-node-2.result c.from_residual-in_err-node-2.ensures.1 in
    let why = c.in_err-node-2.ensures.err in
    let next = rw (← c.if-not-is_none.ensures, ← c.to_node-at.ensures) at l.invariant.whole in
    rw (p.1, p.2, why.0)
    (all m c.args.head lost c.if-not-good_count.ensures (set_refused m l.waiters _ why.1 ∙ next))

pub loop-at-preserved : goal.loop-at-preserved
loop-at-preserved c =
    let m = c.args.m in
    let l = c.loop-at in
    let s = c.in_ok-node-2.ensures.ok in
    let next = rw (← c.if-not-is_none.ensures, ← c.to_node-at.ensures) at l.invariant.whole in
    record { padded = s.padded; few = few s; its = s.its; whole = set_on m l.waiters _ _ _ s ∙ next }

pub returns-in_err-node-3 : goal.returns-in_err-node-3
returns-in_err-node-3 c =
    let m = c.args.m in
    let l = c.loop-m in
    let p = err_from_is_err_and c.from_residual-in_err-node-3.result c.from_residual-in_err-node-3.ensures.1 in
    let why = c.in_err-node-3.ensures.err in
    let link = c.to_node-at-in-loop-m.ensures ∙ ap (λ n. to_node n.next) l.invariant.its in
    rw (p.1, p.2, why.0)
    (all m c.args.head lost c.if-not-good_count.ensures
    (tail_refused m l.waiters l.at _ _ (search rules) link why.1 ∙ l.invariant.whole))

pub loop-m-preserved : goal.loop-m-preserved
loop-m-preserved c =
    let m = c.args.m in
    let l = c.loop-m in
    let s = c.in_ok-node-3.ensures.ok in
    let link = c.to_node-at-in-loop-m.ensures ∙ ap (λ n. to_node n.next) l.invariant.its in
    record {
      padded = s.padded;
      few = few s;
      its = s.its;
      whole = tail_on m l.waiters l.at _ _ (search rules) link _ _ s ∙ l.invariant.whole;
    }

pub returns : goal.returns
returns c =
    let m = c.args.m in
    let l = c.loop-m in
    ap Ok l.invariant.padded
    ∙ all m c.args.head (listed (listed_in l.waiters)) c.if-not-good_count.ensures
    (tail_met m l.waiters l.at _ (search rules) ∙ l.invariant.whole)
