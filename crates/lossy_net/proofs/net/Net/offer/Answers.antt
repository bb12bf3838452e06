use Rattle.std.proofs.Common.{◌≡◌, ◌<◌, length, get_or, refl, ap, ◌∙◌, arith}
use Rattle.lossy_net.specs.declared.copies.Copies.{Copies}
use Rattle.lossy_net.proofs.Places.{blank, is_first, none_first}
use Rattle.lossy_net.proofs.net.Net.offer.Goals as goal

pub returns-in_err-first-clause-none : goal.returns-in_err-first-clause-none
returns-in_err-first-clause-none c =
    let before = rw c.deref.ensures.value at c.place-at.ensures.before in
    let behind = rw c.deref.ensures.value at c.place-at.ensures.behind in
    let past = rw c.deref-2.ensures.value at c.in_err-first.ensures.lookup.3 in (
      λ is from index. rw (← c.self.view_is) (none_first c.self.inside.copies.items c.args.node c.place-at.result c.self.invariant before behind (λ within here. omega (arith, past)) from index),
      λ none. rw c.from_residual.ensures refl,
    )

pub returns-then-first-node-clause-first : goal.returns-then-first-node-clause-first
returns-then-first-node-clause-first c =
    let before = rw c.deref.ensures.value at c.place-at.ensures.before in
    let behind = rw c.deref.ensures.value at c.place-at.ensures.behind in
    let within = rw c.deref-2.ensures.value at c.in_ok-first.ensures.lookup.3.0 in
    let there = rw c.deref-2.ensures.value at c.in_ok-first.ensures.lookup.1 in
    rw (← c.self.view_is) (is_first c.self.inside.copies.items c.args.node c.place-at.result c.self.invariant before behind c.in_ok-first.first.now within there c.if-first-node.true)

pub returns-then-first-node-clause-none : goal.returns-then-first-node-clause-none
returns-then-first-node-clause-none c =
    let first = returns-then-first-node-clause-first c in
    (λ e. cc, λ none. absurd (let same = none c.in_ok-first.first.now.from c.in_ok-first.first.now.index in omega (arith, first.left, same)))

pub returns-else-first-node-clause-none : goal.returns-else-first-node-clause-none
returns-else-first-node-clause-none c =
    let before = rw c.deref.ensures.value at c.place-at.ensures.before in
    let behind = rw c.deref.ensures.value at c.place-at.ensures.behind in
    let there = rw c.deref-2.ensures.value at c.in_ok-first.ensures.lookup.3.1 in
    let other = λ (within : c.place-at.result < length c.self.inside.copies.items) (here : (get_or c.self.inside.copies.items c.place-at.result blank).to ≡ c.args.node).
    c.if-first-node.false (ap (λ (copies : Copies). copies.to) (there blank) ∙ here) in (
      λ is from index. rw (← c.self.view_is) (none_first c.self.inside.copies.items c.args.node c.place-at.result c.self.invariant before behind other from index),
      λ none. refl,
    )
