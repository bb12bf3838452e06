use Rattle.std.proofs.Common.{arith, rules}
use Rattle.lossy_net.proofs.Places.{inserted_in_order}
use Rattle.lossy_net.proofs.net.Net.sent.Goals as goal

pub returns-in_err-insert-clause-err : goal.returns-in_err-insert-clause-err
returns-in_err-insert-clause-err c = search rules

pub invariant_of-self-2 : goal.invariant_of-self-2
invariant_of-self-2 c =
    let before = rw c.deref.ensures.value at c.place-at.ensures.before in
    let behind = rw c.deref.ensures.value at c.place-at.ensures.behind in
    let within = rw c.deref.ensures.value at c.place-at.ensures.within in
    let none = rw (← c.self.view_is) at c.requires in
    rw c.in_ok-insert.ensures.items
    (inserted_in_order c.self.inside.copies.items c.args.to c.args.from c.args.index c.place-at.result c.self.invariant before behind _ within none (omega (arith, c.if-copies-eq0.false)))
