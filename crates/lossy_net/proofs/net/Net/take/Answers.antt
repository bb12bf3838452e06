use Rattle.std.proofs.Common.{arith}
use Rattle.lossy_net.proofs.Places.{lessened_in_order, removed_in_order}
use Rattle.lossy_net.proofs.net.Net.take.Goals as goal

pub invariant_of-self : goal.invariant_of-self
invariant_of-self c =
    let there = c.place-at.ensures.there (rw (c.deref.ensures.value, c.self.view_is) c.requires) in
    let within = rw c.deref.ensures.value at there.within in
    lessened_in_order c.self.inside.copies.items c.place-at.result _ c.index_mut.result.now c.self.invariant within c.index_mut.ensures.value
    (omega (arith, c.if-left-gt1.true))

pub invariant_of-self-else-left-gt1 : goal.invariant_of-self-else-left-gt1
invariant_of-self-else-left-gt1 c =
    let there = c.place-at.ensures.there (rw (c.deref.ensures.value, c.self.view_is) c.requires) in
    let within = rw c.deref.ensures.value at there.within in
    rw c.remove.ensures.items (removed_in_order c.self.inside.copies.items c.place-at.result c.self.invariant within)
