use Rattle.std.proofs.Common.{rules, arith, ◌<◌, length, sym}
use Rattle.obj_region.specs.Store.{array_at}
use Rattle.obj_region.proofs.Changing.{items_within, kept_without_low}
use Rattle.obj_region.proofs.region.RegionStore.rem_low.Goals as goal

pub overflow_sub-self : goal.overflow_sub-self
overflow_sub-self c =
    let some : 0 < length (array_at c.self.inside.objects.items c.args.at.0).items = search rules in
    omega (arith, c.self.invariant.0, items_within c.self.inside.objects.items c.args.at.0 (rw c.self.view_is c.requires))

pub invariant_of-self : goal.invariant_of-self
invariant_of-self c =
    let some : 0 < length (array_at c.self.inside.objects.items c.args.at.0).items = search rules in
    let range = rw c.deref-2.ensures.value at c.if-not-may_lose_low.ensures in
    rw c.lose_low.ensures.rest (kept_without_low _ _ _ c.self.invariant (rw c.self.view_is c.requires) some (sym range))

pub returns-clause-store : goal.returns-clause-store
returns-clause-store c = (invariant_of-self c).1
