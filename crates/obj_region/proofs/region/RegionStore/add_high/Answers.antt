use Rattle.std.proofs.Common.{sym}
use Rattle.obj_region.proofs.Changing.{kept_high}
use Rattle.obj_region.proofs.region.RegionStore.add_high.Goals as goal

pub invariant_of-self-2 : goal.invariant_of-self-2
invariant_of-self-2 c =
    let range = rw c.deref.ensures.value at (c.if-not-may_grow_high.ensures c.args.value) in
    rw c.in_ok-grow_high.ensures.ok (kept_high _ _ _ _ c.self.invariant c.if-self-eq-MAX_CELLS.false (rw c.self.view_is c.requires) (sym range))

pub returns-clause-store : goal.returns-clause-store
returns-clause-store c = (invariant_of-self-2 c).1
