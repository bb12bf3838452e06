use Rattle.obj_region.proofs.Changing.{kept_field}
use Rattle.obj_region.proofs.region.RegionStore.set_field.Goals as goal

pub invariant_of-self : goal.invariant_of-self
invariant_of-self c =
    rw c.set_field.ensures (kept_field _ _ _ _ _ c.self.invariant (rw c.self.view_is c.requires))

pub returns-clause-store : goal.returns-clause-store
returns-clause-store c = (invariant_of-self c).1
