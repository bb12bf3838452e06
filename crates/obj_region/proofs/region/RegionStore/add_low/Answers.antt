use Rattle.std.proofs.Common.{sym, ◌≡◌, ◌∙◌, true, false}
use Rattle.obj_region.specs.Store.{array_at, is_ranged, with_low}
use Rattle.obj_region.proofs.Changing.{kept_low}
use Rattle.obj_region.proofs.Refusing.{low_range, low_full, low_free, no_cause}
use Rattle.obj_region.proofs.region.RegionStore.add_low.Goals as goal

pub returns-then-not-may_grow_low-clause-cause : goal.returns-then-not-may_grow_low-clause-cause
returns-then-not-may_grow_low-clause-cause c =
    let range : false ≡ is_ranged (with_low (array_at c.args.self.now c.args.at.0) c.args.value) =
    rw (c.deref.ensures.value, c.self.view_is) at (c.if-not-may_grow_low.ensures c.args.value) in
    low_range c.args.self.now c.args.at.0 c.args.value range

pub returns-then-self-eq-MAX_CELLS-clause-cause : goal.returns-then-self-eq-MAX_CELLS-clause-cause
returns-then-self-eq-MAX_CELLS-clause-cause c =
    let range : true ≡ is_ranged (with_low (array_at c.self.inside.objects.items c.args.at.0) c.args.value) =
    rw c.deref.ensures.value at (c.if-not-may_grow_low.ensures c.args.value) in
    rw (← c.self.view_is) (low_full c.self.inside.total c.self.inside.objects.items c.args.at.0 c.args.value c.self.invariant range c.if-self-eq-MAX_CELLS.true)

pub grow_low-requires-clause-range : goal.grow_low-requires-clause-range
grow_low-requires-clause-range c =
    sym (rw c.deref.ensures.value at (c.if-not-may_grow_low.ensures c.args.value))

pub returns-in_err-grow_low-clause-cause : goal.returns-in_err-grow_low-clause-cause
returns-in_err-grow_low-clause-cause c =
    let range : true ≡ is_ranged (with_low (array_at c.self.inside.objects.items c.args.at.0) c.args.value) =
    rw c.deref.ensures.value at (c.if-not-may_grow_low.ensures c.args.value) in
    let free = low_free c.self.inside.total c.self.inside.objects.items c.args.at.0 c.args.value c.self.invariant range c.if-self-eq-MAX_CELLS.false in
    no_cause c.from_residual.result c.from_residual.ensures.1 ∙ rw (← c.self.view_is) free

pub invariant_of-self-2 : goal.invariant_of-self-2
invariant_of-self-2 c =
    let range = rw c.deref.ensures.value at (c.if-not-may_grow_low.ensures c.args.value) in
    rw c.in_ok-grow_low.ensures.ok (kept_low _ _ _ _ c.self.invariant c.if-self-eq-MAX_CELLS.false (rw c.self.view_is c.requires) (sym range))

pub returns-clause-cause : goal.returns-clause-cause
returns-clause-cause c =
    let range : true ≡ is_ranged (with_low (array_at c.self.inside.objects.items c.args.at.0) c.args.value) =
    rw c.deref.ensures.value at (c.if-not-may_grow_low.ensures c.args.value) in
    rw (← c.self.view_is) (low_free c.self.inside.total c.self.inside.objects.items c.args.at.0 c.args.value c.self.invariant range c.if-self-eq-MAX_CELLS.false)

pub returns-clause-store : goal.returns-clause-store
returns-clause-store c = (invariant_of-self-2 c).1
