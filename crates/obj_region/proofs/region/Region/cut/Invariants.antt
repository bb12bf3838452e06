use Rattle.std.proofs.Common.{◌≡◌, length, take}
use Rattle.obj_region.proofs.Changing.{Kept}
use Rattle.obj_region.proofs.region.Region.cut.Given as goal

abbrev pub invariant-loop-self : goal.invariant-loop-self
invariant-loop-self l =
    Kept l.self-inside.total l.self-inside.objects.items × (take l.mark l.self-inside.objects.items ≡ take l.mark l.initial.self-inside.objects.items)

abbrev pub decreases-loop-self : goal.decreases-loop-self
decreases-loop-self l = length l.self-inside.objects.items
