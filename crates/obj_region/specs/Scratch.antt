-- A scratch as contracts see it.
use Rattle.std.specs.Prelude.{ℕ, length, take, Some}
use Rattle.obj_region.specs.declared.scratch.Scratch.{Scratch}
use Rattle.obj_region.specs.Answers.{StoreSeen}
use Rattle.obj_region.specs.Store.{Store}

-- a region's objects, none of which may change, with the name of the reference by which it was lent
abbrev pub lent : Store → ℕ → StoreSeen
lent objects lender = record { objects = objects; bound = length objects; below = objects; lender = Some lender }

-- the objects of the region that it was lent, of which those below its mark don't change
abbrev pub scratch_seen : Scratch → StoreSeen
scratch_seen scratch = record {
  objects = scratch.region.now;
  bound = scratch.mark;
  below = take scratch.mark scratch.region.now;
  lender = Some scratch.region.ghost_name;
}
