-- Low and high of an array that grows or shrinks.
use Rattle.std.specs.Prelude.{ℤ, ◌+ℤ◌, Bool, ◌&&◌}
use Rattle.obj_region.specs.Store.{Array, high_of, is_near}

-- low and high, changed by so much, are what they may be
abbrev pub stays_near : Array → ℤ → ℤ → Bool
stays_near array low_by high_by = is_near (array.low +ℤ low_by) && is_near (high_of array +ℤ high_by)
