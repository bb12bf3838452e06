-- Rows by tests.
use Rattle.std.proofs.Common.{◌≡◌, Bool, true, false, if◌then◌else◌, Option, refl}
use Rattle.machine_rules.specs.World.{Next}

-- the row of a test that is true, and of one that is false
pub chosen : (b : Bool) (x y : Option Next) → b ≡ true → (if b then x else y) ≡ x
chosen true x y h = refl
chosen false x y h = cc

pub other : (b : Bool) (x y : Option Next) → b ≡ false → (if b then x else y) ≡ y
other true x y h = cc
other false x y h = refl
