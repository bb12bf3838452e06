-- What a rule that holds says of its conditions.
use Rattle.std.proofs.Common.{◌≡◌, Bool, true, false, Option, Some, None, refl}
use Rattle.clu_typing.specs.Options.{◌>>=◌, needs}

pub some_inj : {A : Type 0} (x y : A) → Some x ≡ Some y → x ≡ y
some_inj x y h = cc

pub bind_some : {A B : Type 0} (o : Option A) (f : A → Option B) (y : B) → (o >>= f) ≡ Some y → (x : A) × (o ≡ Some x) × (f x ≡ Some y)
bind_some None f y h = absurd cc
bind_some (Some x) f y h = (x, refl, h)

pub needs_some : {A : Type 0} (b : Bool) (o : Option A) (y : A) → needs b o ≡ Some y → (b ≡ true) × (o ≡ Some y)
needs_some true o y h = (refl, h)
needs_some false o y h = absurd cc
