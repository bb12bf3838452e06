-- Where a name stands among variables.
use Rattle.std.specs.Prelude.{◌≡◌, ℕ, zero, suc, true, false, List, [], ◌∷◌}
use Rattle.std.specs.Str.{bytes_eq}
use Rattle.machine_rules.specs.declared.frame.Var.{Var}

-- no variable has the name
abbrev pub IsMissing : List ℕ → List Var → Type 0
IsMissing x [] = Unit {0}
IsMissing x (v ∷ vs) = (bytes_eq x v.name ≡ false) × IsMissing x vs

-- the first variable with the name is at this place
abbrev pub IsFirst : List ℕ → List Var → ℕ → Type 0
IsFirst x [] i = ⊥
IsFirst x (v ∷ vs) zero = bytes_eq x v.name ≡ true
IsFirst x (v ∷ vs) (suc i) = (bytes_eq x v.name ≡ false) × IsFirst x vs i
