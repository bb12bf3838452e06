-- What is kept of a pending call's arguments: nothing.
use Rattle.std.specs.Prelude.{ℕ, refl}
use Rattle.std.specs.Coded.{Coded, code_by, coded_ℕ}

-- stored as any number
abbrev pub nothing_code : Coded Unit
nothing_code = code_by ℕ coded_ℕ (λ _. 0) (λ _. tt) (λ _. refl)
