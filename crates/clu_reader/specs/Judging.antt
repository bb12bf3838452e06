-- Looking for the first line that breaks a rule.
use Rattle.std.specs.Prelude.{ℕ, min, Option, Some, None}

-- there is no such line where the rule holds, and one where it doesn't
abbrev pub Judges : Option ℕ → Type 0 → Type 0
Judges None P = P
Judges (Some _) P = P → ⊥

-- the earlier of two lines, as far as there are any
abbrev pub earlier : Option ℕ → Option ℕ → Option ℕ
earlier (Some a) (Some b) = Some (min a b)
earlier (Some a) None = Some a
earlier None b = b
