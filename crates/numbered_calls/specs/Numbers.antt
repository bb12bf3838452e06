-- What the table keeps of its entries. No public clause cites this file.
use Rattle.std.specs.Prelude.{ℕ, ◌<◌, ◌≤◌, List, [], ◌∷◌}

-- the numbers rise, from above `low` to at most `last`
abbrev pub Rise : {X : Type 0} → ℕ → ℕ → List (ℕ × X) → Type 0
Rise low last [] = low ≤ last
Rise low last (e ∷ es) = (low < e.0) × Rise e.0 last es
