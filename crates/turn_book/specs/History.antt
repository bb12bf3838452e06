-- How a history is made by several passes. A log has each entry with the number of the pass that made it.
use Rattle.std.specs.Prelude.{◌≡◌, ◌≢◌, ℕ, List, map, length, nat_le, ◌==◌, if◌then◌else◌}
use Rattle.std.specs.List.{All, AllPairs, Contains, filter}

-- the entries of a log
abbrev pub entries : {E : Type 0} → List (ℕ × E) → List E
entries log = map (λ p. p.1) log

-- the entries of one number
abbrev pub entries_of : {E : Type 0} → ℕ → List (ℕ × E) → List E
entries_of k log = entries (filter (λ p. p.0 == k) log)

-- the numbers in a list of pairs
abbrev pub numbers : {A : Type 0} → List (ℕ × A) → List ℕ
numbers ps = map (λ p. p.0) ps

-- the longer of two histories
abbrev pub longer : {E : Type 0} → List E → List E → List E
longer xs ys = if nat_le (length xs) (length ys) then ys else xs

-- The history is made of these parts, each the number of a pass and the entries that it made: some log of the history has the parts' entries, each part in its order, and no others, each once.
pub record IsMadeOf {E : Type 0} (history : List E) (parts : List (ℕ × List E)) : Type 0 where
  pub log : List (ℕ × E)
  pub whole : entries log ≡ history
  pub in_order : All (λ p. entries_of p.0 log ≡ p.1) parts
  pub no_others : All (Contains (numbers parts)) (numbers log)
  pub once : AllPairs (λ j k. j ≢ k) (numbers parts)
