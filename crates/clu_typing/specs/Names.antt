-- Lists of names, and what is kept by name.
use Rattle.std.specs.Prelude.{ℕ, suc, Bool, true, false, not, ◌&&◌, ◌||◌, if◌then◌else◌, nat_le, List, [], ◌∷◌, length, Option, Some, None}
use Rattle.std.specs.Str.{bytes_eq}
use Rattle.clu_tree.specs.declared.shape.Shape.{Shape}
use Rattle.clu_tree.specs.declared.shape.Named.{Named, out-Named}

-- the name is one of these
abbrev pub is_among : List ℕ → List (List ℕ) → Bool
is_among x [] = false
is_among x (y ∷ ys) = bytes_eq x y || is_among x ys

-- no name stands twice
abbrev pub distinct : List (List ℕ) → Bool
distinct [] = true
distinct (x ∷ xs) = not (is_among x xs) && distinct xs

-- each of the names is one of its owner's
abbrev pub are_among : List (List ℕ) → List (List ℕ) → Bool
are_among own [] = true
are_among own (x ∷ xs) = is_among x own && are_among own xs

-- the first thing that is kept under the name
abbrev pub lookup : {A : Type 0} → List ℕ → List (List ℕ × A) → Option A
lookup x [] = None
lookup x (p ∷ ps) = if bytes_eq x p.0 then Some p.1 else lookup x ps

-- the place of the field or tag of this name, counted from k, and its type
abbrev pub field_after : ℕ → List ℕ → List Named → Option (ℕ × Shape)
field_after k x [] = None
field_after k x (f ∷ fs) = if bytes_eq x (out-Named f).name then Some (k, (out-Named f).shape) else field_after (suc k) x fs

-- a type has at most 200 fields or tags, and a routine at most 200 parameters
abbrev pub within_part_limit : {A : Type 0} → List A → Bool
within_part_limit xs = nat_le (length xs) 200

-- a program has at most 10,000 routines, clusters and node variables of each kind
abbrev pub within_count_limit : {A : Type 0} → List A → Bool
within_count_limit xs = nat_le (length xs) 10000
