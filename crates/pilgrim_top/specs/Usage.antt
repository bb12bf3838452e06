-- The words of a command line.
use Rattle.std.specs.Prelude.{◌≡◌, ◌≢◌, ℕ, List, [], ◌∷◌, String, string_bytes, map, codes}
use Rattle.std.specs.declared.alloc.Global.{Global}
use Rattle.pilgrim_top.specs.declared.usage.Usage.{Usage}
use Rattle.pilgrim_top.specs.declared.usage.Usage.TheVariants.{Check, Replay, Erase, Load, Run}

-- the words as texts
abbrev pub texts_of : List (String Global) → List (List ℕ)
texts_of words = map string_bytes words

-- a name of a file doesn't begin with a hyphen
abbrev pub IsName : List ℕ → Type 0
IsName [] = Unit {0}
IsName (b ∷ bs) = b ≢ 45

-- the words ask for this, where it can be asked for yet
abbrev pub IsUsage : Usage → List (List ℕ) → Type 0
IsUsage (Check file) words = ⊥
IsUsage (Replay file script) words = (words ≡ codes "replay" ∷ string_bytes file ∷ string_bytes script ∷ []) × IsName (string_bytes file) × IsName (string_bytes script)
IsUsage (Erase file script) words = ⊥
IsUsage (Load calls) words = ⊥
IsUsage (Run run) words = ⊥
