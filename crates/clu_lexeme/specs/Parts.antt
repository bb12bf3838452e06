-- Going over quoted bytes part by part.
use Rattle.std.specs.Prelude.{ℕ, ◌<◌, ◌≡◌, List, ◌∷◌, length}
use Rattle.clu_text.specs.Spelling.{HasParts}

-- The bytes begin with a part that stands for the byte, and these follow.
pub record IsFirstPart (quote : ℕ) (bytes : List ℕ) (byte : ℕ) (behind : List ℕ) : Type 0 where
  pub shorter : length behind < length bytes
  pub part : (content : List ℕ) → HasParts quote bytes content → (rest : List ℕ) × HasParts quote behind rest × (content ≡ byte ∷ rest)
