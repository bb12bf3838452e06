-- What a clock keeps of the rounds that it was told.
use Rattle.std.specs.Prelude.{◌≡◌, ℕ, List, [], ◌∷◌, Option, unwrap_or}
use Rattle.world_types.specs.Rounds.{Round, Ordered}
use Rattle.world_types.specs.Rounds as rounds

-- the halted total of the closed rounds, the opening that isn't closed, and the last stamp told, or 0
pub record Kept : Type 0 where
  pub total : ℕ
  pub opening : Option ℕ
  pub last : ℕ

-- the last opening or closing, or 0 where there is none
abbrev pub last_told : List Round → ℕ
last_told [] = 0
last_told (r ∷ rs) = unwrap_or r.closes r.opens

-- the rounds are in order by the last stamp told, and these values are theirs
pub record StandsFor (kept : Kept) (told : List Round) : Type 0 where
  pub in_order : Ordered told kept.last
  pub total : kept.total ≡ rounds.total told
  pub opening : kept.opening ≡ rounds.opening told
  pub last : kept.last ≡ last_told told
