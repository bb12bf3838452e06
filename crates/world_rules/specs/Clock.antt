-- How far a node's clock may lag behind the list.
use Rattle.std.specs.Prelude.{◌≡◌, ℕ, Bool, true, false, ◌⊎◌, List, [], ◌∷◌, None}
use Rattle.world_types.specs.declared.event.Told.{Told}
use Rattle.world_rules.specs.Said.{halted, rounds}
pub use Rattle.world_types.specs.Rounds.{Round, total, opening, clock_reads, Ordered, ClosedBy}

-- some first part of the openings and closings
abbrev pub Behind : List Round → List Round → Type 0
Behind told [] = told ≡ []
Behind told (r ∷ rs) = (told ≡ r ∷ rs) ⊎ ((told ≡ record { opens = r.opens; closes = None } ∷ rs) ⊎ Behind told rs)

-- all of them, but an opening that isn't closed may be lacking
abbrev pub Lacks : List Round → List Round → Type 0
Lacks told rs = (told ≡ rs) ⊎ ((a : ℕ) × (rs ≡ record { opens = a; closes = None } ∷ told))

abbrev pub KnowsBy : Bool → List Round → List Round → Type 0
KnowsBy true told rs = Behind told rs
KnowsBy false told rs = Lacks told rs

-- the clock of node n was told these rounds of the list
abbrev pub Knows : ℕ → List Told → List Round → Type 0
Knows n past told = KnowsBy (halted n past) told (rounds past)
