-- Which nodes are halted, and in which rounds.
use Rattle.std.specs.Prelude.{ℕ, suc, List, [], ◌∷◌, reverse, length, Bool, Option, if◌then◌else◌, refl}
use Rattle.std.specs.Coded.{Coded, code_by, coded×, coded_ℕ, coded_list, coded_option}
use Rattle.std.specs.Ordering.{nat_cmp}
use Rattle.std.specs.FinSet as set
use Rattle.world_types.specs.Rounds.{Round}

-- how many nodes there are, which of them are halted, and the rounds, the newest first
pub record Halting : Type 0 where
  pub nodes : ℕ
  pub halted : set.FinSet nat_cmp
  pub rounds : List Round

-- a round is stored as the pair of its stamps
abbrev pub round_code : Coded Round
round_code =
    code_by (ℕ × Option ℕ) (coded× coded_ℕ (coded_option coded_ℕ)) (λ r. (r.opens, r.closes)) (λ p. record { opens = p.0; closes = p.1 }) (λ _. refl)

-- the whole is stored as its parts, in a row
abbrev pub halting_code : Coded Halting
halting_code =
    code_by (ℕ × (set.FinSet nat_cmp × List Round)) (coded× coded_ℕ (coded× (set.code coded_ℕ) (coded_list round_code)))
    (λ h. (h.nodes, (h.halted, h.rounds))) (λ p. record { nodes = p.0; halted = p.1.0; rounds = p.1.1 }) (λ _. refl)

-- the nodes from this one on whose flag is up
abbrev pub flagged : ℕ → List Bool → set.FinSet nat_cmp
flagged node [] = set.empty
flagged node (flag ∷ flags) = if flag then set.insert (flagged (suc node) flags) node else flagged (suc node) flags

-- what a flag for each node, from node 1, and the rounds, the oldest first, say
abbrev pub halting_of : List Bool → List Round → Halting
halting_of flags rounds = record { nodes = length flags; halted = flagged 1 flags; rounds = reverse rounds }
