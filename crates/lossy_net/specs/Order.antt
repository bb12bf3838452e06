-- Copies of packets in order, by which they are found.
use Rattle.std.specs.Prelude.{◌≡◌, ℕ, ◌<◌, Bool, true, ◌&&◌, ◌||◌, ◌==◌, nat_lt, List, length, slice_index_or, All, AllPairs, IsTrue}
use Rattle.lossy_net.specs.declared.copies.Copies.{Copies}
use Rattle.lossy_net.specs.Copies.{are_of}

-- these stand before those of another packet: by node, then by sender, then by place
abbrev pub precedes : ℕ → ℕ → ℕ → Copies → Bool
precedes to from index c = nat_lt c.to to || ((c.to == to) && (nat_lt c.from from || ((c.from == from) && nat_lt c.index index)))

-- c stands before d
abbrev pub StandsBefore : Copies → Copies → Type 0
StandsBefore c d = IsTrue (precedes d.to d.from d.index c)

-- the copies of this packet, on their way to `to`, stand at place k
pub record StandAt (net : List Copies) (to from index k : ℕ) : Type 0 where
  pub within : k < length net
  pub of_it : (d : Copies) → are_of to from index (slice_index_or net k d) ≡ true

-- each stands before all later ones, and has a copy left
pub record AreInOrder (net : List Copies) : Type 0 where
  pub order : AllPairs StandsBefore net
  pub some_left : All (λ c. 0 < c.left) net
