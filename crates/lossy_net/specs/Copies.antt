-- Copies of packets that are on their way, as a count for each packet and node.
use Rattle.std.specs.Prelude.{◌≡◌, ℕ, ◌<◌, ◌≤◌, ◌⊎◌, Bool, ◌&&◌, ◌==◌, List, sum_by, if◌then◌else◌}
use Rattle.lossy_net.specs.declared.copies.Copies.{Copies}

-- these are copies of the packet that `from` sent at the place `index`, on their way to `to`
abbrev pub are_of : ℕ → ℕ → ℕ → Copies → Bool
are_of to from index c = (c.to == to) && ((c.from == from) && (c.index == index))

-- how many of them are left
abbrev pub left_of : ℕ → ℕ → ℕ → Copies → ℕ
left_of to from index c = if are_of to from index c then c.left else 0

-- how many copies of a packet are left for a node
abbrev pub copies_left : List Copies → ℕ → ℕ → ℕ → ℕ
copies_left net to from index = sum_by (left_of to from index) net

-- so many copies of this packet are left for this node, and of any other as many as before
pub record ChangesOnly (old new : List Copies) (to from index count : ℕ) : Type 0 where
  pub changed : copies_left new to from index ≡ count
  pub others : (t f i : ℕ) → ¬ ((t ≡ to) × (f ≡ from) × (i ≡ index)) → copies_left new t f i ≡ copies_left old t f i

-- the first packet of which copies are left for a node, by sender, then by place
pub record IsFirst (net : List Copies) (node from index : ℕ) : Type 0 where
  pub left : 0 < copies_left net node from index
  pub first : (f i : ℕ) → 0 < copies_left net node f i → (from < f) ⊎ ((from ≡ f) × (index ≤ i))
