-- The order of packets: by node, then by sender, then by place.
use Rattle.std.proofs.Common.{◌≡◌, ℕ, ◌<◌, ◌≤◌, ◌⊎◌, true, false, inl, inr, arith}
use Rattle.std.proofs.lemmas.Bool.{cases_order}
use Rattle.std.proofs.lemmas.Bool.Decides.{nat_tests}
use Rattle.lossy_net.specs.declared.copies.Copies.{Copies}
use Rattle.lossy_net.specs.Copies.{are_of}
use Rattle.lossy_net.specs.Order.{precedes}

pub precedes_same : (t f i : ℕ) (c : Copies) → are_of t f i c ≡ true → precedes t f i c ≡ false
precedes_same t f i c same = grind (arith, nat_tests)

pub precedes_is : (t f i : ℕ) (c d : Copies) → are_of t f i d ≡ true → precedes d.to d.from d.index c ≡ true → precedes t f i c ≡ true
precedes_is t f i c d is first = grind (arith, nat_tests)

pub precedes_further : (t f i : ℕ) (c d : Copies) → precedes d.to d.from d.index c ≡ true → precedes t f i d ≡ true → precedes t f i c ≡ true
precedes_further t f i c d first second = grind (arith, nat_tests)

pub precedes_other : (t f i n : ℕ) (c : Copies) → precedes t f i c ≡ false → are_of t f i c ≡ false → precedes c.to c.from c.index (record { to = t; from = f; index = i; left = n }) ≡ true
precedes_other t f i n c not_before other = grind (arith, nat_tests)

pub precedes_all : (node : ℕ) (c : Copies) → precedes node 0 0 c ≡ true → c.to < node
precedes_all node c before = grind (arith, nat_tests)

pub precedes_none : (node : ℕ) (c : Copies) → precedes node 0 0 c ≡ false → node ≤ c.to
precedes_none node c behind = grind (arith, nat_tests)

pub to_node : (t f i : ℕ) (c : Copies) → are_of t f i c ≡ true → c.to ≡ t
to_node t f i c is = grind (arith, nat_tests)

pub precedes_upto : (t f i : ℕ) (c : Copies) → precedes t f i c ≡ true → c.to ≤ t
precedes_upto t f i c before = grind (arith, nat_tests)

pub same_is_no_later : (t f i : ℕ) (c : Copies) → are_of t f i c ≡ true → (c.from < f) ⊎ ((c.from ≡ f) × (c.index ≤ i))
same_is_no_later t f i c is = inr (grind (arith, nat_tests), grind (arith, nat_tests))

pub before_is_no_later : (t f i : ℕ) (c : Copies) → c.to ≡ t → precedes t f i c ≡ true → (c.from < f) ⊎ ((c.from ≡ f) × (c.index ≤ i))
before_is_no_later t f i c here before = elim (cases_order c.from f) [
  | inl same ↦ inr (same, grind (arith, nat_tests))
  | inr (inl less) ↦ inl less
  | inr (inr more) ↦ absurd (grind (arith, nat_tests))
]

pub of_itself : (node : ℕ) (c : Copies) → c.to ≡ node → are_of node c.from c.index c ≡ true
of_itself node c here = grind (arith, nat_tests)
