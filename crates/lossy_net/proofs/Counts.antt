-- Counts of copies, and the entries that they come from.
use Rattle.std.proofs.Common.{◌≡◌, ℕ, suc, ◌+◌, ◌<◌, Bool, true, false, List, [], ◌∷◌, get_or, refl, arith}
use Rattle.std.specs.List.{All}
use Rattle.std.proofs.lemmas.List.Sums.{sum_by-cons, get_or-le-sum_by}
use Rattle.lossy_net.specs.declared.copies.Copies.{Copies}
use Rattle.lossy_net.specs.Copies.{are_of, left_of, copies_left}
use Rattle.lossy_net.specs.Order.{StandAt}

first_entry : (c : Copies) (net : List Copies) (t f i : ℕ) → are_of t f i c ≡ true → StandAt (c ∷ net) t f i 0
first_entry c net t f i is_of = record { within = omega arith; of_it = λ d. is_of }

later_entry : (c : Copies) (net : List Copies) (t f i k : ℕ) → StandAt net t f i k → StandAt (c ∷ net) t f i (suc k)
later_entry c net t f i k entry = record { within = omega (arith, entry.within); of_it = entry.of_it }

entry_by : (is_of : Bool) (c : Copies) (net : List Copies) (t f i : ℕ) → are_of t f i c ≡ is_of → (0 < copies_left net t f i → (k : ℕ) × StandAt net t f i k) →
    0 < left_of t f i c + copies_left net t f i → (k : ℕ) × StandAt (c ∷ net) t f i k
entry_by true c net t f i e rest l = (0, first_entry c net t f i e)
entry_by false c net t f i e rest l =
    let none : left_of t f i c ≡ 0 = rw e refl in
    let later = rest (omega arith) in
    (suc later.0, later_entry c net t f i later.0 later.1)

-- where a copy is left there is an entry
pub some_entry : (net : List Copies) (t f i : ℕ) → 0 < copies_left net t f i → (k : ℕ) × StandAt net t f i k
some_entry [] t f i left = absurd (omega arith)
some_entry (c ∷ net) t f i left = entry_by (are_of t f i c) c net t f i refl (λ l. some_entry net t f i l) (rw (sum_by-cons (left_of t f i) c net) at left)

left_same : (t f i : ℕ) (c : Copies) → are_of t f i c ≡ true → left_of t f i c ≡ c.left
left_same t f i c is_of = rw is_of refl

-- an entry that has a copy left is counted
pub entry_counts : (net : List Copies) (t f i k : ℕ) → StandAt net t f i k → All (λ c. 0 < c.left) net → 0 < copies_left net t f i
entry_counts net t f i k entry some_left =
    let blank : Copies = record { to = 0; from = 0; index = 0; left = 0 } in
    let some : 0 < (get_or net k blank).left = some_left k blank entry.within in
    let counted = left_same t f i (get_or net k blank) (entry.of_it blank) in
    omega (arith, get_or-le-sum_by (left_of t f i) net k blank entry.within)
