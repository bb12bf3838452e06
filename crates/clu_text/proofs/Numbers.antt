-- The number that digits spell.
use Rattle.std.proofs.Common.{fold, ℕ, ◌+◌, ◌-◌, ◌*◌, ◌≤◌, ◌<◌, List, [], ◌∷◌, length, get_or, drop, arith}
use Rattle.std.proofs.lemmas.List.{at_drop_more}

-- the number that digits spell behind those of `n`
abbrev pub int_from : ℕ → List ℕ → ℕ
int_from = fold (λ n b. 10 * n + (b - 48))

-- more digits make no smaller number
pub int_from-grows : (n : ℕ) (bytes : List ℕ) → n ≤ int_from n bytes
int_from-grows n [] = omega arith
int_from-grows n (b ∷ bytes) = let ih = int_from-grows (10 * n + (b - 48)) bytes in omega arith

-- the whole number is at least what is spelled up to one more digit
pub int_from-reaches : (n i : ℕ) (bytes : List ℕ) → i < length bytes → 10 * n + (get_or bytes i 0 - 48) ≤ int_from n (drop i bytes)
int_from-reaches n i bytes lt =
    let step = at_drop_more (int_from n) bytes i 0 lt in
    let grows = int_from-grows (10 * n + (get_or bytes i 0 - 48)) (drop (i + 1) bytes) in
    omega arith
