-- What a reader has, where it is read up to a limit.
use Rattle.std.proofs.Common.{◌≡◌, ℕ, ◌+◌, ◌≤◌, List, length, take, Option, Some, None, IfSome, option_map, ◌∙◌, arith}
use Rattle.std.proofs.lemmas.List.{take_all, length-take}

-- what is within the limit though one byte more was asked for is all that there was
pub IfSome-take : (known : Option (List ℕ)) (most : ℕ) (bytes : List ℕ) → IfSome (option_map (take (most + 1)) known) (λ xs. bytes ≡ xs) → length bytes ≤ most → IfSome known (λ all. bytes ≡ all)
IfSome-take None most bytes e le = tt
IfSome-take (Some all) most bytes e le =
    let short : length (take (most + 1) all) ≤ most = rw (← e) le in
    let all_short : length all ≤ most + 1 = omega (arith, length-take (most + 1) all) in
    e ∙ take_all (most + 1) all all_short
