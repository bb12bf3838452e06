-- The newest round of a list that has the oldest first.
use Rattle.std.proofs.Common.{◌≡◌, ℕ, ◌+◌, ◌-◌, List, [], ◌∷◌, ◌++◌, length, set, get_or, reverse, Option, Some, None, IsSome, refl, sym, ap, ◌∙◌, arith, length-append}
use Rattle.std.proofs.Math.Seq.{set-append_seam, get_or-append_seam}
use Rattle.std.proofs.lemmas.List.{reverse-append, reverse-reverse}
use Rattle.world_types.specs.Rounds.{Round, closed, closed_at, opening, opening_of}

closes : (earlier : List Round) (r old : Round) (i b : ℕ) → i ≡ length earlier → old ≡ r →
    reverse (set (earlier ++ r ∷ []) i (record { opens = old.opens; closes = Some b })) ≡ record { opens = r.opens; closes = Some b } ∷ reverse earlier
closes earlier r old i b at is =
    rw (at, is, set-append_seam earlier r [] (record { opens = r.opens; closes = Some b }), reverse-append earlier (record { opens = r.opens; closes = Some b } ∷ [])) refl

closes_open : (o : Option ℕ) (a b : ℕ) → IsSome (opening_of a o) → closed_at o b ≡ Some b
closes_open None a b is_open = refl
closes_open (Some c) a b is_open = cc

closes_newest : (newest rounds : List Round) (old : Round) (i b : ℕ) → rounds ≡ reverse newest → IsSome (opening newest) → i ≡ length rounds - 1 → old ≡ get_or rounds i old →
    reverse (set rounds i (record { opens = old.opens; closes = Some b })) ≡ closed b newest
closes_newest [] rounds old i b are is_open at is = cc
closes_newest (r ∷ newest) rounds old i b are is_open at is =
    let split : rounds ≡ reverse newest ++ r ∷ [] = are ∙ reverse-append (r ∷ []) newest in
    let many : length rounds ≡ length (reverse newest) + 1 = rw split (length-append (reverse newest) (r ∷ [])) in
    let place : i ≡ length (reverse newest) = omega arith in
    let same : old ≡ r = is ∙ rw (split, place) (get_or-append_seam (reverse newest) r [] old) in
    rw (split, closes_open r.closes r.opens b is_open) (closes (reverse newest) r old i b place same ∙ ap (λ rest. record { opens = r.opens; closes = Some b } ∷ rest) (reverse-reverse newest))

-- closing the last one is closing the newest, where that one is open
pub reverse-closed : (rounds : List Round) (old : Round) (i b : ℕ) → IsSome (opening (reverse rounds)) → i ≡ length rounds - 1 → old ≡ get_or rounds i old →
    reverse (set rounds i (record { opens = old.opens; closes = Some b })) ≡ closed b (reverse rounds)
reverse-closed rounds old i b = closes_newest (reverse rounds) rounds old i b (sym (reverse-reverse rounds))
