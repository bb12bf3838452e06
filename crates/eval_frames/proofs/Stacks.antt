-- Lemmas on lists from a place on.
use Rattle.std.proofs.Common.{◌≡◌, ℕ, ◌+◌, ◌<◌, List, ◌∷◌, drop, length, Some, slice_get, refl, ◌∙◌, add-one}
use Rattle.std.proofs.Math.Seq.{drop-cons}
use Rattle.std.proofs.lemmas.Option.{get_or_from_slice_get, slice_get_within}

-- from a place on, a list is the item there and what is behind it
pub drop-at : {X : Type 0} → (xs : List X) (i : ℕ) (x : X) → slice_get xs i ≡ Some x → drop i xs ≡ x ∷ drop (i + 1) xs
drop-at xs i x e = drop-cons xs i x (slice_get_within xs i x e) ∙ rw (get_or_from_slice_get xs i x x e, add-one) refl
