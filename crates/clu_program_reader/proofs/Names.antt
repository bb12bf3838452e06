-- Names that are the same, and names that aren't.
use Rattle.std.proofs.Common.{◌≡◌, ℕ, Bool, true, false, List, Some, None, refl, inl, inr}
use Rattle.std.specs.Prelude.{bytes_eq}
use Rattle.std.proofs.lemmas.Bool.{cases_Bool}
use Rattle.std.proofs.lemmas.Slice.Eq.{bytes_eq-Decides}

pub same : (z x : List ℕ) → z ≡ x → bytes_eq z x ≡ true
same z x e = (bytes_eq-Decides z x).1 e

pub other : (z x : List ℕ) → (z ≡ x → ⊥) → bytes_eq z x ≡ false
other z x h = elim (cases_Bool (bytes_eq z x)) [ inl e ↦ absurd (h ((bytes_eq-Decides z x).0 e)) | inr e ↦ e ]

pub ruleset same_names = (same, other)
