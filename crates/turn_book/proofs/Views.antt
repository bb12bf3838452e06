-- The views of a table, where one of them changes or one more comes.
use Rattle.std.proofs.Common.{◌≡◌, ◌≢◌, ◌⊎◌, ℕ, zero, suc, ◌+◌, ◌<◌, List, [], ◌∷◌, ◌++◌, length, get_or, set, sum_by, sym, refl, ap, ◌∙◌, subst, inl, inr, ⊎_elim, arith}
use mathlib.Core.Option.{some, some-injective, some-ne-none}
use lib.ListN.{get_elem?}
use Rattle.std.proofs.lemmas.List.Sums.{sum_by-set}
use Rattle.atomic_table.proofs.Lists.{at_set}

module _ {A : Type 0} where
  pub at_lt : (l : List A) (i : ℕ) (a : A) → get_elem? l i ≡ some a → i < length l
  at_lt [] i a at = absurd (some-ne-none a (sym at))
  at_lt (x ∷ xs) zero a at = omega arith
  at_lt (x ∷ xs) (suc i) a at = omega (arith, at_lt xs i a at)

  pub at_or : (l : List A) (i : ℕ) (a d : A) → get_elem? l i ≡ some a → get_or l i d ≡ a
  at_or [] i a d at = absurd (some-ne-none a (sym at))
  at_or (x ∷ xs) zero a d at = some-injective x a at
  at_or (x ∷ xs) (suc i) a d at = at_or xs i a d at

  pub same_at : (l : List A) (i : ℕ) (a b : A) → get_elem? l i ≡ some a → get_elem? l i ≡ some b → a ≡ b
  same_at l i a b at at' = some-injective a b (sym at ∙ at')

  pub only_one : (a b : A) (j : ℕ) → get_elem? (a ∷ []) j ≡ some b → (j ≡ 0) × (a ≡ b)
  only_one a b zero at = (refl, some-injective a b at)
  only_one a b (suc j) at = absurd (some-ne-none b (sym at))

  -- an element of a longer list is one of the list, or the new one at its place
  pub at_end : (l : List A) (a b : A) (j : ℕ) → get_elem? (l ++ a ∷ []) j ≡ some b → (get_elem? l j ≡ some b) ⊎ ((j ≡ length l) × (a ≡ b))
  at_end [] a b j at = inr (only_one a b j at)
  at_end (x ∷ xs) a b zero at = inl at
  at_end (x ∷ xs) a b (suc j) at = ⊎_elim
      (λ (old : get_elem? xs j ≡ some b). inl old)
      (λ (new : (j ≡ length xs) × (a ≡ b)). inr (ap suc new.0, new.1))
      (at_end xs a b j at)

  pub sum_by-set_at : (f : A → ℕ) (l : List A) (i : ℕ) (a b : A) → get_elem? l i ≡ some a → sum_by f (set l i b) + f a ≡ sum_by f l + f b
  sum_by-set_at f l i a b at = subst (λ (z : A). sum_by f (set l i b) + f z ≡ sum_by f l + f b) (at_or l i a a at) (sum_by-set f l i b a (at_lt l i a at))

  -- a fact of each place stays, where it holds of the one that changed
  pub each_after : (P : ℕ → A → Type 0) (l : List A) (i : ℕ) (b : A) → P i b
      → ((j : ℕ) (a : A) → j ≢ i → get_elem? l j ≡ some a → P j a)
      → (j : ℕ) (a : A) → get_elem? (set l i b) j ≡ some a → P j a
  each_after P l i b here others j a at = ⊎_elim
      (λ (it : (j ≡ i) × (b ≡ a)). subst (λ (z : ℕ × A). P z.0 z.1) (λ k. (sym it.0 k, it.1 k)) here)
      (λ (other : (j ≢ i) × (get_elem? l j ≡ some a)). others j a other.0 other.1)
      (at_set l i j b a at)

module _ {A : Type 0} (P : A → A → Type 0) (flip : (a b : A) → P a b → P b a) where
  -- a fact of each two places stays, where it holds of the one that changed and each other
  pub pairs_after : (l : List A) (i : ℕ) (b : A)
      → ((j : ℕ) (a : A) → j ≢ i → get_elem? l j ≡ some a → P b a)
      → ((j k : ℕ) (a c : A) → j ≢ k → get_elem? l j ≡ some a → get_elem? l k ≡ some c → P a c)
      → (j k : ℕ) (a c : A) → j ≢ k → get_elem? (set l i b) j ≡ some a → get_elem? (set l i b) k ≡ some c → P a c
  pairs_after l i b here others j k a c apart at at' = ⊎_elim
      (λ (it : (j ≡ i) × (b ≡ a)). ⊎_elim
      (λ (too : (k ≡ i) × (b ≡ c)). absurd (apart (it.0 ∙ sym too.0)))
      (λ (other : (k ≢ i) × (get_elem? l k ≡ some c)). subst (λ (z : A). P z c) it.1 (here k c other.0 other.1))
      (at_set l i k b c at'))
      (λ (other : (j ≢ i) × (get_elem? l j ≡ some a)). ⊎_elim
      (λ (it : (k ≡ i) × (b ≡ c)). subst (λ (z : A). P a z) it.1 (flip b a (here j a other.0 other.1)))
      (λ (too : (k ≢ i) × (get_elem? l k ≡ some c)). others j k a c apart other.1 too.1)
      (at_set l i k b c at'))
      (at_set l i j b a at)

  -- the same where one more comes
  pub pairs_end : (l : List A) (b : A)
      → ((j : ℕ) (a : A) → get_elem? l j ≡ some a → P b a)
      → ((j k : ℕ) (a c : A) → j ≢ k → get_elem? l j ≡ some a → get_elem? l k ≡ some c → P a c)
      → (j k : ℕ) (a c : A) → j ≢ k → get_elem? (l ++ b ∷ []) j ≡ some a → get_elem? (l ++ b ∷ []) k ≡ some c → P a c
  pairs_end l b here others j k a c apart at at' = ⊎_elim
      (λ (old : get_elem? l j ≡ some a). ⊎_elim
      (λ (too : get_elem? l k ≡ some c). others j k a c apart old too)
      (λ (it : (k ≡ length l) × (b ≡ c)). subst (λ (z : A). P a z) it.1 (flip b a (here j a old)))
      (at_end l b c k at'))
      (λ (it : (j ≡ length l) × (b ≡ a)). ⊎_elim
      (λ (old : get_elem? l k ≡ some c). subst (λ (z : A). P z c) it.1 (here k c old))
      (λ (too : (k ≡ length l) × (b ≡ c)). absurd (apart (it.0 ∙ sym too.0)))
      (at_end l b c k at'))
      (at_end l b a j at)
