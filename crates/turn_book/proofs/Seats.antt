-- What a seat holds, by what contracts see of it.
use Rattle.std.proofs.Common.{◌≡◌, ℕ, List, [], ◌∷◌, Option, Some, None, sym, ap, ◌∙◌, true≢false}
use Rattle.std.specs.Option.{IsSome}
use Rattle.atomic_table.specs.Table.{rest}
use Rattle.turn_book.specs.Seated.{value_of, in_hand}

module _ {A : Type 0} where
  -- an option that has the value x
  pub value_is : (o : Option A) (some : IsSome o) (x : A) → value_of o some ≡ x → o ≡ Some x
  value_is (Some y) some x is = ap Some is
  value_is None some x is = absurd (true≢false (sym some))

  pub value_of-Some : (o : Option A) (some : IsSome o) (x : A) → o ≡ Some x → value_of o some ≡ x
  value_of-Some (Some y) some x is = cc
  value_of-Some None some x is = absurd (true≢false (sym some))

  -- the slot that is out, by its value
  pub holds : (carried : List (ℕ × Option A)) (full : IsSome (in_hand carried)) (x : A) → carried ≡ (0, in_hand carried) ∷ [] → value_of (in_hand carried) full ≡ x → carried ≡ (0, Some x) ∷ []
  holds carried full x alone is = alone ∙ ap (λ (o : Option A). (0, o) ∷ []) (value_is (in_hand carried) full x is)

  pub first_out : (carried : List (ℕ × A)) (x : A) → carried ≡ (0, x) ∷ [] → carried ≡ (0, x) ∷ rest carried
  first_out carried x alone = alone ∙ ap (λ (c : List (ℕ × A)). (0, x) ∷ rest c) (sym alone)
