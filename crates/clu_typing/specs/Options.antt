-- How rules are written: an option that is there where the rule holds. Each `>>=` and each `needs` is one more condition.
use Rattle.std.specs.Prelude.{Bool, true, false, List, [], ◌∷◌, Option, Some, None}

-- both are there
infixl 10 ◌>>=◌
abbrev pub ◌>>=◌ : {A B : Type 0} → Option A → (A → Option B) → Option B
None >>= f = None
(Some x) >>= f = f x

-- what comes, where the condition holds
abbrev pub needs : {A : Type 0} → Bool → Option A → Option A
needs true o = o
needs false o = None

-- all of them are there
abbrev pub all_of : {A : Type 0} → List (Option A) → Option (List A)
all_of [] = Some []
all_of (o ∷ os) = o >>= λ x. all_of os >>= λ xs. Some (x ∷ xs)
