-- What the definitions are proved to say.
use Rattle.std.specs.Prelude.{◌≡◌, ℕ, true, false, Bool, List, ◌∷◌, ◌++◌, Option, Some}
use Rattle.std.specs.Bool.{Decides}
use Rattle.std.specs.Cmp.{IsEquivalence}
use Rattle.std.specs.List.{list_any}
use Rattle.clu_tree.specs.declared.shape.Shape.{Shape}
use Rattle.clu_tree.specs.declared.program.Program.{Program}
use Rattle.clu_typing.specs.Same.{key}
use Rattle.clu_typing.specs.Types.{Declarations, meanings, same, is_transmissible}
use Rattle.clu_typing.specs.Exceptions.{Guard, takes, is_wanted, accepts}
use Rattle.clu_typing.specs.Programs.{declarations_of, filled}
use Rattle.clu_typing.specs.Bare.{bare}
use Rattle.clu_typing.specs.Holding.{Holds}

-- Two types are the same exactly where their keys are equal, so being the same is an equivalence.
pub record SameLaw (d : Declarations) : Type 0 where
  pub equivalence : IsEquivalence (same d)
  pub exact : (t u : Shape) → Decides (same d t u) (key d.rows t ≡ key d.rows u)

-- one of the guards takes an exception of the name n
abbrev pub is_taken : List ℕ → List Guard → Bool
is_taken n guards = list_any (λ c. takes n c.name) guards

-- The innermost guard that takes an exception decides whether it may be raised, and where none does it may be.
pub record GuardsLaw (d : Declarations) (n : List ℕ) (t : Option Shape) : Type 0 where
  pub innermost : (inner outer : List Guard) (c : Guard) → is_taken n inner ≡ false → takes n c.name ≡ true → accepts d (inner ++ c ∷ outer) n t ≡ is_wanted d t c.wants
  pub none_takes : (guards : List Guard) → is_taken n guards ≡ false → accepts d guards n t ≡ true

-- Filling a program changes nothing but what its nodes stand for, it sees nothing of what they stood for, and to fill twice is to fill
-- once.
pub record FillingLaw : Type 0 where
  pub same_tree : (p q : Program) → filled p ≡ Some q → bare q ≡ bare p
  pub blind : (p q : Program) → bare p ≡ bare q → filled p ≡ filled q
  pub once : (p q : Program) → filled p ≡ Some q → filled q ≡ Some q

-- A type can be sent exactly where it holds no lock and no semaphore at any depth, through equates and reps.
abbrev pub SendingLaw : Program → Shape → Type 0
SendingLaw p t = Decides (is_transmissible (declarations_of p) t) (Holds (meanings p.equates p.clusters) t → ⊥)
