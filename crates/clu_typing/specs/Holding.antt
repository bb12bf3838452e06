-- When a type holds a lock or a semaphore, through any depth, equates and reps.
use Rattle.std.specs.Prelude.{◌≡◌, ℕ, zero, suc, List, [], ◌∷◌, ◌⊎◌}
use Rattle.clu_tree.specs.declared.shape.Shape.{Shape, out-Shape}
use Rattle.clu_tree.specs.declared.shape.Shape.TheOpen as sf
use Rattle.clu_tree.specs.declared.shape.Named.{Named, out-Named}

-- what names stand for: an equate's type, or a cluster's rep
abbrev pub Meanings : Type 0
Meanings = List (List ℕ × Shape)

-- the name stands for a type of this kind
abbrev pub Stands : (Shape → Type 0) → List ℕ → Meanings → Type 0
Stands Is x [] = ⊥
Stands Is x (d ∷ ds) = ((d.0 ≡ x) × Is d.1) ⊎ Stands Is x ds

-- some field or tag is of a type of this kind
abbrev pub SomePart : (Shape → Type 0) → List Named → Type 0
SomePart Is [] = ⊥
SomePart Is (f ∷ fs) = Is (out-Named f).shape ⊎ SomePart Is fs

-- one level of a type: it is a lock or a semaphore, or a part is of this kind
abbrev pub HoldsRule : Meanings → (Shape → Type 0) → sf.Shape-F Shape Named → Type 0
HoldsRule all Is sf.Null = ⊥
HoldsRule all Is sf.Bool = ⊥
HoldsRule all Is sf.Int = ⊥
HoldsRule all Is sf.Char = ⊥
HoldsRule all Is sf.Str = ⊥
HoldsRule all Is sf.Lock = Unit {0}
HoldsRule all Is sf.Semaphore = Unit {0}
HoldsRule all Is sf.Cvt = ⊥
HoldsRule all Is sf.Rep = ⊥
HoldsRule all Is (sf.Name x) = Stands Is x all
HoldsRule all Is (sf.Arr t) = Is t
HoldsRule all Is (sf.Rec fs) = SomePart Is fs
HoldsRule all Is (sf.Oneof fs) = SomePart Is fs

-- a lock or a semaphore is found within n levels
abbrev pub HoldsAt : ℕ → Meanings → Shape → Type 0
HoldsAt zero all t = ⊥
HoldsAt (suc n) all t = HoldsRule all (HoldsAt n all) (out-Shape t)

-- a lock or a semaphore is found at some depth
abbrev pub Holds : Meanings → Shape → Type 0
Holds all t = (n : ℕ) × HoldsAt n all t
