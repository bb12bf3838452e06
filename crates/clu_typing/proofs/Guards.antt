-- The innermost guard that takes an exception decides.
use Rattle.std.proofs.Common.{◌≡◌, ℕ, Bool, true, false, ◌||◌, List, [], ◌∷◌, ◌++◌, Option, refl}
use Rattle.clu_tree.specs.declared.shape.Shape.{Shape}
use Rattle.clu_typing.specs.Types.{Declarations}
use Rattle.clu_typing.specs.Exceptions.{Guard, takes, is_wanted, accepts}
use Rattle.clu_typing.specs.Laws.{is_taken, GuardsLaw}

neither : (a b : Bool) → (a || b) ≡ false → (a ≡ false) × (b ≡ false)
neither true b h = absurd cc
neither false b h = (refl, h)

innermost : (d : Declarations) (n : List ℕ) (t : Option Shape) (inner outer : List Guard) (c : Guard) → is_taken n inner ≡ false → takes n c.name ≡ true → accepts d (inner ++ c ∷ outer) n t ≡ is_wanted d t c.wants
innermost d n t [] outer c h k = rw k refl
innermost d n t (b ∷ inner) outer c h k =
    let p = neither (takes n b.name) _ h in
    rw p.0 (innermost d n t inner outer c p.1 k)

none_takes : (d : Declarations) (n : List ℕ) (t : Option Shape) (guards : List Guard) → is_taken n guards ≡ false → accepts d guards n t ≡ true
none_takes d n t [] h = refl
none_takes d n t (b ∷ guards) h =
    let p = neither (takes n b.name) _ h in
    rw p.0 (none_takes d n t guards p.1)

pub guards_law : (d : Declarations) (n : List ℕ) (t : Option Shape) → GuardsLaw d n t
guards_law d n t = record { innermost = innermost d n t; none_takes = none_takes d n t }
