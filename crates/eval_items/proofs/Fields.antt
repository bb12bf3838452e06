-- The values of fields as work.
use Rattle.std.proofs.Common.{◌≡◌, List, [], ◌∷◌, ◌++◌, map, refl, ap}
use Rattle.clu_tree.specs.declared.tree.FieldInit.{FieldInit}
use Rattle.machine_rules.specs.declared.item.Item.{Item}
use Rattle.machine_rules.specs.declared.item.Item.TheVariants as item
use Rattle.machine_rules.specs.Row.{value_of}

-- the last field's value comes before the work behind all of them
pub last-field : (fields : List FieldInit) (x : FieldInit) (work : List Item) → map item.Eval (map value_of (fields ++ x ∷ [])) ++ work ≡ map item.Eval (map value_of fields) ++ item.Eval (value_of x) ∷ work
last-field [] x work = refl
last-field (f ∷ fields) x work = ap (λ r. item.Eval (value_of f) ∷ r) (last-field fields x work)
