-- The rounds of a `for` over numbers.
use Rattle.std.proofs.Common.{◌≡◌, ℕ, ℤ, List, ◌∷◌, refl, ◌∙◌}
use Rattle.clu_tree.specs.declared.shape.Shape.{Shape}
use Rattle.clu_tree.specs.declared.tree.Stmt.{Stmt}
use Rattle.machine_rules.specs.declared.item.Item.{Item}
use Rattle.machine_rules.specs.declared.item.Item.TheVariants as item

-- a round that was copied is the same
pub same_round : (x x2 : List ℕ) (t t2 : Shape) (body body2 : List Stmt) (n n2 last last2 : ℤ) (work new : List Item) → x2 ≡ x → t2 ≡ t → body2 ≡ body → new ≡ item.Next x2 t2 body2 n2 last2 ∷ work → n2 ≡ n → last2 ≡ last → new ≡ item.Next x t body n last ∷ work
same_round x x2 t t2 body body2 n n2 last last2 work new p q r h e l = h ∙ rw (p, q, r, e, l) refl
