use Rattle.std.proofs.Common.{◌≡◌, drop, refl, sym, rules}
use denote.Enum.Bare.{same_true}
use Rattle.clu_tree.specs.contracts.lexeme.Key.{the_type}
use Rattle.clu_expr_reader.proofs.cursor.Cursor.is_at.Goals as goal

pub returns-in-Some-Key : goal.returns-in-Some-Key
returns-in-Some-Key c = (
  λ t. let same : c.in-Some-Key.found ≡ c.args.key = same_true the_type (search rules) _ _ (sym c.if-eq.ensures) in
      (c.in-Some-Key.field-0-1, drop 1 c.args.self.now, cc (same, c.in-Some-Key.ensures, c.in-Some-Key.field-0-is)),
  λ b. refl,
)
