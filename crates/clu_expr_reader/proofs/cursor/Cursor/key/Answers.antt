use Rattle.std.proofs.Common.{◌≡◌, sym, rules}
use denote.Enum.Bare.{same_true}
use Rattle.clu_tree.specs.contracts.lexeme.Key.{the_type}
use Rattle.clu_expr_reader.proofs.cursor.Cursor.key.Goals as goal

pub returns-in-Some-Key-clause-ok : goal.returns-in-Some-Key-clause-ok
returns-in-Some-Key-clause-ok c =
    let same : c.in-Some-Key.found ≡ c.args.key = same_true the_type (search rules) _ _ (sym c.if-eq.ensures) in
    cc (same, c.in-Some-Key.ensures, c.in-Some-Key.field-0-is, c.skip.ensures)
