use Rattle.std.proofs.Common.{rules, arith}
use Rattle.std.proofs.lemmas.Grind.{common_steps}
use Rattle.clu_grammar.specs.ExprPlan.{levels}
use Rattle.clu_expr_reader.proofs.ExprSteps.{operand-prefix}
use Rattle.clu_expr_reader.proofs.reader.Reader.operand.Goals as goal

pub returns-in_err-of : goal.returns-in_err-of
returns-in_err-of g c =
    rw (operand-prefix (levels c.args.self.now.below) c.args.self.now.depth c.args.cursor.now _ c.in-Some.line c.in-Some.op c.in-Some.ensures)
    (first_of (search rules, grind (arith, common_steps)))

pub returns-in-Some : goal.returns-in-Some
returns-in-Some g c =
    rw (operand-prefix (levels c.args.self.now.below) c.args.self.now.depth c.args.cursor.now _ c.in-Some.line c.in-Some.op c.in-Some.ensures)
    (first_of (search rules, grind (arith, common_steps)))
