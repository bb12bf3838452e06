use Rattle.std.proofs.Common.{refl, rules}
use Rattle.clu_tree.specs.declared.tree.Expr.TheViews as e
use Rattle.eval_frames.proofs.Rows.{by_row, here}
use Rattle.eval_items.proofs.exprs.eval.Goals as goal

pub returns-in-Literal : goal.returns-in-Literal
returns-in-Literal g c = here g.w _ _ _ _ c.adds.ensures (rw (c.in-Literal.is, e.outs-Literal) refl)

pub returns-in-Name : goal.returns-in-Name
returns-in-Name g c = by_row g.w.store _ _ _ _ c.reads_name.ensures (rw (c.in-Name.is, e.outs-Name) refl)

pub returns-in-Unary : goal.returns-in-Unary
returns-in-Unary g c = by_row g.w.store _ _ _ _ c.operand.ensures (rw (c.in-Unary.is, e.outs-Unary, c.into_inner-in-Unary.ensures, c.in-Unary.a-is, c.doing.ensures, c.in-Unary.meant-is) refl)

pub returns-in-Record : goal.returns-in-Record
returns-in-Record g c = here g.w _ _ _ _ c.evals_fields.ensures (rw (c.in-Record.is, e.outs-Record) refl)

pub returns-in-Array : goal.returns-in-Array
returns-in-Array g c = here g.w _ _ _ _ c.makes_array.ensures (rw (c.in-Array.is, e.outs-Array) refl)

pub returns-in-Up : goal.returns-in-Up
returns-in-Up g c = here g.w _ _ _ _ c.evals.ensures (rw (c.in-Up.is, e.outs-Up, c.into_inner-in-Up.ensures, c.in-Up.inner-is) refl)

pub returns-in-Field : goal.returns-in-Field
returns-in-Field g c = by_row g.w.store _ _ _ _ c.operand-in-Field.ensures (rw (c.in-Field.is, e.outs-Field, c.into_inner-in-Field.ensures, c.in-Field.a-is, c.reading.ensures, c.in-Field.meant-is) refl)

pub returns-in-Now : goal.returns-in-Now
returns-in-Now g c = here g.w _ _ _ _ c.adds-in-Now.ensures (search rules)

pub returns-in-Down : goal.returns-in-Down
returns-in-Down g c = here g.w _ _ _ _ c.evals-in-Down.ensures (rw (c.in-Down.is, e.outs-Down, c.into_inner-in-Down.ensures, c.in-Down.inner-is) refl)
