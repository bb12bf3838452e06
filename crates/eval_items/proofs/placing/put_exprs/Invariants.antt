use Rattle.std.proofs.Common.{◌≡◌, ◌++◌, length, map}
use Rattle.machine_rules.specs.declared.item.Item.TheVariants as item
use Rattle.eval_items.proofs.placing.put_exprs.Given as goal

abbrev pub invariant-loop-expr : goal.invariant-loop-expr
invariant-loop-expr l = map item.Eval l.exprs ++ l.work ≡ map item.Eval l.initial.exprs ++ l.initial.work

abbrev pub decreases-loop-expr : goal.decreases-loop-expr
decreases-loop-expr l = length l.exprs
