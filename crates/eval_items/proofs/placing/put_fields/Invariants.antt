use Rattle.std.proofs.Common.{◌≡◌, ◌++◌, length, map}
use Rattle.machine_rules.specs.declared.item.Item.TheVariants as item
use Rattle.machine_rules.specs.Row.{value_of}
use Rattle.eval_items.proofs.placing.put_fields.Given as goal

abbrev pub invariant-loop-field : goal.invariant-loop-field
invariant-loop-field l = map item.Eval (map value_of l.fields) ++ l.work ≡ map item.Eval (map value_of l.initial.fields) ++ l.initial.work

abbrev pub decreases-loop-field : goal.decreases-loop-field
decreases-loop-field l = length l.fields
