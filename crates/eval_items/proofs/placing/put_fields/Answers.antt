use Rattle.std.proofs.Common.{sym, ◌∙◌}
use Rattle.eval_items.proofs.Fields.{last-field}
use Rattle.eval_items.proofs.placing.put_fields.Goals as goal

pub loop-field-preserved : goal.loop-field-preserved
loop-field-preserved c = rw c.in_ok-push.ensures.ok (sym (last-field _ _ _) ∙ (rw c.in-Some.ensures at c.loop-field.invariant))
