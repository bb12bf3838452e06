use Rattle.eval_items.proofs.stmts.assigns.Given as goal

abbrev pub ghost-operand : goal.ghost-operand
ghost-operand g a = g.w

abbrev pub ghost-sets_field : goal.ghost-sets_field
ghost-sets_field g a = g.w
