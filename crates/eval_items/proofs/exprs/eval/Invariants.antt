use Rattle.eval_items.proofs.exprs.eval.Given as goal

abbrev pub ghost-reads_name : goal.ghost-reads_name
ghost-reads_name g a = g.w

abbrev pub ghost-binary : goal.ghost-binary
ghost-binary g a = g.w

abbrev pub ghost-operand : goal.ghost-operand
ghost-operand g a = g.w

abbrev pub ghost-operands : goal.ghost-operands
ghost-operands g a = g.w

abbrev pub ghost-two_operands : goal.ghost-two_operands
ghost-two_operands g a = g.w
