use Rattle.eval_items.proofs.exprs.binary.Given as goal

abbrev pub ghost-two_operands : goal.ghost-two_operands
ghost-two_operands g a = g.w
