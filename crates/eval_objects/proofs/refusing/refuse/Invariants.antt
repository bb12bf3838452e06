use Rattle.eval_objects.proofs.refusing.refuse.Given as goal

abbrev pub ghost-out_of_bounds : goal.ghost-out_of_bounds
ghost-out_of_bounds g a = g.w

abbrev pub ghost-fail : goal.ghost-fail
ghost-fail g a = g.w
