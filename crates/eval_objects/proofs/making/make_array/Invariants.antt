use Rattle.eval_objects.proofs.making.make_array.Given as goal

abbrev pub ghost-makes_array : goal.ghost-makes_array
ghost-makes_array g a = g.w
