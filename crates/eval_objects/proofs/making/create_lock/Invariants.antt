use Rattle.eval_objects.proofs.making.create_lock.Given as goal

abbrev pub ghost-makes_sync : goal.ghost-makes_sync
ghost-makes_sync g a = g.w
