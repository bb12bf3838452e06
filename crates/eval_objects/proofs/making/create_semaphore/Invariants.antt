use Rattle.eval_objects.proofs.making.create_semaphore.Given as goal

abbrev pub ghost-makes_sync : goal.ghost-makes_sync
ghost-makes_sync g a = g.w

abbrev pub ghost-fail : goal.ghost-fail
ghost-fail g a = g.w
