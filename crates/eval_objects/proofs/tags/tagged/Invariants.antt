use Rattle.eval_objects.proofs.tags.tagged.Given as goal

abbrev pub ghost-takes_tag : goal.ghost-takes_tag
ghost-takes_tag g a = g.w
