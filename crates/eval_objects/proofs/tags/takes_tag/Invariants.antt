use Rattle.eval_objects.proofs.tags.takes_tag.Given as goal

abbrev pub ghost-takes_others : goal.ghost-takes_others
ghost-takes_others g a = g.w
