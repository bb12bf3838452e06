use Rattle.eval_items.proofs.asking.ask_once.Given as goal

abbrev pub ghost-sends_once : goal.ghost-sends_once
ghost-sends_once g a = g.w
