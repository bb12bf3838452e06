use Rattle.eval_items.proofs.asking.ask_maybe.Given as goal

abbrev pub ghost-sends_maybe : goal.ghost-sends_maybe
ghost-sends_maybe g a = g.w
