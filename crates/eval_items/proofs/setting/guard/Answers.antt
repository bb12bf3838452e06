use Rattle.eval_items.proofs.setting.guard.Goals as goal

pub returns : goal.returns
returns c = c.goes.ensures
