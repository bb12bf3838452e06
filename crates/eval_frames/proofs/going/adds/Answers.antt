use Rattle.eval_frames.proofs.going.adds.Goals as goal

pub returns : goal.returns
returns c = rw (← c.in_ok-push.ensures.ok) c.goes.ensures
