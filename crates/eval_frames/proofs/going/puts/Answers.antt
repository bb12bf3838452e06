use Rattle.eval_frames.proofs.going.puts.Goals as goal

pub returns : goal.returns
returns c = rw (← c.in_ok-put_body.ensures) c.goes.ensures
