use Rattle.std.proofs.Common.{sym}
use Rattle.eval_frames.proofs.Stacks.{drop-at}
use Rattle.eval_frames.proofs.locks.gives_back_at.Goals as goal

pub returns : goal.returns
returns c = rw (drop-at c.args.work.now c.args.at c.in-Some.item.now (sym c.in-Some.ensures)) (c.is_leave_of.ensures _)
