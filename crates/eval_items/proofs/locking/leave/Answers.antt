use Rattle.std.proofs.Common.{refl}
use Rattle.eval_items.proofs.locking.leave.Goals as goal

pub returns : goal.returns
returns c = λ w. rw (c.in_ok-push.ensures.ok, c.in_ok-push-2.ensures.ok, c.new-left.ensures) refl
