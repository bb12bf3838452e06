use Rattle.std.proofs.Common.{rules}
use Rattle.eval_frames.proofs.Rows.{by_row, here}
use Rattle.eval_objects.proofs.Rows.{takes_chosen}
use Rattle.eval_objects.proofs.tags.takes_tag.Goals as goal

pub returns-in-Some : goal.returns-in-Some
returns-in-Some g c = here g.w _ _ _ _ c.takes_arm.ensures (rw takes_chosen (search rules))

pub returns-in-None : goal.returns-in-None
returns-in-None g c = by_row _ _ _ _ _ c.takes_others.ensures (rw takes_chosen (search rules))
