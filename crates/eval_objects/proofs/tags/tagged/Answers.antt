use Rattle.std.proofs.Common.{rules}
use Rattle.eval_frames.proofs.Rows.{by_row}
use Rattle.eval_objects.proofs.tags.tagged.Goals as goal

pub returns : goal.returns
returns g c = by_row _ _ _ _ _ c.takes_tag.ensures (search rules)
