use Rattle.std.proofs.Common.{refl}
use Rattle.clu_tree.specs.declared.tree.Stmt.TheVariants.{rolls-While}
use Rattle.eval_frames.proofs.Rows.{through}
use Rattle.eval_items.proofs.choosing.loops.Goals as goal

pub returns : goal.returns
returns c = through _ _ _ _ c.goes.ensures (λ w. rw (c.in_ok-put_round.ensures, rolls-While) refl)
