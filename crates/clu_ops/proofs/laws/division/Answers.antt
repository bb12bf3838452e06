use Rattle.clu_ops.proofs.Quotients.{is_division, is_alone}
use Rattle.clu_ops.proofs.laws.division.Goals as goal

pub returns : goal.returns
returns c = record { solves = is_division; alone = is_alone }
