use Rattle.machine_rules.proofs.Picked.{picks_next}
use Rattle.machine_rules.proofs.law.picking_law.Goals as goal

pub returns : goal.returns
returns c = λ last processes rising. picks_next last processes rising
