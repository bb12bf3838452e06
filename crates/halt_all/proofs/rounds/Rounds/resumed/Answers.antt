use Rattle.halt_all.proofs.Viewed.{lowered}
use Rattle.halt_all.proofs.rounds.Rounds.resumed.Goals as goal

pub returns : goal.returns
returns c = lowered c.self.inside.halted.items c.self.inside.rounds.items c.args.node c.args.self.now c.self.view_is c.requires.is_node.0 c.requires.is_node.1
