use Rattle.std.proofs.Common.{◌-◌, arith}
use Rattle.halt_all.proofs.Viewed.{closed_last}
use Rattle.halt_all.proofs.rounds.Rounds.finish.Goals as goal

pub returns : goal.returns
returns c =
    rw c.close_at.ensures
    (closed_last c.self.inside.halted.items c.self.inside.rounds.items c.index_mut.result.now (c.len-newest.result - 1) c.args.b c.args.self.now
    c.self.view_is c.requires (omega arith) c.index_mut.ensures.value)
