use Rattle.std.proofs.Common.{rules, arith}
use Rattle.outside_edge.proofs.Filling.{Puts-Fills}
use Rattle.outside_edge.proofs.sink.MemSinkSink.put.Goals as goal

pub returns-clause-told : goal.returns-clause-told
returns-clause-told c = Puts-Fills _ _ _ c.in-Some.room (search rules) (search rules) (omega arith)
