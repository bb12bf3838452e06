use Rattle.std.proofs.Common.{rules, arith}
use Rattle.outside_edge.proofs.Reading.{IfSome-take}
use Rattle.outside_edge.proofs.shelf.read_up_to.Goals as goal

pub returns-clause-whole : goal.returns-clause-whole
returns-clause-whole g c = IfSome-take (g.F.Read.remaining c.args.reader) c.args.most c.read_to_end.new.buf.items (search rules) (omega arith)
