use Rattle.std.proofs.Common.{arith}
use Rattle.packet_wire.proofs.Packets.{is_spelled, is_only, is_bad}
use Rattle.packet_wire.proofs.reading.read.Goals as goal

pub returns-clause-ok : goal.returns-clause-ok
returns-clause-ok c = is_spelled c.args.bytes.now c.whole_of.result (λ i. omega (arith, c.type_inv.bytes i)) c.whole_of.ensures

pub returns-clause-only : goal.returns-clause-only
returns-clause-only c = is_only c.args.bytes.now c.whole_of.result c.whole_of.ensures

pub returns-clause-bad : goal.returns-clause-bad
returns-clause-bad c = is_bad c.args.bytes.now c.whole_of.result c.whole_of.ensures
