use Rattle.packet_wire.proofs.Packets.{same_spelling}
use Rattle.packet_wire.proofs.laws.one_spelling.Goals as goal

pub returns : goal.returns
returns c = same_spelling
