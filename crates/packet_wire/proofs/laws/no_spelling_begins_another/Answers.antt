use Rattle.packet_wire.proofs.Packets.{no_more}
use Rattle.packet_wire.proofs.laws.no_spelling_begins_another.Goals as goal

pub returns : goal.returns
returns c = no_more
