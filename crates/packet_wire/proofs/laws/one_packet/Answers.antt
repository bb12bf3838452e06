use Rattle.packet_wire.proofs.Packets.{same_packet}
use Rattle.packet_wire.proofs.laws.one_packet.Goals as goal

pub returns : goal.returns
returns c = same_packet
