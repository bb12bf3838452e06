use Rattle.packet_wire.proofs.Packets.{regrouped}
use Rattle.packet_wire.proofs.writing.put_packet.Goals as goal

pub returns-in_ok-put_request-in-Call-clause-spelled : goal.returns-in_ok-put_request-in-Call-clause-spelled
returns-in_ok-put_request-in-Call-clause-spelled c = rw c.in-Call.is (regrouped _ _ _ _ _ _ _ c.in_ok-put_head-in-Call.ensures c.in_ok-put_u64-in-Call.ensures c.in_ok-put_request-in-Call.ensures)
