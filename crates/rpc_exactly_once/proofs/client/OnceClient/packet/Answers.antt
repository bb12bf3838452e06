use Rattle.std.proofs.Common.{rules}
use Rattle.rpc_exactly_once.proofs.client.OnceClient.packet.Goals as goal

pub returns-clause-packet : goal.returns-clause-packet
returns-clause-packet c = search rules
