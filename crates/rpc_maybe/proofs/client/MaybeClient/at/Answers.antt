use Rattle.std.proofs.Common.{rules}
use Rattle.rpc_maybe.proofs.client.MaybeClient.at.Goals as goal

pub returns : goal.returns
returns c = search rules
