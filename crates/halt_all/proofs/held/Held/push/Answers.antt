use Rattle.std.proofs.Common.{rules}
use Rattle.halt_all.proofs.held.Held.push.Goals as goal

pub returns-clause-ok : goal.returns-clause-ok
returns-clause-ok c = search rules
