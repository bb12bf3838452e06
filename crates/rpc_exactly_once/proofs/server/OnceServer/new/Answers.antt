use Rattle.std.proofs.Common.{subst, sym}
use Rattle.std.specs.FinMap as map
use Rattle.std.specs.Ordering.{nat_cmp}
use Rattle.rpc_exactly_once.specs.Server.{AreAboveFloors}
use Rattle.rpc_exactly_once.proofs.Servers.{above-empty}
use Rattle.rpc_exactly_once.proofs.server.OnceServer.new.Goals as goal

pub invariant_of-result : goal.invariant_of-result
invariant_of-result c = subst (λ es. AreAboveFloors (map.from_entries {R = nat_cmp} es)) (sym c.new.ensures.empty) above-empty

pub returns-clause-above : goal.returns-clause-above
returns-clause-above c = invariant_of-result c
