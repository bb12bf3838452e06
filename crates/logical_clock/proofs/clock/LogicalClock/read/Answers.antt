use Rattle.std.proofs.Common.{◌≡◌, ◌-◌, unwrap_or, sym, subst}
use Rattle.world_types.specs.Rounds.{cut}
use Rattle.logical_clock.specs.Kept.{Kept}
use Rattle.logical_clock.proofs.Reading.{stands_reads}
use Rattle.logical_clock.proofs.clock.LogicalClock.read.Goals as goal

pub returns-clause-cut : goal.returns-clause-cut
returns-clause-cut c =
    λ rounds stands.
    let reads = λ (kept : Kept). unwrap_or kept.opening c.args.t - kept.total ≡ cut rounds c.args.t in
    rw c.unwrap_or.ensures (subst reads (sym c.self.view_is) (stands_reads c.args.self.now rounds c.args.t stands c.requires))
