use Rattle.world_types.proofs.Cuts.{cut_mono, cut-opened, cut-closed}
use Rattle.logical_clock.proofs.laws.cut_laws.Goals as goal

pub returns : goal.returns
returns c = record {
  rises = λ rounds s t u. cut_mono rounds s t u;
  opens_later = λ rounds a t. cut-opened a t rounds;
  closes_later = λ rounds b t. cut-closed b t rounds;
}
