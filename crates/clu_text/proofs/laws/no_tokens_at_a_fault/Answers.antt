use Rattle.clu_text.proofs.Filling.{no_fault}
use Rattle.clu_text.proofs.laws.no_tokens_at_a_fault.Goals as goal

pub returns : goal.returns
returns c = no_fault
