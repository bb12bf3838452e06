use Rattle.clu_text.proofs.Fronts.{no_front-nil}
use Rattle.clu_text.proofs.front.front.Goals as goal

pub returns-in_default : goal.returns-in_default
returns-in_default c = no_front-nil c.args.bytes.now c.in_default.len_below
