use Rattle.clu_text.proofs.Fronts.{front-int}
use Rattle.clu_text.proofs.front.int.Goals as goal

pub returns : goal.returns
returns c = front-int c.args.bytes.now _ c.requires c.digits_len.ensures
