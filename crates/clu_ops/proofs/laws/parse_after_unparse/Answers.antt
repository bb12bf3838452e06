use Rattle.clu_ops.proofs.Inverse.{parsed-signed_decimal}
use Rattle.clu_ops.proofs.laws.parse_after_unparse.Goals as goal

pub returns : goal.returns
returns c = parsed-signed_decimal
