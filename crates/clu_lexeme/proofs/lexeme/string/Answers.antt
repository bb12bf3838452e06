use Rattle.clu_lexeme.proofs.Contents.{string_denotes}
use Rattle.clu_lexeme.proofs.lexeme.string.Goals as goal

pub returns : goal.returns
returns c = rw c.from_vec.ensures (string_denotes c.args.line c.args.spelling.now c.in_ok-parts.parts.items c.requires c.in_ok-parts.ensures)
