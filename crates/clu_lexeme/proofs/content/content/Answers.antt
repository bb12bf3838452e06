use Rattle.clu_lexeme.proofs.Contents.{left_none}
use Rattle.clu_lexeme.proofs.content.content.Goals as goal

pub returns : goal.returns
returns c = left_none c.args.quote c.args.bytes.now c.loop-byte.found.items c.loop-byte.left.now c.requires.other c.in_default.ensures c.loop-byte.invariant
