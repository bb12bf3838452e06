use Rattle.std.proofs.Common.{arith}
use Rattle.clu_text.proofs.Fronts.{front-word, no_front-word}
use Rattle.clu_text.proofs.front.word.Goals as goal

pub returns-then-len-gt-LONGEST_WORD : goal.returns-then-len-gt-LONGEST_WORD
returns-then-len-gt-LONGEST_WORD c = no_front-word c.args.bytes.now c.word_len-len.result c.requires c.word_len-len.ensures (omega arith)

pub returns : goal.returns
returns c = front-word c.args.bytes.now c.word_len-len.result c.requires c.word_len-len.ensures (omega arith)
