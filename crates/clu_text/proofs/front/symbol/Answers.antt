use Rattle.clu_text.proofs.Fronts.{front-symbol, no_front-symbol}
use Rattle.clu_text.proofs.front.symbol.Goals as goal

pub returns-then-len-eq0 : goal.returns-then-len-eq0
returns-then-len-eq0 c = no_front-symbol c.args.bytes.now _ c.requires c.symbol_len-len.ensures c.if-len-eq0.true

pub returns : goal.returns
returns c = front-symbol c.args.bytes.now _ c.requires c.symbol_len-len.ensures c.if-len-eq0.false
