use Rattle.std.proofs.Common.{arith}
use Rattle.clu_reader.proofs.Few.{few_lexemes}
use Rattle.clu_reader.proofs.program.read_program.Goals as goal

pub read_tokens-requires : goal.read_tokens-requires
read_tokens-requires c =
    rw c.as_slice.ensures.value
    (let few = few_lexemes c.args.text.now c.args.tokens.now c.in_ok-found.found.items (c.tokens_are_in_order.ensures c.args.text.now c.args.tokens.now c.requires.scanned) (c.tokens_are_spelled.ensures c.args.text.now c.args.tokens.now c.requires.scanned) c.in_ok-found.ensures in
    omega (arith, few, c.requires.short))
