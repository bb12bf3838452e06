use Rattle.std.proofs.Common.{length, ap, arith}
use Rattle.clu_lexeme.proofs.Contents.{char_denotes, one_part}
use Rattle.clu_lexeme.proofs.lexeme.character.Goals as goal

pub bounds-as_slice-0 : goal.bounds-as_slice-0
bounds-as_slice-0 c =
    let size = ap length (one_part c.args.spelling.now c.in_ok-parts.parts.items c.requires c.in_ok-parts.ensures).1 in
    let same = ap length c.as_slice.ensures.value in
    omega arith

pub returns : goal.returns
returns c = rw c.as_slice.ensures.value (char_denotes c.args.line c.args.spelling.now c.in_ok-parts.parts.items c.requires c.in_ok-parts.ensures)
