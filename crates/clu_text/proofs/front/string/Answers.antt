use Rattle.std.proofs.Common.{arith}
use Rattle.clu_text.proofs.Fronts.{front-string, no_front-string, no_parts-string}
use Rattle.clu_text.proofs.front.string.Goals as goal

pub returns-in_err-quoted : goal.returns-in_err-quoted
returns-in_err-quoted c = rw c.from_residual.ensures (no_parts-string c.args.bytes.now c.in_err-quoted.ensures)

pub returns-then-quoted-gt-LONGEST_STRING : goal.returns-then-quoted-gt-LONGEST_STRING
returns-then-quoted-gt-LONGEST_STRING c = no_front-string c.args.bytes.now _ c.in_ok-quoted.ensures (omega arith)

pub returns : goal.returns
returns c = front-string c.args.bytes.now _ c.in_ok-quoted.ensures (omega arith)
