use Rattle.clu_text.proofs.Fronts.{front-char, no_front-char, no_parts-char}
use Rattle.clu_text.proofs.front.char.Goals as goal

pub returns-in_err-quoted : goal.returns-in_err-quoted
returns-in_err-quoted c = rw c.from_residual.ensures (no_parts-char c.args.bytes.now c.in_err-quoted.ensures)

pub returns-then-quoted-ne1 : goal.returns-then-quoted-ne1
returns-then-quoted-ne1 c = no_front-char c.args.bytes.now _ c.in_ok-quoted.ensures c.if-quoted-ne1.true

pub returns : goal.returns
returns c = front-char c.args.bytes.now _ c.in_ok-quoted.ensures c.if-quoted-ne1.false
