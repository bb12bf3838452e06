use Rattle.std.proofs.Common.{Some, ap, sym, ◌∙◌, inl, inr}
use Rattle.journal_text.proofs.Fields.{digit_at-empty, digit_at-inside, digit_at-outside}
use Rattle.journal_text.proofs.field.digit.Goals as goal
use Rattle.journal_text.proofs.field.digit.Goals.{then-byte-lt48-via-then-byte-lt48, then-byte-lt48-via-else-byte-lt48+then-byte-gt57}

pub returns-in_err-byte-clause-found : goal.returns-in_err-byte-clause-found
returns-in_err-byte-clause-found c = rw c.from_residual.ensures (digit_at-empty c.args.bytes.now c.in_err-byte.ensures.cases)

pub returns-then-byte-lt48-clause-found : goal.returns-then-byte-lt48-clause-found
returns-then-byte-lt48-clause-found c =
    digit_at-outside c.args.bytes.now c.in_ok-byte.byte.now c.in_ok-byte.rest.now c.in_ok-byte.ensures.cases.0 (elim c.then-byte-lt48.branch [
      | then-byte-lt48-via-then-byte-lt48 w ↦ inl w.if-byte-lt48.true
      | then-byte-lt48-via-else-byte-lt48+then-byte-gt57 w ↦ inr w.if-byte-gt57.true
    ])

pub returns-clause-found : goal.returns-clause-found
returns-clause-found c =
    digit_at-inside c.args.bytes.now c.in_ok-byte.byte.now c.in_ok-byte.rest.now c.in_ok-byte.ensures.cases.0 c.if-byte-lt48.false c.if-byte-gt57.false
    ∙ ap (λ d. Some (d, c.in_ok-byte.rest.now)) (sym c.from.ensures)
