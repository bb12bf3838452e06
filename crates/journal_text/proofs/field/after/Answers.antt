use Rattle.std.proofs.Common.{Some, ap, sym, ◌∙◌}
use Rattle.journal_text.proofs.Fields.{text_at-found, text_at-missing}
use Rattle.journal_text.proofs.field.after.Goals as goal

pub returns-in-Some : goal.returns-in-Some
returns-in-Some c =
    let found = c.in-Some.ensures.cases in
    text_at-found c.args.text.now c.args.bytes.now found.0 ∙ ap Some (sym found.1)

pub returns-in-None : goal.returns-in-None
returns-in-None c = text_at-missing c.args.text.now c.args.bytes.now c.in-None.ensures.cases
