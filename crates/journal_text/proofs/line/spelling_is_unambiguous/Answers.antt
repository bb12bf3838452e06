use Rattle.journal_text.proofs.Lines.{unambiguous}
use Rattle.journal_text.proofs.line.spelling_is_unambiguous.Goals as goal

pub returns : goal.returns
returns c = unambiguous
