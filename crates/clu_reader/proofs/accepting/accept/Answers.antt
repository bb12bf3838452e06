use Rattle.std.proofs.Common.{sym, subst}
use Rattle.clu_reader.specs.Accepted.{CanRun}
use Rattle.clu_reader.proofs.accepting.accept.Goals as goal

pub returns-in-Err-Syntax-clause-refused : goal.returns-in-Err-Syntax-clause-refused
returns-in-Err-Syntax-clause-refused c = λ line e q a.
    c.read_program.ensures.syntax c.in-Err-Syntax.line (cc (c.in-Err-Syntax.is, c.in-Err-Syntax.field-0-is)) q a.0

pub returns-clause-refused : goal.returns-clause-refused
returns-clause-refused c = λ line e q a.
    c.in-Err-NotTyped.ensures.not_typed (subst CanRun (c.no_text_has_two_trees.ensures c.args.text.now q c.in-Ok-read_program.program a.0 c.in-Ok-read_program.ensures.ok) a.1)
