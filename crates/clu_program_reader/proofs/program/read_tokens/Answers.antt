use Rattle.std.proofs.Common.{subst}
use Rattle.clu_grammar.specs.ProgramPlan as plan
use Rattle.clu_program_reader.specs.Whole.{GivesAll}
use Rattle.clu_program_reader.proofs.Whole.{reads, reads_none}
use Rattle.clu_program_reader.proofs.program.read_tokens.Goals as goal

pub returns-clause-ok : goal.returns-clause-ok
returns-clause-ok c =
    reads c.all_parts.result c.args.tokens.now (subst (λ ts. GivesAll c.all_parts.result (plan.program ts)) c.new-cursor.ensures c.all_parts.ensures)

pub returns-clause-syntax : goal.returns-clause-syntax
returns-clause-syntax c =
    reads_none c.all_parts.result c.args.tokens.now (subst (λ ts. GivesAll c.all_parts.result (plan.program ts)) c.new-cursor.ensures c.all_parts.ensures)
