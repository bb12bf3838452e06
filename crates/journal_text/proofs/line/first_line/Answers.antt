use Rattle.journal_text.proofs.Lines.{answer_in_grammar, answer_parts, answer_taken, answer_shorter, answer_bad}
use Rattle.journal_text.proofs.line.first_line.Goals as goal

pub returns-clause-grammar : goal.returns-clause-grammar
returns-clause-grammar c = answer_in_grammar (λ line. (line.told, line.rest.now)) c.args.bytes.now c.line.result c.line.ensures

pub returns-clause-parts : goal.returns-clause-parts
returns-clause-parts c = answer_parts (λ line. (line.told, line.rest.now)) c.args.bytes.now c.line.result c.line.ensures

pub returns-clause-taken : goal.returns-clause-taken
returns-clause-taken c = answer_taken (λ line. (line.told, line.rest.now)) c.args.bytes.now c.line.result c.line.ensures

pub returns-clause-shorter : goal.returns-clause-shorter
returns-clause-shorter c = answer_shorter (λ line. (line.told, line.rest.now)) c.args.bytes.now c.line.result c.line.ensures

pub returns-clause-bad : goal.returns-clause-bad
returns-clause-bad c = answer_bad (λ line. (line.told, line.rest.now)) c.args.bytes.now c.line.result c.line.ensures
