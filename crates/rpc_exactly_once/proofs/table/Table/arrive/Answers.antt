use Rattle.std.proofs.Common.{rules}
use Rattle.rpc_exactly_once.proofs.table.Table.arrive.Goals as goal

pub returns-in_err-answer-clause-err : goal.returns-in_err-answer-clause-err
returns-in_err-answer-clause-err c = search rules

pub returns-clause-ok : goal.returns-clause-ok
returns-clause-ok c = search rules
