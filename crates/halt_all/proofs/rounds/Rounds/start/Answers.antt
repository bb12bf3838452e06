use Rattle.std.proofs.Common.{rules}
use Rattle.halt_all.proofs.rounds.Rounds.start.Goals as goal

pub returns-in_err-push-clause-err : goal.returns-in_err-push-clause-err
returns-in_err-push-clause-err c = search rules
