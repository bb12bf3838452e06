use Rattle.machine_rules.proofs.Locks.{given_kept, locks_kept, old_below, raised_kept}
use Rattle.machine_rules.proofs.law.locks_kept.Goals as goal

pub returns-clause-kept : goal.returns-clause-kept
returns-clause-kept c = λ w frames. locks_kept w frames

pub returns-clause-taken : goal.returns-clause-taken
returns-clause-taken c = λ w frames. old_below w frames

pub returns-clause-raised : goal.returns-clause-raised
returns-clause-raised c = λ w s frames. raised_kept w s frames

pub returns-clause-given : goal.returns-clause-given
returns-clause-given c = λ v frames. given_kept v frames
