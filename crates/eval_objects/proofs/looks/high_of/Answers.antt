use Rattle.std.proofs.Common.{arith, rules}
use Rattle.std.proofs.lemmas.Grind.{common_steps}
use Rattle.eval_objects.proofs.Rows.{near_at}
use Rattle.eval_objects.proofs.looks.high_of.Goals as goal

pub returns-clause-high : goal.returns-clause-high
returns-clause-high g c = first_of (search rules, grind (arith, common_steps))

pub returns-clause-near : goal.returns-clause-near
returns-clause-near g c =
    near_at (g.S.Store.seen c.args.store.now).objects c.args.at.0 c.in-Some-Arr.low c.in-Some-Arr.items _ (returns-clause-high g c) (search rules) (search rules)
