use Rattle.std.proofs.Common.{rules, ap, ◌∙◌}
use Rattle.std.specs.FinSet.{insert}
use Rattle.breakpoint_set.proofs.Lines.{from_list_added}
use Rattle.breakpoint_set.proofs.marks.Marks.set.Goals as goal

pub returns-in_err-insert-clause-err : goal.returns-in_err-insert-clause-err
returns-in_err-insert-clause-err c = search rules

pub returns-clause-ok : goal.returns-clause-ok
returns-clause-ok c = from_list_added _ _ c.args.line c.in_ok-insert.ensures.updates.0 ∙ ap (λ s. insert s c.args.line) c.self.view_is
