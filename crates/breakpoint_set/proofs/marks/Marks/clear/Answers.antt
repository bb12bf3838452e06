use Rattle.std.proofs.Common.{ap, ◌∙◌}
use Rattle.std.specs.FinSet.{remove}
use Rattle.breakpoint_set.proofs.Lines.{from_list_taken}
use Rattle.breakpoint_set.proofs.marks.Marks.clear.Goals as goal

pub returns : goal.returns
returns c = from_list_taken _ _ c.args.line c.remove.ensures.updates.0 ∙ ap (λ s. remove s c.args.line) c.self.view_is
