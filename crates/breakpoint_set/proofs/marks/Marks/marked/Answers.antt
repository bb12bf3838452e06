use Rattle.std.proofs.Common.{sym, ap, ◌∙◌}
use Rattle.std.specs.FinSet.{contains}
use Rattle.breakpoint_set.proofs.Lines.{contains_among}
use Rattle.breakpoint_set.proofs.marks.Marks.marked.Goals as goal

pub returns : goal.returns
returns c = c.contains.ensures ∙ sym (contains_among _ c.args.line) ∙ ap (λ s. contains s c.args.line) c.self.view_is
