use Rattle.std.proofs.Common.{◌≡◌, Some, ap, ◌∙◌}
use Rattle.std.proofs.lemmas.Result.{IfOk-weaker}
use Rattle.obj_region.specs.Store.{Store}
use Rattle.eval_objects.specs.Seen.{took}
use Rattle.clu_eval.proofs.rows.row_at.Goals as goal

pub returns-in-Leave-clause-row : goal.returns-in-Leave-clause-row
returns-in-Leave-clause-row g c =
    IfOk-weaker c.leave.result _ _ (λ end h. rw c.in-Leave.is (h g.w ∙ ap (λ (objects : Store). took end.left end.act objects c.leave.new.frames) c.requires.1.1.0.0)) c.leave.ensures

pub returns-in-Guard-clause-row : goal.returns-in-Guard-clause-row
returns-in-Guard-clause-row g c =
    IfOk-weaker c.guard.result _ _ (λ end h. rw c.in-Guard.is (h g.w ∙ ap (λ (objects : Store). took end.left end.act objects c.guard.new.frames) c.requires.1.1.0.0)) c.guard.ensures
