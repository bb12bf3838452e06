use Rattle.std.proofs.Common.{◌≡◌, length}
use Rattle.machine_rules.specs.Exceptions.{by_whens}
use Rattle.clu_tree.specs.declared.tree.Handlers.{out-Handlers}
use Rattle.eval_frames.proofs.landing.by_handlers.Given as goal

abbrev pub invariant-loop-whens : goal.invariant-loop-whens
invariant-loop-whens l = by_whens l.name l.whens l.others ≡ by_whens l.name (out-Handlers l.fn.handlers).whens (out-Handlers l.fn.handlers).others

abbrev pub decreases-loop-whens : goal.decreases-loop-whens
decreases-loop-whens l = length l.whens
