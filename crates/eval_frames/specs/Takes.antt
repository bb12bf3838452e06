-- What code says that a guard does with an exception.
use Rattle.machine_rules.specs.Exceptions as rule
use Rattle.eval_frames.specs.declared.landing.Taken.{Taken}
use Rattle.eval_frames.specs.declared.landing.Taken.TheVariants as code

abbrev pub seen : Taken → rule.Taken
seen code.Lets = rule.Lets
seen (code.Handles x body) = rule.Handles x body
seen code.Passes = rule.Passes
