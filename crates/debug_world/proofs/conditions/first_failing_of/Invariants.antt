use Rattle.std.proofs.Common.{◌≡◌, drop}
use Rattle.world_rules.specs.Conditions.{first_of}
use Rattle.debug_world.proofs.conditions.first_failing_of.Given as goal

abbrev pub invariant-loop-condition : goal.invariant-loop-condition
invariant-loop-condition l = first_of (drop l.condition-index l.tests) ≡ first_of l.tests
