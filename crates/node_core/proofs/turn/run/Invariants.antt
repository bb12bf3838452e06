use Rattle.std.proofs.Common.{◌≡◌, ◌≢◌, ◌≤◌, ◌-◌, [], ◌∷◌}
use Rattle.machine_rules.specs.Typing.{FramesFit}
use Rattle.world_rules.specs.Node.{ready}
use Rattle.node_core.proofs.Acts.{Took}
use Rattle.node_core.proofs.turn.run.Given as goal

abbrev pub invariant-loop-steps : goal.invariant-loop-steps
invariant-loop-steps l = record {
  taken : Took l.program l.number l.time l.steps l.fn.process (ready 1 l.process ∷ []) l.effects;
  within : l.steps ≤ l.most;
  fits : FramesFit l.program l.process;
  goes_on : l.process ≢ [];
  none : l.objects ≡ [];
}

abbrev pub decreases-loop-steps : goal.decreases-loop-steps
decreases-loop-steps l = l.most - l.steps
