use Rattle.debug_world.proofs.Adding.{keeps_new}
use Rattle.debug_world.proofs.world.DebugWorld.new.Goals as goal

pub invariant_of-result : goal.invariant_of-result
invariant_of-result c =
    keeps_new c.in_ok-node.node c.args.program.now c.new-2.result c.requires c.in_ok-node.ensures.program c.in_ok-node.ensures.state c.in_ok-node.ensures.fresh c.new-2.ensures
