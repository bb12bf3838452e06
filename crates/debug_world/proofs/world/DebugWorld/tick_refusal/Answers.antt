use Rattle.std.proofs.Common.{ap, ◌∙◌}
use Rattle.debug_world.specs.Seen.{Seen}
use Rattle.debug_world.proofs.Adding.{tick_refusal_is, unspent_node}
use Rattle.debug_world.proofs.world.DebugWorld.tick_refusal.Goals as goal

pub returns : goal.returns
returns c =
    let i = c.self.inside in
    let free = unspent_node i.node i.list i.last i.spent c.self.invariant (ap (λ (w : Seen). w.spent) c.self.view_is ∙ c.requires) in
    tick_refusal_is c.args.self.now i.node i.list i.last i.spent c.args.stamp c.args.node c.first_failing_of.result c.self.view_is c.requires c.self.invariant (rw (c.due.ensures free) at c.first_failing_of.ensures)
