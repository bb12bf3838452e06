use Rattle.std.proofs.Common.{refl, sym}
use Rattle.debug_world.proofs.Adding.{added_tick, can_tick, met, refuses}
use Rattle.debug_world.specs.Seen.{ticked}
use Rattle.debug_world.proofs.world.DebugWorld.tick.Goals as goal

pub returns-in-Some : goal.returns-in-Some
returns-in-Some c =
    let i = c.self.inside in
    refuses c.args.self.now i.node i.list i.spent (ticked c.args.stamp c.args.node) c.in-Some.number c.tick_refusal.result c.self.view_is c.if-self.false (sym c.in-Some.is) c.tick_refusal.ensures

pub unreachable-requires : goal.unreachable-requires
unreachable-requires c =
    let i = c.self.inside in
    let can = can_tick c.args.self.now i.node i.list i.last c.args.stamp c.args.node
    (met c.args.self.now i.node i.list i.last i.spent (ticked c.args.stamp c.args.node) c.tick_refusal.result c.self.view_is c.if-self.false c.self.invariant (sym c.in_default.is) c.tick_refusal.ensures) in
    (rw c.in-Err-Illegal.field-0-is at c.in-Err-Illegal.ensures.possible) can refl

pub invariant_of-self-2 : goal.invariant_of-self-2
invariant_of-self-2 c =
    let i = c.self.inside in
    let t = c.in-Ok.ensures.answers in
    (added_tick c.args.self.now i.node c.tick.new.self i.list c.push.new.self i.last c.args.stamp c.args.node c.in-Ok.effects
    (met c.args.self.now i.node i.list i.last i.spent (ticked c.args.stamp c.args.node) c.tick_refusal.result c.self.view_is c.if-self.false c.self.invariant (sym c.in_default.is) c.tick_refusal.ensures)
    t.unspent t.program t.ticked c.in-Ok-push.ensures.ok).keeps

pub returns : goal.returns
returns c =
    let i = c.self.inside in
    let t = c.in-Ok.ensures.answers in
    (added_tick c.args.self.now i.node c.tick.new.self i.list c.push.new.self i.last c.args.stamp c.args.node c.in-Ok.effects
    (met c.args.self.now i.node i.list i.last i.spent (ticked c.args.stamp c.args.node) c.tick_refusal.result c.self.view_is c.if-self.false c.self.invariant (sym c.in_default.is) c.tick_refusal.ensures)
    t.unspent t.program t.ticked c.in-Ok-push.ensures.ok).adds
