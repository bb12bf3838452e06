use Rattle.std.proofs.Common.{refl, sym}
use Rattle.debug_world.proofs.Adding.{added_turn, can_turn, met, read_early, refuses}
use Rattle.debug_world.specs.Seen.{turned}
use Rattle.debug_world.proofs.world.DebugWorld.turn.Goals as goal

pub returns-in-Some : goal.returns-in-Some
returns-in-Some c =
    let i = c.self.inside in
    refuses c.args.self.now i.node i.list i.spent (turned c.args.stamp c.args.node c.args.steps c.args.reading) c.in-Some.number c.turn_refusal.result c.self.view_is c.if-self.false (sym c.in-Some.is) (c.turn_refusal.ensures c.args.steps)

pub turn-requires : goal.turn-requires
turn-requires c =
    let i = c.self.inside in
    record {
      early = read_early c.args.self.now i.node i.list i.last c.args.stamp c.args.node c.args.reading c.args.steps
          (met c.args.self.now i.node i.list i.last i.spent (turned c.args.stamp c.args.node c.args.steps c.args.reading) c.turn_refusal.result c.self.view_is c.if-self.false c.self.invariant (sym c.in_default.is) (c.turn_refusal.ensures c.args.steps))
          c.requires.early;
    }

pub unreachable-requires : goal.unreachable-requires
unreachable-requires c =
    let i = c.self.inside in
    let can = can_turn c.args.self.now i.node i.list i.last c.args.stamp c.args.node c.args.reading c.args.steps c.requires.some
    (met c.args.self.now i.node i.list i.last i.spent (turned c.args.stamp c.args.node c.args.steps c.args.reading) c.turn_refusal.result c.self.view_is c.if-self.false c.self.invariant (sym c.in_default.is) (c.turn_refusal.ensures c.args.steps)) in
    (rw c.in-Err-Illegal.field-0-is at c.in-Err-Illegal.ensures.goes_on) can refl

pub invariant_of-self-2 : goal.invariant_of-self-2
invariant_of-self-2 c =
    let i = c.self.inside in
    let t = c.in-Ok.ensures.answers in
    (added_turn c.args.self.now i.node c.turn.new.self i.list c.push.new.self i.last c.args.stamp c.args.node c.args.reading c.args.steps c.in-Ok.taken.0 c.in-Ok.taken.1
    (met c.args.self.now i.node i.list i.last i.spent (turned c.args.stamp c.args.node c.args.steps c.args.reading) c.turn_refusal.result c.self.view_is c.if-self.false c.self.invariant (sym c.in_default.is) (c.turn_refusal.ensures c.args.steps))
    t.unspent t.program t.most t.turned c.in-Ok-push.ensures.ok).keeps

pub returns : goal.returns
returns c =
    let i = c.self.inside in
    let t = c.in-Ok.ensures.answers in
    (added_turn c.args.self.now i.node c.turn.new.self i.list c.push.new.self i.last c.args.stamp c.args.node c.args.reading c.args.steps c.in-Ok.taken.0 c.in-Ok.taken.1
    (met c.args.self.now i.node i.list i.last i.spent (turned c.args.stamp c.args.node c.args.steps c.args.reading) c.turn_refusal.result c.self.view_is c.if-self.false c.self.invariant (sym c.in_default.is) (c.turn_refusal.ensures c.args.steps))
    t.unspent t.program t.most t.turned c.in-Ok-push.ensures.ok).adds
