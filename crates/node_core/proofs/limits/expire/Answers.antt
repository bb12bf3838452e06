use Rattle.std.proofs.Common.{refl, ◌∙◌, arith}
use Rattle.node_core.proofs.Expiring.{gone_all, gone_more}
use Rattle.node_core.proofs.limits.expire.Goals as goal

pub loop-owner-init : goal.loop-owner-init
loop-owner-init c = rw c.nothing-effects.ensures (record { left = refl; noted = refl; bare = refl })

pub loop-owner-smaller : goal.loop-owner-smaller
loop-owner-smaller c = rw c.in-Some.ensures.first (omega arith)

pub loop-owner-preserved : goal.loop-owner-preserved
loop-owner-preserved c =
    gone_more c.args.t (c.in-Some.field-0-0, c.in-Some.owner) c.args.limits.now c.loop-owner.limits c.pop_due.new.self c.loop-owner.effects c.push.new.self c.loop-owner.invariant c.in-Some.ensures.first c.in-Some.ensures.due c.in_ok-push.ensures.ok

pub returns-clause-left : goal.returns-clause-left
returns-clause-left c =
    c.in_default.ensures.unchanged ∙ (gone_all c.args.t c.args.limits.now c.loop-owner.limits c.loop-owner.effects c.loop-owner.invariant (c.in_default.ensures.none.0 refl)).0

pub returns-clause-effects : goal.returns-clause-effects
returns-clause-effects c =
    (gone_all c.args.t c.args.limits.now c.loop-owner.limits c.loop-owner.effects c.loop-owner.invariant (c.in_default.ensures.none.0 refl)).1
