-- The least ready number above the one picked last, else the least ready number.
use Rattle.std.proofs.Common.{◌≡◌, rules, subst}
use Rattle.machine_rules.specs.Picking.{InOrder, PicksNext, least_ready, picks}
use Rattle.process_table.proofs.Turns.{is_next, is_none, or_else_is}
use Rattle.process_table.proofs.table.ProcessTable.pick.Goals as goal
use Rattle.process_table.proofs.table.ProcessTable.pick.Goals.{After-or_else}

picked : (c : After-or_else) → c.or_else.result ≡ picks c.args.self.now.picked c.args.self.now.live
picked c =
    let answer = or_else_is c.ready_above.result c.or_else.result (least_ready c.args.self.now.live) (λ called. search rules) c.or_else.ensures in
    rw answer (rw c.ready_above.ensures (search rules))

law : (c : After-or_else) → PicksNext c.args.self.now.picked c.args.self.now.live
law c = c.picking_law.ensures c.args.self.now.picked c.args.self.now.live (subst (λ t. InOrder t.live) c.self.view_is c.self.invariant.rising)

pub returns-clause-picks : goal.returns-clause-picks
returns-clause-picks c = picked c

pub returns-clause-none : goal.returns-clause-none
returns-clause-none c = is_none _ _ c.or_else.result (picked c) (law c)

pub returns-clause-next : goal.returns-clause-next
returns-clause-next c = is_next _ _ c.or_else.result (picked c) (law c)
