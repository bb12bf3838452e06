use Rattle.std.proofs.Common.{◌≡◌, ◌∙◌, ap, subst, sym, true, rules}
use Rattle.rpc_exactly_once.specs.declared.row.Row.TheVariants.{Done}
use Rattle.rpc_exactly_once.specs.Server.{is_running, row_of, with_row, NoneBelow}
use Rattle.rpc_exactly_once.proofs.Tables.{none_below-with_row, running_above, seen, with_row_is}
use Rattle.rpc_exactly_once.proofs.table.Table.done.Goals as goal

pub invariant_of-self-2 : goal.invariant_of-self-2
invariant_of-self-2 c =
    let old = seen c.self.inside.floor c.self.inside.rows.entries in
    let new : seen c.self.inside.floor c.insert.new.self.entries ≡ with_row old c.args.seq (Done c.args.reply) = with_row_is c.self.inside.floor _ _ c.args.seq (Done c.args.reply) c.in_ok-insert.ensures.updates.0 in
    let runs = subst (λ t. true ≡ is_running (row_of t c.args.seq)) (sym c.self.view_is) c.if-not-is_running.ensures.running in
    subst NoneBelow (sym new) (none_below-with_row old c.args.seq (Done c.args.reply) (running_above old c.args.seq runs c.self.invariant) c.self.invariant)

pub returns-clause-ok : goal.returns-clause-ok
returns-clause-ok c = with_row_is c.self.inside.floor _ _ c.args.seq (Done c.args.reply) c.in_ok-insert.ensures.updates.0 ∙ ap (λ t. with_row t c.args.seq (Done c.args.reply)) c.self.view_is

pub returns-clause-above : goal.returns-clause-above
returns-clause-above c = invariant_of-self-2 c

pub returns-then-not-is_running-clause-running : goal.returns-then-not-is_running-clause-running
returns-then-not-is_running-clause-running c = search rules
