use Rattle.std.proofs.Common.{◌≡◌, ◌≤◌, ◌∙◌, ap, subst, sym}
use Rattle.rpc_exactly_once.specs.declared.row.Row.TheVariants.{Running}
use Rattle.rpc_exactly_once.specs.Server.{Table, with_row, NoneBelow}
use Rattle.rpc_exactly_once.proofs.Tables.{none_below-with_row, seen, with_row_is}
use Rattle.rpc_exactly_once.proofs.table.Table.begun.Goals as goal

pub invariant_of-self-2 : goal.invariant_of-self-2
invariant_of-self-2 c =
    let old = seen c.self.inside.floor c.self.inside.rows.entries in
    let new : seen c.self.inside.floor c.insert.new.self.entries ≡ with_row old c.args.seq Running = with_row_is c.self.inside.floor _ _ c.args.seq Running c.in_ok-insert.ensures.updates.0 in
    let le = subst (λ (t : Table). t.floor ≤ c.args.seq) (sym c.self.view_is) c.requires.not_below in
    subst NoneBelow (sym new) (none_below-with_row old c.args.seq Running le c.self.invariant)

pub returns-clause-ok : goal.returns-clause-ok
returns-clause-ok c = with_row_is c.self.inside.floor _ _ c.args.seq Running c.in_ok-insert.ensures.updates.0 ∙ ap (λ t. with_row t c.args.seq Running) c.self.view_is

pub returns-clause-above : goal.returns-clause-above
returns-clause-above c = invariant_of-self-2 c
