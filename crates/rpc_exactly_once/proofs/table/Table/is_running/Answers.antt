use Rattle.std.proofs.Common.{◌∙◌, ap, None, Some, sym}
use Rattle.rpc_exactly_once.specs.declared.row.Row.TheVariants.{Running}
use Rattle.rpc_exactly_once.specs.Server.{is_running}
use Rattle.rpc_exactly_once.proofs.Tables.{row_found}
use Rattle.rpc_exactly_once.proofs.table.Table.is_running.Goals as goal

pub returns-in-None-clause-running : goal.returns-in-None-clause-running
returns-in-None-clause-running c = ap is_running (row_found _ _ _ c.args.seq None c.self.view_is c.in-None.ensures.value)

pub returns-in-Some-Running-clause-running : goal.returns-in-Some-Running-clause-running
returns-in-Some-Running-clause-running c = ap is_running (row_found _ _ _ c.args.seq (Some Running) c.self.view_is (ap Some (sym c.in-Some-Running.field-0-is) ∙ c.in-Some-Running.ensures.value))

pub returns-in-Some-Done-clause-running : goal.returns-in-Some-Done-clause-running
returns-in-Some-Done-clause-running c = ap is_running (ap Some (sym c.in-Some-Done.field-0-is) ∙ row_found _ _ _ c.args.seq _ c.self.view_is c.in-Some-Done.ensures.value)
