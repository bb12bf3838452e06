-- A live process was given its number.
use Rattle.std.proofs.Common.{sym, subst}
use Rattle.process_table.specs.Processes.{IsLive}
use Rattle.process_table.specs.contracts.table.ProcessTable.{the_view}
use Rattle.process_table.proofs.Tables.{IsTable-picked}
use Rattle.process_table.proofs.table.ProcessTable.picked.Goals as goal

pub invariant_of-self : goal.invariant_of-self
invariant_of-self c = IsTable-picked (the_view c.self.inside) c.self.invariant c.args.pid (subst (λ t. IsLive t c.args.pid) (sym c.self.view_is) c.requires)

pub returns-clause-table : goal.returns-clause-table
returns-clause-table c = IsTable-picked (the_view c.self.inside) c.self.invariant c.args.pid (subst (λ t. IsLive t c.args.pid) (sym c.self.view_is) c.requires)
