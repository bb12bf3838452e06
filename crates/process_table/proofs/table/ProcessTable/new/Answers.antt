-- The empty table is in order.
use Rattle.process_table.proofs.Tables.{IsTable-empty}
use Rattle.process_table.proofs.table.ProcessTable.new.Goals as goal

pub invariant_of-result : goal.invariant_of-result
invariant_of-result c = rw c.new.ensures.items IsTable-empty

pub returns-clause-table : goal.returns-clause-table
returns-clause-table c = rw c.new.ensures.items IsTable-empty
