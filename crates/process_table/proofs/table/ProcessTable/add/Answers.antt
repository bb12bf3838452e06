-- The new number is above all others.
use Rattle.std.proofs.Common.{◌≡◌, ◌+◌, [], ◌∷◌, ◌++◌, Some, subst, arith}
use Rattle.machine_rules.specs.declared.status.Status.TheVariants.{Ready}
use Rattle.process_table.specs.Processes.{ChangesOnly, IsTable}
use Rattle.process_table.specs.contracts.table.ProcessTable.{the_view}
use Rattle.process_table.proofs.Tables.{IsTable-add, ChangesOnly-add}
use Rattle.process_table.proofs.table.ProcessTable.add.Goals as goal
use Rattle.process_table.proofs.table.ProcessTable.add.Goals.{After-self-1}

pushed : (c : After-self-1) → c.push.new.self.items ≡ c.self.inside.live.items ++ (c.self.inside.given + 1, Ready) ∷ []
pushed c = grind (arith, c.push.ensures.items, c.in_ok-map_err.ensures.variant)

in_order : (c : After-self-1) → IsTable (record { live = c.push.new.self.items; given = c.self.inside.given + 1; picked = c.self.inside.picked })
in_order c = rw (pushed c) (IsTable-add (the_view c.self.inside) c.self.invariant (λ same. grind (arith, c.len.ensures, c.if-len-eq-MAX_LIVE.false)) (λ same. grind (arith, c.if-self-eq-LAST_NUMBER.false)))

pub invariant_of-self-2 : goal.invariant_of-self-2
invariant_of-self-2 c = in_order c

pub returns-clause-statuses : goal.returns-clause-statuses
returns-clause-statuses c = subst (λ t. ChangesOnly t (record { live = c.push.new.self.items; given = c.self.inside.given + 1; picked = c.self.inside.picked }) (c.self.inside.given + 1) (Some Ready)) c.self.view_is (rw (pushed c) (ChangesOnly-add (the_view c.self.inside) c.self.invariant))

pub returns-clause-table : goal.returns-clause-table
returns-clause-table c = in_order c
