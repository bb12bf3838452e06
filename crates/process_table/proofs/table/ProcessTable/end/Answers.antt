-- The process stands at the place that was found.
use Rattle.std.proofs.Common.{◌≡◌, eqb, None, Some, slice_get, refl, sym, subst}
use Rattle.std.proofs.lemmas.Option.{MatchOption-at_some}
use Rattle.std.specs.Map.{remove_entry}
use Rattle.process_table.specs.Processes.{Processes, ChangesOnly, IsTable, numbers}
use Rattle.process_table.specs.contracts.table.ProcessTable.{the_view}
use Rattle.process_table.proofs.Places.{remove_at}
use Rattle.process_table.proofs.Tables.{IsTable-end, ChangesOnly-end}
use Rattle.process_table.proofs.table.ProcessTable.end.Goals as goal
use Rattle.process_table.proofs.table.ProcessTable.end.Goals.{After-remove}

removed : (c : After-remove) → c.remove.new.self.items ≡ remove_entry (eqb c.args.pid) c.self.inside.live.items
removed c =
    let found = MatchOption-at_some _ (λ place. slice_get (numbers c.args.self.now) place ≡ Some c.args.pid) c.unwrap-place.result c.unwrap-place.ensures c.place_of.ensures.place in
    let at = subst (λ t. slice_get (numbers t) c.unwrap-place.result ≡ Some c.args.pid) (sym c.self.view_is) found in
    rw c.remove.ensures.items (remove_at c.args.pid c.self.inside.live.items c.unwrap-place.result c.self.invariant.rising at)

in_order : (c : After-remove) → IsTable (record { live = c.remove.new.self.items; given = c.self.inside.given; picked = c.self.inside.picked })
in_order c = rw (removed c) (IsTable-end (the_view c.self.inside) c.self.invariant c.args.pid)

pub invariant_of-self : goal.invariant_of-self
invariant_of-self c = in_order c

pub returns-clause-live : goal.returns-clause-live
returns-clause-live c =
    let IsEnd : Processes → Type 0 = λ t. ◌≡◌ {A = Processes} (record { live = c.remove.new.self.items; given = c.self.inside.given; picked = c.self.inside.picked }) (record t { live = remove_entry (eqb c.args.pid) t.live }) in
    subst IsEnd c.self.view_is (rw (removed c) refl)

pub returns-clause-statuses : goal.returns-clause-statuses
returns-clause-statuses c = subst (λ t. ChangesOnly t (record { live = c.remove.new.self.items; given = c.self.inside.given; picked = c.self.inside.picked }) c.args.pid None) c.self.view_is (rw (removed c) (ChangesOnly-end (the_view c.self.inside) c.self.invariant c.args.pid))

pub returns-clause-table : goal.returns-clause-table
returns-clause-table c = in_order c
