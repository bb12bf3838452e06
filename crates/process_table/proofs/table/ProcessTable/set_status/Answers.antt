-- The process stands at the place that was found.
use Rattle.std.proofs.Common.{◌≡◌, eqb, set, Some, slice_get, refl, sym, subst}
use Rattle.std.proofs.lemmas.Option.{MatchOption-at_some}
use Rattle.std.specs.Map.{set_value}
use Rattle.process_table.specs.Processes.{Processes, ChangesOnly, IsLive, IsTable, numbers}
use Rattle.process_table.specs.contracts.table.ProcessTable.{the_view}
use Rattle.process_table.proofs.Places.{set_at}
use Rattle.process_table.proofs.Tables.{IsTable-set, ChangesOnly-set}
use Rattle.process_table.proofs.table.ProcessTable.set_status.Goals as goal
use Rattle.process_table.proofs.table.ProcessTable.set_status.Goals.{After-self-1}

replaced : (c : After-self-1) → set c.self.inside.live.items c.unwrap-place.result (c.args.pid, c.args.status) ≡ set_value (eqb c.args.pid) c.self.inside.live.items c.args.status
replaced c =
    let found = MatchOption-at_some _ (λ place. slice_get (numbers c.args.self.now) place ≡ Some c.args.pid) c.unwrap-place.result c.unwrap-place.ensures c.place_of.ensures.place in
    let at = subst (λ t. slice_get (numbers t) c.unwrap-place.result ≡ Some c.args.pid) (sym c.self.view_is) found in
    set_at c.args.pid c.args.status c.self.inside.live.items c.unwrap-place.result c.self.invariant.rising at

in_order : (c : After-self-1) → IsTable (record { live = set c.self.inside.live.items c.unwrap-place.result (c.args.pid, c.args.status); given = c.self.inside.given; picked = c.self.inside.picked })
in_order c = rw (replaced c) (IsTable-set (the_view c.self.inside) c.self.invariant c.args.pid c.args.status)

pub invariant_of-self : goal.invariant_of-self
invariant_of-self c = in_order c

pub returns-clause-live : goal.returns-clause-live
returns-clause-live c =
    let IsSet : Processes → Type 0 = λ t. ◌≡◌ {A = Processes} (record { live = set c.self.inside.live.items c.unwrap-place.result (c.args.pid, c.args.status); given = c.self.inside.given; picked = c.self.inside.picked }) (record t { live = set_value (eqb c.args.pid) t.live c.args.status }) in
    subst IsSet c.self.view_is (rw (replaced c) refl)

pub returns-clause-statuses : goal.returns-clause-statuses
returns-clause-statuses c = subst (λ t. ChangesOnly t (record { live = set c.self.inside.live.items c.unwrap-place.result (c.args.pid, c.args.status); given = c.self.inside.given; picked = c.self.inside.picked }) c.args.pid (Some c.args.status)) c.self.view_is (rw (replaced c) (ChangesOnly-set (the_view c.self.inside) c.self.invariant c.args.pid c.args.status (subst (λ t. IsLive t c.args.pid) (sym c.self.view_is) c.requires)))

pub returns-clause-table : goal.returns-clause-table
returns-clause-table c = in_order c
