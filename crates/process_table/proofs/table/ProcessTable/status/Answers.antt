-- The process stands at the place that was found.
use Rattle.std.proofs.Common.{◌≡◌, ℕ, Some, slice_get, sym, ap, ◌∙◌, subst, arith}
use Rattle.std.proofs.lemmas.List.{length-map}
use Rattle.std.proofs.lemmas.Option.{slice_get_within}
use Rattle.machine_rules.specs.declared.status.Status.{Status}
use Rattle.process_table.specs.Processes.{numbers, status_of}
use Rattle.process_table.specs.contracts.table.ProcessTable.{the_view}
use Rattle.process_table.proofs.Places.{lookup_at}
use Rattle.process_table.proofs.table.ProcessTable.status.Goals as goal

pub index-requires : goal.index-requires
index-requires c =
    let at = subst (λ t. slice_get (numbers t) c.in_ok-place.place ≡ Some c.args.pid) (sym c.self.view_is) c.in_ok-place.ensures.place in
    let within = slice_get_within (numbers (the_view c.self.inside)) c.in_ok-place.place c.args.pid at in
    omega (arith, c.self.inside.live.ok.0, rw length-map at within)

pub returns-clause-status : goal.returns-clause-status
returns-clause-status c =
    let at = subst (λ t. slice_get (numbers t) c.in_ok-place.place ≡ Some c.args.pid) (sym c.self.view_is) c.in_ok-place.ensures.place in
    let found = lookup_at c.args.pid c.self.inside.live.items c.in_ok-place.place c.index.result.now c.self.invariant.rising at in
    ap (λ (p : ℕ × Status). Some p.1) c.index.ensures ∙ sym found ∙ ap (λ t. status_of t c.args.pid) c.self.view_is
