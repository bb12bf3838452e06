use Rattle.std.proofs.Common.{◌∙◌, ap, subst, sym}
use Rattle.std.specs.FinMap as map
use Rattle.numbered_calls.specs.Calls.{AreNumbered}
use Rattle.numbered_calls.proofs.Maps.{get-of_entries}
use Rattle.numbered_calls.proofs.Rising.{are_numbered, found_given}
use Rattle.numbered_calls.proofs.calls.NumberedCalls.get.Goals as goal

pub returns-clause-call : goal.returns-clause-call
returns-clause-call g c = c.get.ensures.value ∙ sym (get-of_entries c.self.inside.pending.entries c.args.seq) ∙ ap (λ calls. map.get calls.pending c.args.seq) c.self.view_is

pub returns-clause-numbered : goal.returns-clause-numbered
returns-clause-numbered g c = subst AreNumbered c.self.view_is (are_numbered _ _ c.self.invariant)

pub returns-clause-given : goal.returns-clause-given
returns-clause-given g c = found_given _ c.args.seq c.get.result (returns-clause-numbered g c) (returns-clause-call g c)
