use Rattle.std.proofs.Common.{◌∙◌, ap, subst, sym, is_some, rules}
use Rattle.std.specs.FinMap as map
use Rattle.numbered_calls.specs.Calls.{without}
use Rattle.numbered_calls.specs.Numbers.{Rise}
use Rattle.numbered_calls.proofs.Maps.{get-of_entries}
use Rattle.numbered_calls.proofs.Rising.{Rise-remove_entry, are_numbered, without_is}
use Rattle.numbered_calls.proofs.calls.NumberedCalls.end.Goals as goal

pub invariant_of-self : goal.invariant_of-self
invariant_of-self g c = (subst (Rise 0 c.self.inside.last) (sym c.shift_remove.ensures.entries) (Rise-remove_entry _ 0 _ _ c.self.invariant.0), c.self.invariant.1)

pub returns : goal.returns
returns g c = record {
  pending =
      c.is_some.ensures ∙ ap is_some (c.shift_remove.ensures.value ∙ sym (get-of_entries c.self.inside.pending.entries c.args.seq))
      ∙ ap (λ calls. map.contains_key calls.pending c.args.seq) c.self.view_is;
  ended = without_is c.self.inside.last c.args.seq _ _ c.shift_remove.ensures.updates.0 ∙ ap (λ calls. without calls c.args.seq) c.self.view_is;
  unchanged = search rules;
  numbered = are_numbered _ _ (subst (Rise 0 c.self.inside.last) (sym c.shift_remove.ensures.entries) (Rise-remove_entry _ 0 _ _ c.self.invariant.0), c.self.invariant.1);
}
