use Rattle.std.proofs.Common.{◌∙◌, ap, subst, sym, ◌+◌, arith, refl, rules}
use Rattle.std.specs.Prelude.{IsSome}
use Rattle.numbered_calls.proofs.Maps.{get-of_entries}
use Rattle.numbered_calls.specs.Calls.{AreNumbered, with_call}
use Rattle.numbered_calls.specs.declared.calls.Asked.{Asked}
use Rattle.numbered_calls.specs.Numbers.{Rise}
use Rattle.numbered_calls.proofs.Rising.{Rise-push, insert_entry-next, are_numbered, with_call_is}
use Rattle.numbered_calls.proofs.calls.NumberedCalls.start.Goals as goal

pub returns-then-self-eq-LAST_NUMBER : goal.returns-then-self-eq-LAST_NUMBER
returns-then-self-eq-LAST_NUMBER g c = record {
  number = tt;
  ok = tt;
  pending = tt;
  full = search (rules, arith);
  err = refl;
  numbered = subst AreNumbered c.self.view_is (are_numbered _ _ c.self.invariant);
}

pub returns-in_err-insert : goal.returns-in_err-insert
returns-in_err-insert g c = record {
  number = search rules;
  ok = search rules;
  pending = search rules;
  full = search (rules, arith);
  err = search rules;
  numbered = are_numbered _ _ (rw c.in_err-insert.ensures.err c.self.invariant);
}

pub invariant_of-self-2 : goal.invariant_of-self-2
invariant_of-self-2 g c =
    let last = c.self.inside.last in
    let entries = c.in_ok-insert.ensures.entries ∙ insert_entry-next c.self.inside.pending last _ c.self.invariant.0 in
    (subst (Rise 0 (last + 1)) (sym entries) (Rise-push 0 last _ _ c.self.invariant.0), omega (arith, c.self.invariant.1))

pub returns : goal.returns
returns g c =
    let call : Asked _ = record { to = c.args.to; routine = c.args.routine; args = c.args.args } in
    let last = c.self.inside.last in
    let entries = c.in_ok-insert.ensures.entries ∙ insert_entry-next c.self.inside.pending last _ c.self.invariant.0 in
    record {
      number = search rules;
      ok = with_call_is last _ _ call c.in_ok-insert.ensures.updates.0 ∙ ap (λ calls. with_call calls call) c.self.view_is;
      pending = subst IsSome (sym (get-of_entries _ (last + 1) ∙ c.in_ok-insert.ensures.updates.1)) refl;
      full = search (rules, arith);
      err = tt;
      numbered = are_numbered _ _ (subst (Rise 0 (last + 1)) (sym entries) (Rise-push 0 last _ _ c.self.invariant.0), omega (arith, c.self.invariant.1));
    }
