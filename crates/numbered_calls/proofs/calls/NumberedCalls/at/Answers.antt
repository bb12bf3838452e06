use Rattle.std.proofs.Common.{None, Some, ◌∙◌, sym, subst, refl}
use Rattle.std.specs.Prelude.{IsSome}
use Rattle.numbered_calls.specs.Calls.{AreNumbered, IsAt, IsPending}
use Rattle.numbered_calls.proofs.Maps.{get-of_entries}
use Rattle.numbered_calls.proofs.Rising.{are_numbered, call_at_is}
use Rattle.numbered_calls.proofs.calls.NumberedCalls.at.Goals as goal

pub returns-in_err-seq : goal.returns-in_err-seq
returns-in_err-seq g c = subst (IsAt c.args.self.now c.args.place) (sym c.from_residual.ensures) (record {
  place = call_at_is _ _ _ c.args.place None c.self.invariant.0 c.self.view_is c.in_err-seq.ensures.entry;
  pending = tt;
  given = tt;
  numbered = subst AreNumbered c.self.view_is (are_numbered _ _ c.self.invariant);
})

pub returns : goal.returns
returns g c =
    let numbered = subst AreNumbered c.self.view_is (are_numbered _ _ c.self.invariant) in
    let pending = subst (λ calls. IsPending calls c.in_ok-seq.seq.now) c.self.view_is (subst IsSome (sym (get-of_entries c.self.inside.pending.entries c.in_ok-seq.seq.now ∙ c.in_ok-seq.ensures.value)) refl) in
    record {
      place = call_at_is _ _ _ c.args.place (Some (c.in_ok-seq.seq.now, c.in_ok-seq.call.now)) c.self.invariant.0 c.self.view_is c.in_ok-seq.ensures.entry;
      pending = pending;
      given = numbered.given c.in_ok-seq.seq.now pending;
      numbered = numbered;
    }
