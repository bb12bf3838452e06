use Rattle.std.proofs.Common.{inl, inr, sym, ◌∙◌, arith}
use Rattle.journal_text.proofs.Fields.{digits_on-next, digits_on-bad, digits_on-done}
use Rattle.journal_text.proofs.field.number.Goals as goal
use Rattle.journal_text.proofs.field.number.Goals.{then-value-eq0-via-then-value-eq0, then-value-eq0-via-else-value-eq0+then-value-largest}

pub returns-then-value-eq0-clause-read : goal.returns-then-value-eq0-clause-read
returns-then-value-eq0-clause-read c =
    sym c.loop-next.invariant.reads ∙ digits_on-bad c.args.largest c.loop-next.value c.loop-next.rest.now (c.in-Some-digit.next, c.in-Some-digit.others.now) c.in-Some-digit.ensures.found c.requires (elim c.then-value-eq0.branch [
      | then-value-eq0-via-then-value-eq0 w ↦ inl w.if-value-eq0.true
      | then-value-eq0-via-else-value-eq0+then-value-largest w ↦ inr w.if-value-largest.true
    ])

pub loop-next-preserved : goal.loop-next-preserved
loop-next-preserved c = record {
  reads = sym (digits_on-next c.args.largest c.loop-next.value c.loop-next.rest.now (c.in-Some-digit.next, c.in-Some-digit.others.now) c.in-Some-digit.ensures.found c.requires c.if-value-eq0.false c.if-value-largest.false) ∙ c.loop-next.invariant.reads;
  small = omega arith;
}

pub returns-clause-read : goal.returns-clause-read
returns-clause-read c = sym c.loop-next.invariant.reads ∙ digits_on-done c.args.largest c.loop-next.value c.loop-next.rest.now c.in_default-digit.ensures.found
