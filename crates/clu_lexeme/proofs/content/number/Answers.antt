use Rattle.std.proofs.Common.{◌≡◌, ◌+◌, ◌*◌, ◌-◌, drop, get_or, arith, sym, ap, ◌∙◌}
use Rattle.std.proofs.lemmas.List.{at_drop_more}
use Rattle.clu_text.proofs.Numbers.{int_from, int_from-reaches}
use Rattle.clu_lexeme.proofs.content.number.Goals as goal

pub overflow_mul-number : goal.overflow_mul-number
overflow_mul-number c =
    omega (arith, int_from-reaches c.loop-digit.number c.loop-digit.digit-index c.args.digits.now (omega arith), c.loop-digit.invariant.0, c.requires.in_range)

pub overflow_add-number : goal.overflow_add-number
overflow_add-number c =
    omega (arith, int_from-reaches c.loop-digit.number c.loop-digit.digit-index c.args.digits.now (omega arith), c.loop-digit.invariant.0, c.requires.in_range)

pub loop-digit-preserved : goal.loop-digit-preserved
loop-digit-preserved c =
    let step = at_drop_more (int_from c.loop-digit.number) c.args.digits.now c.loop-digit.digit-index 0 (omega arith) in
    let reaches = int_from-reaches c.loop-digit.number c.loop-digit.digit-index c.args.digits.now (omega arith) in
    let next : c.loop-digit.number * 10 + c.from.result ≡ 10 * c.loop-digit.number + (get_or c.args.digits.now c.loop-digit.digit-index 0 - 48) = omega (arith, c.from.ensures) in (
      ap (λ n. int_from n (drop (c.loop-digit.digit-index + 1) c.args.digits.now)) next ∙ (sym step ∙ c.loop-digit.invariant.0),
      omega (arith, reaches, next, c.loop-digit.invariant.0, c.requires.in_range),
    )
