use Rattle.std.proofs.Common.{◌≡◌, ℕ, suc, ◌+◌, ◌-◌, ◌<◌, ◌≤◌, length, Some, None, sym, ap, ◌∙◌, rules, arith}
use Rattle.std.proofs.lemmas.Grind.{common_steps}
use Rattle.clu_grammar.specs.Grammar.{with_part}
use Rattle.clu_grammar.specs.ProgramPlan as plan
use Rattle.clu_grammar.proofs.Few.{part_has_few}
use Rattle.clu_stmt_reader.proofs.Loops.{one_turn, no_turn}
use Rattle.clu_program_reader.specs.Views.{part_view}
use Rattle.clu_program_reader.specs.Whole.{with_rest}
use Rattle.clu_program_reader.proofs.Adding.{parts_end, parts_more, parts_step, parts_out, routines_grow}
use Rattle.clu_program_reader.proofs.program.all_parts.Goals as goal

pub returns-then-left-eq0 : goal.returns-then-left-eq0
returns-then-left-eq0 c =
    c.loop-turn.invariant.0 ∙ parts_end c.loop-turn.program (c.left-turn-end.result - c.loop-turn._turn) c.loop-turn.cursor (sym c.left.ensures ∙ c.if-left-eq0.true)

pub returns-in_err-next : goal.returns-in_err-next
returns-in_err-next c =
    let e : plan.program c.args.cursor.now ≡ with_rest c.loop-turn.program (plan.parts_after (plan.parts 200 (c.left-turn-end.result - (c.loop-turn._turn + 1))) (plan.part 200 c.loop-turn.cursor)) =
    c.loop-turn.invariant.0
    ∙ (one_turn (λ n. with_rest c.loop-turn.program (plan.parts 200 n c.loop-turn.cursor)) c.left-turn-end.result c.loop-turn._turn c.loop-turn-test.true
    ∙ parts_step c.loop-turn.program (c.left-turn-end.result - (c.loop-turn._turn + 1)) c.loop-turn.cursor (λ h. c.if-left-eq0.false (c.left.ensures ∙ h))) in
    first_of (search rules, grind (arith, common_steps))

pub add-requires-clause-few : goal.add-requires-clause-few
add-requires-clause-few c =
    omega (arith, part_has_few c.loop-turn.cursor c.part.new.cursor (part_view c.in_ok-next.next) c.in_ok-next.ensures, c.loop-turn.invariant.1)

pub loop-turn-preserved : goal.loop-turn-preserved
loop-turn-preserved c =
    let few = part_has_few c.loop-turn.cursor c.part.new.cursor (part_view c.in_ok-next.next) c.in_ok-next.ensures in
    let grown = routines_grow c.loop-turn.program (part_view c.in_ok-next.next) in
    rw c.in_ok-add.ensures (
      c.loop-turn.invariant.0
          ∙ (one_turn (λ n. with_rest c.loop-turn.program (plan.parts 200 n c.loop-turn.cursor)) c.left-turn-end.result c.loop-turn._turn c.loop-turn-test.true
          ∙ parts_more c.loop-turn.program (c.left-turn-end.result - (c.loop-turn._turn + 1)) c.loop-turn.cursor c.part.new.cursor (part_view c.in_ok-next.next) c.in_ok-next.ensures
          (λ h. c.if-left-eq0.false (c.left.ensures ∙ h))),
      omega (arith, few, grown, c.loop-turn.invariant.1),
    )

pub returns-then-left-eq0-2 : goal.returns-then-left-eq0-2
returns-then-left-eq0-2 c =
    c.loop-turn.invariant.0 ∙ parts_end c.loop-turn.program (c.left-turn-end.result - c.loop-turn._turn) c.loop-turn.cursor (sym c.left-2.ensures ∙ c.if-left-eq0-2.true)

pub returns : goal.returns
returns c =
    c.loop-turn.invariant.0
    ∙ (no_turn (λ n. with_rest c.loop-turn.program (plan.parts 200 n c.loop-turn.cursor)) c.left-turn-end.result c.loop-turn._turn (omega (arith, c.loop-turn-test.false))
    ∙ parts_out c.loop-turn.program c.loop-turn.cursor (λ h. c.if-left-eq0-2.false (c.left-2.ensures ∙ h)))
