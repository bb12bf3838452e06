use Rattle.std.proofs.Common.{◌≡◌, ℕ, suc, ◌+◌, ◌-◌, ◌<◌, ◌≤◌, true, false, not, List, [], ◌∷◌, ◌++◌, length, refl, ap, sym, ◌∙◌, rules, arith}
use Rattle.std.proofs.lemmas.Grind.{common_steps}
use Rattle.clu_grammar.specs.ProgramPlan as plan
use Rattle.clu_program_reader.specs.Parts as parts
use Rattle.clu_stmt_reader.proofs.Loops.{many_first, many_last, many_turn, many_more, many_out}
use Rattle.clu_program_reader.proofs.node_block.all_parts.Goals as goal
use Rattle.clu_program_reader.proofs.node_block.all_parts.Goals.{else-loop-turn-test, then-loop-turn-test+else-not-at_part+in_ok-next+in_ok-push+else-turn-turn-end}

pub loop-turn-init : goal.loop-turn-init
loop-turn-init c = many_first parts.at_node_part parts.node_part (suc (length c.args.cursor.now)) (suc c.left-turn-end.result) _ _ (search rules) (omega arith) refl

pub returns-then-not-at_part : goal.returns-then-not-at_part
returns-then-not-at_part c =
    let none : parts.at_node_part c.loop-turn.cursor ≡ false = first_of (search rules, grind (arith, common_steps)) in
    many_last parts.at_node_part parts.node_part (suc c.left-turn-end.result) c.loop-turn._turn c.loop-turn.found c.loop-turn.cursor c.loop-turn.invariant (omega arith) none

pub returns-in_err-next : goal.returns-in_err-next
returns-in_err-next c =
    let some : parts.at_node_part c.loop-turn.cursor ≡ true = first_of (search rules, grind (arith, common_steps)) in
    let e = many_turn parts.at_node_part parts.node_part (suc c.left-turn-end.result) c.loop-turn._turn c.loop-turn.found c.loop-turn.cursor c.loop-turn.invariant (omega arith) some in
    first_of (search rules, grind (arith, common_steps))

pub loop-turn-preserved : goal.loop-turn-preserved
loop-turn-preserved c =
    let some : parts.at_node_part c.loop-turn.cursor ≡ true = first_of (search rules, grind (arith, common_steps)) in
    many_more parts.at_node_part parts.node_part (suc c.left-turn-end.result) c.loop-turn._turn c.loop-turn.found c.loop-turn.cursor c.loop-turn.invariant _ _ _ (omega arith) some c.in_ok-next.ensures (search rules)

pub returns : goal.returns
returns c = elim c.loop-turn-test.branch [
  | else-loop-turn-test w ↦ many_out parts.at_node_part parts.node_part (suc c.left-turn-end.result) c.loop-turn._turn c.loop-turn.found c.loop-turn.cursor c.loop-turn.invariant (omega arith)
  | then-loop-turn-test+else-not-at_part+in_ok-next+in_ok-push+else-turn-turn-end w ↦
      let x = w.in_ok-next.next in
      let all = c.loop-turn.found ++ x ∷ [] in
      many_out parts.at_node_part parts.node_part (suc c.left-turn-end.result) (c.loop-turn._turn + 1) all _
      (many_more parts.at_node_part parts.node_part (suc c.left-turn-end.result) c.loop-turn._turn c.loop-turn.found c.loop-turn.cursor c.loop-turn.invariant x _ all (omega arith) (sym w.at_part.ensures ∙ w.if-not-at_part.false) w.in_ok-next.ensures refl)
      (omega arith)
]
