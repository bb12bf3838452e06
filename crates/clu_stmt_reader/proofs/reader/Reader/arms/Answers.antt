use Rattle.std.proofs.Common.{◌≡◌, ℕ, suc, ◌+◌, ◌-◌, ◌<◌, ◌≤◌, true, false, not, List, [], ◌∷◌, ◌++◌, length, refl, ap, sym, ◌∙◌, rules, arith}
use Rattle.std.proofs.lemmas.Grind.{common_steps}
use Rattle.clu_grammar.specs.StmtPlan as plan
use Rattle.clu_stmt_reader.specs.Parts as parts
use Rattle.clu_stmt_reader.proofs.Loops.{many_first, many_last, many_turn, many_more, many_out}
use Rattle.clu_stmt_reader.proofs.Steps.{arms-many}
use Rattle.clu_stmt_reader.proofs.reader.Reader.arms.Goals as goal
use Rattle.clu_stmt_reader.proofs.reader.Reader.arms.Goals.{else-loop-turn-test, then-loop-turn-test+else-not-at_arm+in_ok-arm+in_ok-push+else-turn-turn-end}

pub loop-turn-init : goal.loop-turn-init
loop-turn-init g c = many_first parts.at_arm (parts.arm c.args.self.now.depth) (suc (length c.args.cursor.now)) (suc c.left-turn-end.result) _ _ (search rules) (omega arith) (arms-many c.args.self.now.depth (suc (length c.args.cursor.now)) c.args.cursor.now)

pub returns-then-not-at_arm : goal.returns-then-not-at_arm
returns-then-not-at_arm g c =
    let none : parts.at_arm c.loop-turn.cursor ≡ false = first_of (search rules, grind (arith, common_steps)) in
    many_last parts.at_arm (parts.arm c.args.self.now.depth) (suc c.left-turn-end.result) c.loop-turn._turn c.loop-turn.found.arms c.loop-turn.cursor c.loop-turn.invariant (omega arith) none

pub returns-in_err-arm : goal.returns-in_err-arm
returns-in_err-arm g c =
    let some : parts.at_arm c.loop-turn.cursor ≡ true = first_of (search rules, grind (arith, common_steps)) in
    let e = many_turn parts.at_arm (parts.arm c.args.self.now.depth) (suc c.left-turn-end.result) c.loop-turn._turn c.loop-turn.found.arms c.loop-turn.cursor c.loop-turn.invariant (omega arith) some in
    first_of (search rules, grind (arith, common_steps))

pub loop-turn-preserved : goal.loop-turn-preserved
loop-turn-preserved g c =
    let some : parts.at_arm c.loop-turn.cursor ≡ true = first_of (search rules, grind (arith, common_steps)) in
    many_more parts.at_arm (parts.arm c.args.self.now.depth) (suc c.left-turn-end.result) c.loop-turn._turn c.loop-turn.found.arms c.loop-turn.cursor c.loop-turn.invariant _ _ _ (omega arith) some c.in_ok-arm.ensures (search rules)

pub returns : goal.returns
returns g c = elim c.loop-turn-test.branch [
  | else-loop-turn-test w ↦ many_out parts.at_arm (parts.arm c.args.self.now.depth) (suc c.left-turn-end.result) c.loop-turn._turn c.loop-turn.found.arms c.loop-turn.cursor c.loop-turn.invariant (omega arith)
  | then-loop-turn-test+else-not-at_arm+in_ok-arm+in_ok-push+else-turn-turn-end w ↦
      let x = w.in_ok-arm.arm.arm in
      let all = c.loop-turn.found.arms ++ x ∷ [] in
      many_out parts.at_arm (parts.arm c.args.self.now.depth) (suc c.left-turn-end.result) (c.loop-turn._turn + 1) all _
      (many_more parts.at_arm (parts.arm c.args.self.now.depth) (suc c.left-turn-end.result) c.loop-turn._turn c.loop-turn.found.arms c.loop-turn.cursor c.loop-turn.invariant x _ all (omega arith) (sym w.at_arm.ensures ∙ w.if-not-at_arm.false) w.in_ok-arm.ensures refl)
      (omega arith)
]
