use Rattle.std.proofs.Common.{◌≡◌, ℕ, suc, ◌+◌, ◌-◌, ◌<◌, ◌≤◌, true, false, not, List, [], ◌∷◌, ◌++◌, length, refl, ap, sym, ◌∙◌, rules, arith}
use Rattle.std.proofs.lemmas.Grind.{common_steps}
use Rattle.clu_grammar.specs.StmtPlan as plan
use Rattle.clu_stmt_reader.specs.Parts as parts
use Rattle.clu_stmt_reader.proofs.Loops.{many_first, many_last, many_turn, many_more, many_out}
use Rattle.clu_stmt_reader.proofs.Steps.{whens-many}
use Rattle.clu_stmt_reader.proofs.reader.Reader.whens.Goals as goal
use Rattle.clu_stmt_reader.proofs.reader.Reader.whens.Goals.{else-loop-turn-test, then-loop-turn-test+else-not-at_when+in_ok-when+in_ok-push+else-turn-turn-end}

pub loop-turn-init : goal.loop-turn-init
loop-turn-init g c = many_first parts.at_when (parts.when c.args.self.now.depth) (suc (length c.args.cursor.now)) (suc c.left-turn-end.result) _ _ (search rules) (omega arith) (whens-many c.args.self.now.depth (suc (length c.args.cursor.now)) c.args.cursor.now)

pub returns-then-not-at_when : goal.returns-then-not-at_when
returns-then-not-at_when g c =
    let none : parts.at_when c.loop-turn.cursor ≡ false = first_of (search rules, grind (arith, common_steps)) in
    many_last parts.at_when (parts.when c.args.self.now.depth) (suc c.left-turn-end.result) c.loop-turn._turn c.loop-turn.found.whens c.loop-turn.cursor c.loop-turn.invariant (omega arith) none

pub returns-in_err-when : goal.returns-in_err-when
returns-in_err-when g c =
    let some : parts.at_when c.loop-turn.cursor ≡ true = first_of (search rules, grind (arith, common_steps)) in
    let e = many_turn parts.at_when (parts.when c.args.self.now.depth) (suc c.left-turn-end.result) c.loop-turn._turn c.loop-turn.found.whens c.loop-turn.cursor c.loop-turn.invariant (omega arith) some in
    first_of (search rules, grind (arith, common_steps))

pub loop-turn-preserved : goal.loop-turn-preserved
loop-turn-preserved g c =
    let some : parts.at_when c.loop-turn.cursor ≡ true = first_of (search rules, grind (arith, common_steps)) in
    many_more parts.at_when (parts.when c.args.self.now.depth) (suc c.left-turn-end.result) c.loop-turn._turn c.loop-turn.found.whens c.loop-turn.cursor c.loop-turn.invariant _ _ _ (omega arith) some c.in_ok-when.ensures (search rules)

pub returns : goal.returns
returns g c = elim c.loop-turn-test.branch [
  | else-loop-turn-test w ↦ many_out parts.at_when (parts.when c.args.self.now.depth) (suc c.left-turn-end.result) c.loop-turn._turn c.loop-turn.found.whens c.loop-turn.cursor c.loop-turn.invariant (omega arith)
  | then-loop-turn-test+else-not-at_when+in_ok-when+in_ok-push+else-turn-turn-end w ↦
      let x = w.in_ok-when.when.when in
      let all = c.loop-turn.found.whens ++ x ∷ [] in
      many_out parts.at_when (parts.when c.args.self.now.depth) (suc c.left-turn-end.result) (c.loop-turn._turn + 1) all _
      (many_more parts.at_when (parts.when c.args.self.now.depth) (suc c.left-turn-end.result) c.loop-turn._turn c.loop-turn.found.whens c.loop-turn.cursor c.loop-turn.invariant x _ all (omega arith) (sym w.at_when.ensures ∙ w.if-not-at_when.false) w.in_ok-when.ensures refl)
      (omega arith)
]
