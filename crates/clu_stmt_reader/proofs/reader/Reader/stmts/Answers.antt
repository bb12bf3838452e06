use Rattle.std.proofs.Common.{◌≡◌, ℕ, suc, ◌+◌, ◌-◌, ◌<◌, ◌≤◌, true, false, not, List, [], ◌∷◌, ◌++◌, length, refl, ap, sym, ◌∙◌, rules, arith}
use Rattle.std.proofs.lemmas.Grind.{common_steps}
use Rattle.clu_grammar.specs.StmtPlan as plan
use Rattle.clu_stmt_reader.specs.Parts as parts
use Rattle.clu_stmt_reader.proofs.Loops.{many_first, many_last, many_turn, many_more, many_out}
use Rattle.clu_stmt_reader.proofs.Steps.{stmts-many}
use Rattle.clu_stmt_reader.proofs.reader.Reader.stmts.Goals as goal
use Rattle.clu_stmt_reader.proofs.reader.Reader.stmts.Goals.{else-loop-turn-test, then-loop-turn-test+else-ends_body+in_ok-stmt+in_ok-push+else-turn-turn-end}

pub loop-turn-init : goal.loop-turn-init
loop-turn-init g c = many_first parts.goes_on (plan.stmt (parts.inner c.args.self.now.depth) c.args.self.now.depth) (suc (length c.args.cursor.now)) (suc c.left-turn-end.result) _ _ (search rules) (omega arith) (stmts-many c.args.self.now.depth (suc (length c.args.cursor.now)) c.args.cursor.now)

pub returns-then-ends_body : goal.returns-then-ends_body
returns-then-ends_body g c =
    let none : parts.goes_on c.loop-turn.cursor ≡ false = first_of (search rules, grind (arith, common_steps)) in
    many_last parts.goes_on (plan.stmt (parts.inner c.args.self.now.depth) c.args.self.now.depth) (suc c.left-turn-end.result) c.loop-turn._turn c.loop-turn.found.items c.loop-turn.cursor c.loop-turn.invariant (omega arith) none

pub returns-in_err-stmt : goal.returns-in_err-stmt
returns-in_err-stmt g c =
    let some : parts.goes_on c.loop-turn.cursor ≡ true = first_of (search rules, grind (arith, common_steps)) in
    let e = many_turn parts.goes_on (plan.stmt (parts.inner c.args.self.now.depth) c.args.self.now.depth) (suc c.left-turn-end.result) c.loop-turn._turn c.loop-turn.found.items c.loop-turn.cursor c.loop-turn.invariant (omega arith) some in
    first_of (search rules, grind (arith, common_steps))

pub loop-turn-preserved : goal.loop-turn-preserved
loop-turn-preserved g c =
    let some : parts.goes_on c.loop-turn.cursor ≡ true = first_of (search rules, grind (arith, common_steps)) in
    many_more parts.goes_on (plan.stmt (parts.inner c.args.self.now.depth) c.args.self.now.depth) (suc c.left-turn-end.result) c.loop-turn._turn c.loop-turn.found.items c.loop-turn.cursor c.loop-turn.invariant _ _ _ (omega arith) some c.in_ok-stmt.ensures (search rules)

pub returns : goal.returns
returns g c = elim c.loop-turn-test.branch [
  | else-loop-turn-test w ↦ many_out parts.goes_on (plan.stmt (parts.inner c.args.self.now.depth) c.args.self.now.depth) (suc c.left-turn-end.result) c.loop-turn._turn c.loop-turn.found.items c.loop-turn.cursor c.loop-turn.invariant (omega arith)
  | then-loop-turn-test+else-ends_body+in_ok-stmt+in_ok-push+else-turn-turn-end w ↦
      let x = w.in_ok-stmt.stmt.stmt in
      let all = c.loop-turn.found.items ++ x ∷ [] in
      many_out parts.goes_on (plan.stmt (parts.inner c.args.self.now.depth) c.args.self.now.depth) (suc c.left-turn-end.result) (c.loop-turn._turn + 1) all _
      (many_more parts.goes_on (plan.stmt (parts.inner c.args.self.now.depth) c.args.self.now.depth) (suc c.left-turn-end.result) c.loop-turn._turn c.loop-turn.found.items c.loop-turn.cursor c.loop-turn.invariant x _ all (omega arith) (ap not (sym w.ends_body.ensures ∙ w.if-ends_body.false)) w.in_ok-stmt.ensures refl)
      (omega arith)
]
