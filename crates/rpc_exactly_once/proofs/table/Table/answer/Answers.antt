use Rattle.std.proofs.Common.{◌∙◌, ap, None, Some, sym, subst, ◌<◌, ◌≤◌, arith}
use Rattle.rpc_exactly_once.specs.declared.row.Arrival.TheVariants.{Resend}
use Rattle.rpc_exactly_once.specs.declared.row.Row.TheVariants.{Running, Done}
use Rattle.rpc_exactly_once.specs.Server.{Table}
use Rattle.rpc_exactly_once.proofs.Tables.{answer_above, answer_below, row_found}
use Rattle.rpc_exactly_once.proofs.table.Table.answer.Goals as goal
use Rattle.rpc_exactly_once.proofs.table.Table.answer.Goals.{then-seq-floor-via-then-seq-floor, then-seq-floor-via-else-seq-floor+then-seq-self}

pub returns-then-seq-floor-clause-answer : goal.returns-then-seq-floor-clause-answer
returns-then-seq-floor-clause-answer c = answer_below c.args.self.now c.args.floor c.args.seq (elim c.then-seq-floor.branch [
  | then-seq-floor-via-then-seq-floor w ↦ omega (arith, w.if-seq-floor.true)
  | then-seq-floor-via-else-seq-floor+then-seq-self w ↦ (let below = subst (λ (t : Table). c.args.seq < t.floor) c.self.view_is w.if-seq-self.true in omega (arith, below))
])

pub returns-in-None-clause-answer : goal.returns-in-None-clause-answer
returns-in-None-clause-answer c =
    let le = subst (λ (t : Table). t.floor ≤ c.args.seq) c.self.view_is c.if-seq-self.false in
    answer_above c.args.self.now c.args.floor c.args.seq None c.if-seq-floor.false le (row_found _ _ _ c.args.seq None c.self.view_is c.in-None.ensures.value)

pub returns-in-Some-Running-clause-answer : goal.returns-in-Some-Running-clause-answer
returns-in-Some-Running-clause-answer c =
    let le = subst (λ (t : Table). t.floor ≤ c.args.seq) c.self.view_is c.if-seq-self.false in
    answer_above c.args.self.now c.args.floor c.args.seq (Some Running) c.if-seq-floor.false le (ap Some (sym c.in-Some-Running.field-0-is) ∙ row_found _ _ _ c.args.seq _ c.self.view_is c.in-Some-Running.ensures.value)

pub returns-in_ok-copy-in-Some-Done-clause-answer : goal.returns-in_ok-copy-in-Some-Done-clause-answer
returns-in_ok-copy-in-Some-Done-clause-answer c =
    let le = subst (λ (t : Table). t.floor ≤ c.args.seq) c.self.view_is c.if-seq-self.false in
    ap Resend c.in_ok-copy-in-Some-Done.ensures
    ∙ answer_above c.args.self.now c.args.floor c.args.seq (Some (Done c.in-Some-Done.reply)) c.if-seq-floor.false le (ap Some (sym c.in-Some-Done.field-0-is) ∙ row_found _ _ _ c.args.seq _ c.self.view_is c.in-Some-Done.ensures.value)
