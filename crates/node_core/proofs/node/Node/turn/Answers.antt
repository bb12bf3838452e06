use Rattle.std.proofs.Common.{inl, inr, arith, sym, ◌∙◌, ap}
use Rattle.node_core.specs.Seen.{NodeSeen, own_limit}
use Rattle.node_core.proofs.Expiring.{own_queue}
use Rattle.node_core.proofs.Turns.{answered, refused}
use Rattle.node_core.proofs.node.Node.turn.Goals as goal
use Rattle.node_core.proofs.node.Node.turn.Goals.{then-most-eq0-via-then-most-eq0, then-most-eq0-via-else-most-eq0+then-t-self, then-most-eq0-via-else-most-eq0+else-t-self+then-due, then-most-eq0-via-else-most-eq0+else-t-self+else-due+then-not-is_ready}

pub returns-then-most-eq0-clause-answers : goal.returns-then-most-eq0-clause-answers
returns-then-most-eq0-clause-answers c =
    let unspent = sym (ap (λ (k : NodeSeen). k.spent) c.self.view_is) ∙ c.if-self.false in
    elim c.then-most-eq0.branch [
      | then-most-eq0-via-then-most-eq0 w ↦ refused c.args.self.now c.args.t c.args.most unspent (inl w.if-most-eq0.true)
      | then-most-eq0-via-else-most-eq0+then-t-self w ↦ refused c.args.self.now c.args.t c.args.most unspent (inr (inl (rw (← c.self.view_is) w.if-t-self.true)))
      | then-most-eq0-via-else-most-eq0+else-t-self+then-due w ↦ refused c.args.self.now c.args.t c.args.most unspent (inr (inr (inl (sym (w.due.ensures unspent) ∙ w.if-due.true))))
      | then-most-eq0-via-else-most-eq0+else-t-self+else-due+then-not-is_ready w ↦ refused c.args.self.now c.args.t c.args.most unspent (inr (inr (inr (sym w.is_ready.ensures ∙ w.if-not-is_ready.true))))
    ]

pub returns-clause-answers : goal.returns-clause-answers
returns-clause-answers c =
    let i = c.self.inside in
    rw (c.in-Ok-add_limit.ensures, own_queue c.in-Ok.ran.asleep)
    (answered c.args.self.now i.program.now i.number i.process (own_limit i.limits) c.in-Some.process i.picked i.time c.args.t c.args.most i.spent c.in-Ok.ran c.self.view_is c.if-self.false (sym c.in-Some.ensures.value) (sym c.is_ready.ensures ∙ c.if-not-is_ready.false)
    (omega (arith, c.if-t-self.false)) (omega (arith, c.if-most-eq0.false)) (rw c.min.ensures at c.in-Ok.ensures))
