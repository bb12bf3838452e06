use Rattle.std.proofs.Common.{refl}
use Rattle.clu_tree.specs.declared.tree.Stmt.TheViews as s
use Rattle.eval_frames.proofs.Rows.{by_row, here}
use Rattle.eval_items.proofs.stmts.begins.Goals as goal

pub returns-in-Declare : goal.returns-in-Declare
returns-in-Declare g c = here g.w _ _ _ _ c.declares.ensures (rw (c.in-Declare.is, s.outs-Declare) refl)

pub returns-in-Assign : goal.returns-in-Assign
returns-in-Assign g c = by_row g.w.store _ _ _ _ c.assigns.ensures (rw (c.in-Assign.is, s.outs-Assign) refl)

pub returns-in-Call : goal.returns-in-Call
returns-in-Call g c = here g.w _ _ _ _ c.evals_then.ensures (rw (c.in-Call.is, s.outs-Call) refl)

pub returns-in-PutLine : goal.returns-in-PutLine
returns-in-PutLine g c = here g.w _ _ _ _ c.evals_then-in-PutLine.ensures (rw (c.in-PutLine.is, s.outs-PutLine) refl)

pub returns-in-Sleep : goal.returns-in-Sleep
returns-in-Sleep g c = here g.w _ _ _ _ c.evals_then-in-Sleep.ensures (rw (c.in-Sleep.is, s.outs-Sleep) refl)

pub returns-in-Fork : goal.returns-in-Fork
returns-in-Fork g c = by_row g.w.store _ _ _ _ c.operands.ensures (rw (c.in-Fork.is, s.outs-Fork, c.spawning.ensures) refl)

pub returns-in-Return : goal.returns-in-Return
returns-in-Return g c = here g.w _ _ _ _ c.returns.ensures (rw (c.in-Return.is, s.outs-Return) refl)

pub returns-in-Signal : goal.returns-in-Signal
returns-in-Signal g c = by_row g.w.store _ _ _ _ c.signals.ensures (rw (c.in-Signal.is, s.outs-Signal) refl)

pub returns-in-If : goal.returns-in-If
returns-in-If g c = here g.w _ _ _ _ c.evals_then-in-If.ensures (rw (c.in-If.is, s.outs-If) refl)

pub returns-in-While : goal.returns-in-While
returns-in-While g c = here g.w _ _ _ _ c.begins_while.ensures (rw (c.in-While.is, s.outs-While) refl)

pub returns-in-For : goal.returns-in-For
returns-in-For g c = here g.w _ _ _ _ c.loops_over.ensures (rw (c.in-For.is, s.outs-For) refl)

pub returns-in-Tagcase : goal.returns-in-Tagcase
returns-in-Tagcase g c = here g.w _ _ _ _ c.evals_then-in-Tagcase.ensures (rw (c.in-Tagcase.is, s.outs-Tagcase) refl)

pub returns-in-Begin : goal.returns-in-Begin
returns-in-Begin g c = here g.w _ _ _ _ c.puts.ensures (rw (c.in-Begin.is, s.outs-Begin) refl)

pub returns-in-Region : goal.returns-in-Region
returns-in-Region g c = here g.w _ _ _ _ c.evals_then-in-Region.ensures (rw (c.in-Region.is, s.outs-Region) refl)

pub returns-in-Except : goal.returns-in-Except
returns-in-Except g c = here g.w _ _ _ _ c.guards.ensures (rw (c.in-Except.is, s.outs-Except, c.into_inner.ensures) refl)

pub returns : goal.returns
returns g c = here g.w _ _ _ _ c.guards-in-Resignal.ensures (rw (c.in-Resignal.is, s.outs-Resignal, c.into_inner-in-Resignal.ensures) refl)
