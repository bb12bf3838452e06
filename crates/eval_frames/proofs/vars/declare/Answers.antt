use Rattle.std.proofs.Common.{sym, ◌∙◌}
use Rattle.eval_frames.specs.Places.{IsMissing}
use Rattle.eval_frames.proofs.Names.{declare-missing, declare-first}
use Rattle.eval_frames.proofs.vars.declare.Goals as goal

pub returns-in-None : goal.returns-in-None
returns-in-None c =
    let m : IsMissing c.args.name c.args.vars.now = rw (← c.as_slice.ensures) c.in-None.ensures.place in
    rw (declare-missing c.args.name c.args.shape c.args.value c.args.vars.now m) c.push.ensures.ok

pub returns-in-Some : goal.returns-in-Some
returns-in-Some c =
    c.set.ensures ∙ sym (declare-first c.args.name c.args.shape c.args.value c.args.vars.now c.in-Some.i (rw c.as_slice.ensures at c.in-Some.ensures.place))
