use Rattle.std.proofs.Common.{refl, arith}
use Rattle.eval_frames.proofs.Names.{first-at, missing-more, name-is, name-is-not}
use Rattle.eval_frames.proofs.vars.place_of.Goals as goal

pub returns-then-is-clause-place : goal.returns-then-is-clause-place
returns-then-is-clause-place c =
    first-at _ _ _ c.index-vars-i.result (omega arith) c.loop-i.invariant (name-is _ _ _ c.index-vars-i.is (c.if-is.ensures.0 refl))

pub loop-i-preserved : goal.loop-i-preserved
loop-i-preserved c = missing-more _ _ _ c.index-vars-i.result (omega arith) c.loop-i.invariant (name-is-not _ _ _ c.index-vars-i.is c.if-is.ensures.1)
