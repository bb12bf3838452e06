use Rattle.std.proofs.Common.{◌∙◌, ap, get_or}
use Rattle.eval_frames.proofs.Names.{found-missing, found-first}
use Rattle.eval_frames.proofs.vars.find.Goals as goal

pub returns-in-None : goal.returns-in-None
returns-in-None c = rw (← c.as_slice.ensures) (found-missing _ _ c.in-None.ensures.place)

pub returns-in-Some : goal.returns-in-Some
returns-in-Some c =
    let d = c.index-as_slice-i.result in
    found-first c.args.name.now c.args.vars.now c.in-Some.i d (rw c.as_slice.ensures at c.in-Some.ensures.place)
    (c.index-as_slice-i.is ∙ ap (λ (vs : _). get_or vs c.in-Some.i d) c.as_slice-in-Some.ensures)
