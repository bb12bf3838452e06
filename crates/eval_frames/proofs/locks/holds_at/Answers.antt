use Rattle.std.proofs.Common.{refl, sym}
use Rattle.std.proofs.lemmas.List.Folds.{list_any-append}
use Rattle.eval_frames.proofs.Stacks.{drop-at}
use Rattle.eval_frames.proofs.locks.holds_at.Goals as goal

pub returns : goal.returns
returns c = rw (drop-at c.args.frames.now c.args.at c.in-Some.frame.now (sym c.in-Some.ensures), list_any-append, c.gives_back.ensures) refl
