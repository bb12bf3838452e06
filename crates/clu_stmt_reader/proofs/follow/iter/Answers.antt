use Rattle.std.proofs.Common.{◌≡◌, ◌∙◌, sym}
use Rattle.clu_stmt_reader.proofs.Iters.{range-at, elements-at, gives_along}
use Rattle.clu_stmt_reader.proofs.follow.iter.Goals as goal

pub returns-then-at_range : goal.returns-then-at_range
returns-then-at_range c = gives_along (λ x. x.iter) _ _ _ _ (range-at c.args.depth c.args.cursor.now (sym c.at_range.ensures ∙ c.if-at_range.true)) c.ranged.ensures

pub returns : goal.returns
returns c = gives_along (λ x. x.iter) _ _ _ _ (elements-at c.args.depth c.args.cursor.now (sym c.at_range.ensures ∙ c.if-at_range.false)) c.elements.ensures
