use Rattle.std.proofs.Common.{ap, ◌∙◌, arith}
use Rattle.std.specs.Prelude.{not, ◌==◌}
use Rattle.std.specs.List.{prefix_len}
use Rattle.clu_text.proofs.Places.{comment-found, comment-within}
use Rattle.clu_text.proofs.scan.comment_end.Goals as goal

pub overflow_add-result : goal.overflow_add-result
overflow_add-result c =
    let within = comment-within c.args.text.now c.args.at c.line_len.result c.requires.within (c.line_len.ensures ∙ ap (prefix_len (λ b. not (b == 10))) c.split_at.ensures.back) in
    omega (arith, within)

pub returns : goal.returns
returns c =
    comment-found c.args.text.now c.args.at c.line_len.result c.requires.within c.requires.begins
    (c.line_len.ensures ∙ ap (prefix_len (λ b. not (b == 10))) c.split_at.ensures.back)
