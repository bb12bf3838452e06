use Rattle.std.proofs.Common.{◌≡◌, ◌∷◌, ap, ◌∙◌, ℕ, List}
use Rattle.clu_lexeme.proofs.Contents.{begins_plain, begins_escape}
use Rattle.clu_lexeme.proofs.content.first_part.Goals as goal

pub returns-then-first-ne92 : goal.returns-then-first-ne92
returns-then-first-ne92 c =
    begins_plain c.args.quote c.args.bytes.now c.in_ok-first.first.now c.in_ok-first.rest.now c.in_ok-first.ensures.cases.0 c.if-first-quote.false c.if-first-ne92.true

pub returns : goal.returns
returns c =
    let all : c.args.bytes.now ≡ 92 ∷ c.in_ok-second.second.now ∷ c.in_ok-second.behind.now =
    c.in_ok-first.ensures.cases.0 ∙ (ap (λ x. x ∷ c.in_ok-first.rest.now) c.if-first-ne92.false ∙ ap (λ (x : List ℕ). 92 ∷ x) c.in_ok-second.ensures.cases.0) in
    begins_escape c.args.quote c.args.bytes.now c.in_ok-second.second.now c.stands_for.result c.in_ok-second.behind.now all c.requires.other c.stands_for.ensures
