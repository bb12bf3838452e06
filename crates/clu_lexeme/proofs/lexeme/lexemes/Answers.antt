use Rattle.std.proofs.Common.{◌+◌, List, drop, subst, arith}
use Rattle.std.proofs.lemmas.List.{drop_all, at_drop_more}
use Rattle.clu_text.specs.declared.token.Token.{Token}
use Rattle.clu_text.specs.declared.token.TokenKind.TheVariants as kind
use Rattle.clu_lexeme.proofs.Listing.{GoesOn, goes_on, goes_on_none}
use Rattle.clu_lexeme.proofs.lexeme.lexemes.Goals as goal

pub loop-token-preserved : goal.loop-token-preserved
loop-token-preserved c =
    let none : Token = record { kind = kind.Word; from = 0; to = 0; line = 0 } in
    let step = at_drop_more (λ (x : List Token). x) c.args.tokens.now c.loop-token.token-index none c.loop-token-test.true in
    rw c.in_ok-push.ensures.items
    (goes_on c.args.text.now c.args.tokens.now c.loop-token.found.items _ (drop (c.loop-token.token-index + 1) c.args.tokens.now) c.in_ok-next.next c.in_ok-next.ensures (subst (GoesOn c.args.text.now c.args.tokens.now c.loop-token.found.items) step c.loop-token.invariant))

pub returns : goal.returns
returns c =
    goes_on_none c.args.text.now c.args.tokens.now c.loop-token.found.items
    (subst (GoesOn c.args.text.now c.args.tokens.now c.loop-token.found.items) (drop_all c.loop-token.token-index c.args.tokens.now (omega arith)) c.loop-token.invariant)
