use Rattle.std.proofs.Common.{◌+◌, refl, sym, ap, ◌∙◌, subst, arith}
use Rattle.std.specs.Prelude.{All}
use Rattle.std.proofs.lemmas.List.Elements.{All-nil, All-push}
use Rattle.clu_text.specs.Tokens.{is_blank, Fills, here, line_at, IsInRange}
use Rattle.clu_text.proofs.Places.{token-some, line-end, line-same, line-token, line-comment}
use Rattle.clu_text.proofs.Filling.{no_fault, fills-blank, fills-comment, fills-token}
use Rattle.clu_text.proofs.Answering.{answer-err, tells_at, ok, ok_only, ok_where, bad_only, bad_where, wide_only, wide_where, whole}
use Rattle.clu_text.proofs.scan.tokens.Goals as goal

pub loop-at-init : goal.loop-at-init
loop-at-init c = record {
  within = omega arith;
  line = refl;
  filled = subst (λ ts. Fills c.args.text.now 0 ts 0) (sym c.new-found.ensures.items) here;
  in_range = subst (All (IsInRange c.args.text.now)) (sym c.new-found.ensures.items) (All-nil (IsInRange c.args.text.now));
}

pub loop-at-preserved-then-first-eq10 : goal.loop-at-preserved-then-first-eq10
loop-at-preserved-then-first-eq10 c = record {
  within = omega arith;
  line = ap (λ n. n + 1) c.loop-at.invariant.line ∙ sym (line-end c.args.text.now c.loop-at.at c.loop-at-test.true c.if-first-eq10.true);
  filled = fills-blank c.args.text.now c.loop-at.at c.loop-at.found.items c.loop-at-test.true (ap is_blank c.if-first-eq10.true) c.loop-at.invariant.filled;
  in_range = c.loop-at.invariant.in_range;
}

pub loop-at-preserved-then-is_blank : goal.loop-at-preserved-then-is_blank
loop-at-preserved-then-is_blank c = record {
  within = omega arith;
  line = c.loop-at.invariant.line ∙ sym (line-same c.args.text.now c.loop-at.at c.loop-at-test.true c.if-first-eq10.false);
  filled = fills-blank c.args.text.now c.loop-at.at c.loop-at.found.items c.loop-at-test.true (sym c.is_blank.ensures ∙ c.if-is_blank.true) c.loop-at.invariant.filled;
  in_range = c.loop-at.invariant.in_range;
}

pub loop-at-preserved-then-first-eq37 : goal.loop-at-preserved-then-first-eq37
loop-at-preserved-then-first-eq37 c = record {
  within = c.comment_end-at.ensures.within;
  line = c.loop-at.invariant.line ∙ sym (line-comment c.args.text.now c.loop-at.at c.comment_end-at.result c.comment_end-at.ensures);
  filled = fills-comment c.args.text.now c.loop-at.at c.comment_end-at.result c.loop-at.found.items c.comment_end-at.ensures c.loop-at.invariant.filled;
  in_range = c.loop-at.invariant.in_range;
}

pub returns-in_err-token : goal.returns-in_err-token
returns-in_err-token c =
    let text = c.args.text.now in
    let tells = tells_at text c.loop-at.at c.loop-at.found.items c.in_err-token.field-0.0 c.loop-at-test.true c.if-first-eq37.false (sym c.is_blank.ensures ∙ c.if-is_blank.false)
    c.loop-at.invariant.filled c.loop-at.invariant.in_range c.in_err-token.ensures in
    let answer = answer-err (λ v. v.items) text c.from_residual.result c.in_err-token.field-0.0 c.from_residual.ensures.1 tells in
    record {
      ok = ok (λ v. v.items) text c.from_residual.result answer;
      ok_only_without_fault = ok_only (λ v. v.items) text c.from_residual.result answer;
      ok_without_fault = ok_where (λ v. v.items) text c.from_residual.result answer;
      bad_byte_only = bad_only (λ v. v.items) text c.from_residual.result answer;
      bad_byte = bad_where (λ v. v.items) text c.from_residual.result answer;
      wide_only = wide_only (λ v. v.items) text c.from_residual.result answer;
      wide = wide_where (λ v. v.items) text c.from_residual.result answer;
    }

pub loop-at-smaller : goal.loop-at-smaller
loop-at-smaller c =
    let t = c.in_ok-token.token in
    let some = token-some c.args.text.now t c.in_ok-token.ensures.1 in
    omega (arith, some.0, some.1, c.in_ok-token.ensures.0)

pub loop-at-preserved : goal.loop-at-preserved
loop-at-preserved c =
    let text = c.args.text.now in
    let t = c.in_ok-token.token in
    record {
      within = c.in_ok-token.ensures.1.within;
      line = c.loop-at.invariant.line ∙ (ap (line_at text) (sym c.in_ok-token.ensures.0) ∙ sym (line-token text t c.in_ok-token.ensures.1));
      filled = subst (λ ts. Fills text 0 ts t.to) (sym c.in_ok-push.ensures.items)
          (fills-token text c.loop-at.at c.loop-at.found.items t c.in_ok-token.ensures.0 c.in_ok-token.ensures.1 c.loop-at.invariant.filled);
      in_range = subst (All (IsInRange text)) (sym c.in_ok-push.ensures.items) (All-push (IsInRange text) c.loop-at.found.items t c.loop-at.invariant.in_range c.in_ok-token.ensures.2);
    }

pub returns : goal.returns
returns c =
    let text = c.args.text.now in
    let answer = whole text c.loop-at.at c.loop-at.found.items c.loop-at-test.false c.loop-at.invariant.within c.loop-at.invariant.filled c.loop-at.invariant.in_range in
    let none = no_fault text c.loop-at.found.items answer in
    record {
      ok = answer;
      ok_only_without_fault = none;
      ok_without_fault = λ _. tt;
      bad_byte_only = λ p e. absurd cc;
      bad_byte = λ p bad. none.no_bad_byte p bad.first;
      wide_only = λ p e. absurd cc;
      wide = λ p wide. none.no_wide p wide.first;
    }
