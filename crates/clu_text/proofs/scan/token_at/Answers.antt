use Rattle.std.proofs.Common.{refl}
use Rattle.clu_text.proofs.Places.{none_at, int_at, wide_at}
use Rattle.clu_text.proofs.scan.token_at.Goals as goal

pub returns-in_default : goal.returns-in_default
returns-in_default c = (refl, none_at c.args.text.now c.split_at.result.1.now c.args.at c.split_at.ensures.back c.in_default.ensures)

pub is_wide-requires : goal.is_wide-requires
is_wide-requires c =
    int_at c.split_at.result.1.now c.split_at-2.result.0.now c.in-Some.spelling.len c.in-Some.spelling.kind c.in-Int.is c.split_at-2.ensures.front c.in-Some.ensures

pub returns-in-Int : goal.returns-in-Int
returns-in-Int c = (
  refl,
  wide_at c.args.text.now c.split_at.result.1.now c.split_at-2.result.0.now c.args.at c.in-Some.spelling.len c.args.line c.in-Some.spelling.kind
      c.split_at.ensures.back c.split_at-2.ensures.front c.requires.within c.requires.line c.in-Some.ensures c.in-Int.is (c.is_wide.ensures.0 c.if-is_wide.true),
)
