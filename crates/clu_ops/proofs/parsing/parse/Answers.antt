use Rattle.std.proofs.Common.{rules, ◌≡◌, true}
use Rattle.std.specs.Int.{w64}
use Rattle.std.specs.Str.Parse.{ParsesSigned}
use Rattle.clu_ops.specs.Ints.{is_numeral, magnitude}
use Rattle.clu_ops.proofs.Numerals.{is_utf8, ok_where_it_fits, ends_parsed}
use Rattle.clu_ops.proofs.parsing.parse.Goals as goal

pub unreachable-requires : goal.unreachable-requires
unreachable-requires c = c.in_default.ensures.cases.0 (is_utf8 c.args.text.now (search rules))

pub returns : goal.returns
returns c =
    let numeral : is_numeral (magnitude c.args.text.now) ≡ true = search rules in
    let read : ParsesSigned w64 10 c.args.text.now c.from_str_radix.result = rw c.in-Ok.ensures.cases.0 at c.from_str_radix.ensures.value in
    ends_parsed c.args.text.now c.ok.result c.int_or_overflow.result c.int_or_overflow.ensures numeral (rw c.ok.ensures.value (ok_where_it_fits c.args.text.now c.from_str_radix.result read numeral))
