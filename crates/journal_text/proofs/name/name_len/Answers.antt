use Rattle.std.proofs.Common.{ℕ, take, ◌∙◌, ap, arith}
use Rattle.std.specs.List.{prefix_len}
use Rattle.std.proofs.lemmas.List.{take_min, length-take}
use Rattle.std.proofs.lemmas.List.Sums.{prefix_len-le-length}
use Rattle.byte_classes.specs.Classes.{is_word_byte}
use Rattle.journal_text.proofs.name.name_len.Goals as goal

pub returns-clause-len : goal.returns-clause-len
returns-clause-len c =
    let cut = ap (λ (n : ℕ). take n c.args.bytes.now) c.min.ensures ∙ take_min 64 c.args.bytes.now in
    c.word_len.ensures ∙ ap (prefix_len is_word_byte) cut

pub returns-clause-inside : goal.returns-clause-inside
returns-clause-inside c =
    omega (arith, c.word_len.ensures, prefix_len-le-length is_word_byte (take c.min.result c.args.bytes.now), length-take c.min.result c.args.bytes.now)
