use Rattle.std.proofs.Common.{◌≡◌, take, flat_map}
use Rattle.journal_text.specs.Spelling.{spelled}
use Rattle.journal_text.proofs.writing.put_lines.Given as goal

abbrev pub invariant-loop-told : goal.invariant-loop-told
invariant-loop-told l = l.out.items ≡ flat_map spelled (take l.told-index l.lines)
