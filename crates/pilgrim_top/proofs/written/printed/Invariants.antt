use Rattle.std.proofs.Common.{◌≡◌, ◌++◌, drop}
use Rattle.world_rules.specs.Transcript.{printed}
use Rattle.pilgrim_top.proofs.written.printed.Given as goal

abbrev pub invariant-loop-line : goal.invariant-loop-line
invariant-loop-line l = l.text.items ++ printed (drop l.line-index l.lines) ≡ printed l.lines
