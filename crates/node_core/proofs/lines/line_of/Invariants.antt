use Rattle.std.proofs.Common.{◌≡◌, ◌++◌, take, flat_map, decimal, codes}
use Rattle.world_rules.specs.Shown.{shown_byte}
use Rattle.node_core.proofs.lines.line_of.Given as goal

abbrev pub invariant-loop-byte : goal.invariant-loop-byte
invariant-loop-byte l = l.line.items ≡ decimal l.fn.node ++ codes ": " ++ flat_map shown_byte (take l.byte-index l.text)
