use Rattle.std.proofs.Common.{◌≡◌, ◌-◌, ◌≤◌, length}
use Rattle.std.specs.Prelude.{All}
use Rattle.clu_text.specs.Tokens.{line_at, Fills, IsInRange}
use Rattle.clu_text.proofs.scan.tokens.Given as goal

abbrev pub invariant-loop-at : goal.invariant-loop-at
invariant-loop-at l = record {
  within : l.at ≤ length l.text;
  line : l.line ≡ line_at l.text l.at;
  filled : Fills l.text 0 l.found.items l.at;
  in_range : All (IsInRange l.text) l.found.items;
}

abbrev pub decreases-loop-at : goal.decreases-loop-at
decreases-loop-at l = length l.text - l.at
