use Rattle.std.proofs.Common.{◌≡◌, ◌≤◌, false, drop}
use Rattle.clu_text.proofs.Parts.{counted}
use Rattle.clu_text.proofs.quoted.find_parts.Given as goal

abbrev pub invariant-loop-at : goal.invariant-loop-at
invariant-loop-at l = record {
  few : l.parts ≤ l.at;
  same : counted l.quote l.escaping l.at l.parts (drop l.at l.bytes) ≡ counted l.quote false 0 0 l.bytes;
}
