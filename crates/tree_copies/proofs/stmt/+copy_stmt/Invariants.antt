use Rattle.std.proofs.Common.{◌≡◌, take}
use Rattle.tree_copies.proofs.stmt.+copy_stmt.Given as goal

abbrev pub invariant-copy_stmts-loop-stmt : goal.invariant-copy_stmts-loop-stmt
invariant-copy_stmts-loop-stmt l = l.copies ≡ take l.stmt-index l.stmts

abbrev pub invariant-copy_arms-loop-arm : goal.invariant-copy_arms-loop-arm
invariant-copy_arms-loop-arm l = l.copies ≡ take l.arm-index l.arms

abbrev pub invariant-copy_tag_arms-loop-arm : goal.invariant-copy_tag_arms-loop-arm
invariant-copy_tag_arms-loop-arm l = l.copies ≡ take l.arm-index l.arms

abbrev pub invariant-copy_whens-loop-when : goal.invariant-copy_whens-loop-when
invariant-copy_whens-loop-when l = l.copies ≡ take l.when-index l.whens
