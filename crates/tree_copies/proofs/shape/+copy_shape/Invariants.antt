use Rattle.std.proofs.Common.{◌≡◌, take}
use Rattle.tree_copies.proofs.shape.+copy_shape.Given as goal

abbrev pub invariant-copy_named_items-loop-named : goal.invariant-copy_named_items-loop-named
invariant-copy_named_items-loop-named l = l.copies ≡ take l.named-index l.items
