use Rattle.std.proofs.Common.{refl}
use Rattle.std.proofs.lemmas.List.{length-replicate}
use Rattle.halt_all.proofs.Flags.{flagged-replicate}
use Rattle.halt_all.proofs.rounds.Rounds.new.Goals as goal

pub returns : goal.returns
returns c = rw (c.in_ok-vec.ensures.items_if_clones_equal (λ y same. same), c.new.ensures.items, flagged-replicate 1 c.args.nodes, length-replicate) refl
