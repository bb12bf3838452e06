use Rattle.world_rules.specs.Said.{node_of}
use Rattle.world_rules.specs.Legal.{reached, passed}
use Rattle.world_rules.specs.Node.{first_of_program, rules_of}
use Rattle.world_rules.proofs.Following.{meets_all}
use Rattle.world_rules.proofs.Clocks.{knows_more}
use Rattle.world_rules.proofs.law.knowing_law.Goals as goal

pub returns : goal.returns
returns c = λ program past e n told h a b all k.
    let rules = rules_of program in
    let first = first_of_program program in
    knows_more rules (reached rules first past) (passed rules first (node_of e.event) past) n e.stamp e.event past told (meets_all rules first past e h).1.1.1 a b all k
