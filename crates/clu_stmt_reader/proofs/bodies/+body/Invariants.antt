use Rattle.clu_stmt_reader.proofs.bodies.+body.Given as goal

abbrev pub decreases-body : goal.decreases-body
decreases-body l = l.depth
