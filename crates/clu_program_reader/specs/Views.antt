-- The parts of a program as the grammar has them.
use Rattle.clu_grammar.specs.Grammar.{Part, AnEquate, ANodeVar, ARoutine, ACluster, ANode}
use Rattle.clu_program_reader.specs.declared.cluster.ClusterPart.{ClusterPart}
use Rattle.clu_program_reader.specs.declared.part.ProgramPart.{ProgramPart}
use Rattle.clu_program_reader.specs.declared.part.ProgramPart.TheVariants as part

abbrev pub cluster_part : ClusterPart → Part
cluster_part x = ACluster x.name x.listed x.rep x.routines x.line

abbrev pub part_view : ProgramPart → Part
part_view (part.Equate x) = AnEquate x
part_view (part.NodeVar x) = ANodeVar x
part_view (part.Routine x) = ARoutine x
part_view (part.Cluster x) = cluster_part x
part_view (part.Node x) = ANode x
