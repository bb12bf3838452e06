use Rattle.std.proofs.Common.{rules}
use Rattle.std.proofs.lemmas.List.Sorted.{IsPartitionPoint-from_clause}
use Rattle.lossy_net.specs.Order.{precedes}
use Rattle.lossy_net.proofs.Places.{partitioned, found}
use Rattle.lossy_net.proofs.copies.place.Goals as goal

pub returns : goal.returns
returns c =
    let net = c.args.copies.now in
    let parts = IsPartitionPoint-from_clause (precedes c.args.to c.args.from c.args.index) net _ c.partition_point.ensures.partitioned
    (partitioned net c.args.to c.args.from c.args.index c.requires) (λ a r q called. search rules) in
    record {
      within = c.partition_point.ensures.bound;
      before = parts.0;
      behind = parts.1;
      there = found net c.args.to c.args.from c.args.index c.partition_point.result c.requires parts.0 parts.1;
    }
