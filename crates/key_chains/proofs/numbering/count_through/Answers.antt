use Rattle.std.proofs.Common.{rules}
use Rattle.std.specs.Ordering.{is_le}
use Rattle.std.proofs.lemmas.List.Sorted.{IsPartitionPoint-from_clause}
use Rattle.values.specs.Order.{bytes_cmp}
use Rattle.key_chains.proofs.Bounds.{parted_through}
use Rattle.key_chains.proofs.numbering.count_through.Goals as goal

pub returns-clause-point : goal.returns-clause-point
returns-clause-point c =
    IsPartitionPoint-from_clause (λ k. is_le (bytes_cmp k.0 c.args.namespace.now)) _ _ c.partition_point.ensures.partitioned (parted_through c.args.keys.now c.args.namespace.now c.requires) (λ a r q k. search rules)
