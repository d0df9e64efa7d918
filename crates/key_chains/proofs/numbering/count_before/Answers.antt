use Rattle.std.proofs.Common.{rules}
use Rattle.std.specs.Ordering.{is_lt}
use Rattle.std.proofs.lemmas.List.Sorted.{IsPartitionPoint-from_clause}
use Rattle.rules.specs.State.{key_cmp}
use Rattle.key_chains.proofs.Bounds.{parted_before}
use Rattle.key_chains.proofs.numbering.count_before.Goals as goal

pub returns-clause-point : goal.returns-clause-point
returns-clause-point c =
    IsPartitionPoint-from_clause (λ k. is_lt (key_cmp k (c.args.namespace.now, c.args.bound.now))) _ _ c.partition_point.ensures.partitioned (parted_before c.args.keys.now (c.args.namespace.now, c.args.bound.now) c.requires) (λ a r q k. search rules)
