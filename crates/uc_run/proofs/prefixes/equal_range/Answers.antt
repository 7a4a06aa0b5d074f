use Rattle.std.proofs.Common.{rules, ltb, leb}
use Rattle.std.proofs.lemmas.List.Sorted.{IsPartitionPoint-from_clause}
use Rattle.uc_run.proofs.Decided.{below_parted, up_to_parted, below_point, up_to_point, none_equal, points_in_order}
use Rattle.uc_run.proofs.prefixes.equal_range.Goals as goal

pub returns-then-not-is_at-clause-below : goal.returns-then-not-is_at-clause-below
returns-then-not-is_at-clause-below c =
    below_point c.args.prefixes.now c.args.wanted c.partition_point-below.result
    (IsPartitionPoint-from_clause (λ n. ltb n c.args.wanted) c.args.prefixes.now c.partition_point-below.result c.partition_point-below.ensures.partitioned (below_parted c.args.prefixes.now c.requires c.args.wanted) (λ a r q k. search rules))

pub returns-then-not-is_at-clause-up_to : goal.returns-then-not-is_at-clause-up_to
returns-then-not-is_at-clause-up_to c =
    none_equal c.args.prefixes.now c.args.wanted c.requires c.partition_point-below.result (returns-then-not-is_at-clause-below c) (λ equal. search rules)

pub returns-clause-below : goal.returns-clause-below
returns-clause-below c =
    below_point c.args.prefixes.now c.args.wanted c.partition_point-below.result
    (IsPartitionPoint-from_clause (λ n. ltb n c.args.wanted) c.args.prefixes.now c.partition_point-below.result c.partition_point-below.ensures.partitioned (below_parted c.args.prefixes.now c.requires c.args.wanted) (λ a r q k. search rules))

pub returns-clause-up_to : goal.returns-clause-up_to
returns-clause-up_to c =
    up_to_point c.args.prefixes.now c.args.wanted c.partition_point-up_to.result
    (IsPartitionPoint-from_clause (λ n. leb n c.args.wanted) c.args.prefixes.now c.partition_point-up_to.result c.partition_point-up_to.ensures.partitioned (up_to_parted c.args.prefixes.now c.requires c.args.wanted) (λ a r q k. search rules))

pub returns-clause-order : goal.returns-clause-order
returns-clause-order c =
    points_in_order c.args.prefixes.now c.args.wanted c.partition_point-below.result c.partition_point-up_to.result c.partition_point-below.ensures.bound (returns-clause-below c) (returns-clause-up_to c)
