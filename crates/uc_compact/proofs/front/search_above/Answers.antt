use Rattle.std.proofs.Common.{rules}
use Rattle.std.proofs.lemmas.List.Sorted.{IsPartitionPoint-from_clause}
use Rattle.uc_run_entry.proofs.Covering.{ends_by, partitioned}
use Rattle.uc_compact.proofs.front.search_above.Goals as goal

pub returns : goal.returns
returns c =
    let key = c.args.key.now in
    let fs = c.args.fragments.now in
    let split = IsPartitionPoint-from_clause (ends_by key) fs c.partition_point.result c.partition_point.ensures.partitioned (partitioned key fs c.requires) (λ a r f called. search rules) in
    record { bound = c.partition_point.ensures.bound; before = split.0; behind = split.1 }
