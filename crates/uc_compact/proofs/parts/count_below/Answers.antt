use Rattle.std.proofs.Common.{sym, false}
use Rattle.uc_run_entry.specs.Order.{entry_cmp}
use Rattle.uc_run_entry.proofs.Partitions.{partitioned, filter-front}
use Rattle.uc_run.proofs.Order.{passed_before}
use Rattle.uc_compact.specs.Cuts.{is_below}
use Rattle.uc_compact.proofs.Parting.{filter-back}
use Rattle.uc_compact.proofs.parts.count_below.Goals as goal

pub partition_point-requires : goal.partition_point-requires
partition_point-requires c = partitioned (is_below c.args.key.now) entry_cmp (passed_before c.args.key.now false) c.args.points.now c.requires

pub returns-clause-below : goal.returns-clause-below
returns-clause-below c = sym (filter-front (is_below c.args.key.now) c.args.points.now c.partition_point.result c.partition_point.ensures.bound c.partition_point.ensures.place)

pub returns-clause-from : goal.returns-clause-from
returns-clause-from c = filter-back (is_below c.args.key.now) c.args.points.now c.partition_point.result c.partition_point.ensures.bound c.partition_point.ensures.place
