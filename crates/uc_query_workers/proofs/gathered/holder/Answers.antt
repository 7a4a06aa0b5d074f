use Rattle.uc_query_workers.proofs.gathered.holder.Goals as goal

pub unreachable-requires : goal.unreachable-requires
unreachable-requires c = c.requires c.in_default.ensures.none
