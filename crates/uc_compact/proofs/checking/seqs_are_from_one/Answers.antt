use Rattle.uc_compact.proofs.Apart.{above_by}
use Rattle.uc_compact.proofs.checking.seqs_are_from_one.Goals as goal

pub returns : goal.returns
returns c = above_by 0 c.args.seqs.now c.newest_at_or_below.result c.is_none.result c.newest_at_or_below.ensures c.is_none.ensures
