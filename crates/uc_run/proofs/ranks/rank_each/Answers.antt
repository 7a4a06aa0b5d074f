use Rattle.std.proofs.Common.{rules}
use Rattle.uc_run_entry.proofs.Written.{written}
use Rattle.uc_run.specs.Ranks.{ranked_at}
use Rattle.uc_run.proofs.ranks.rank_each.Goals as goal

pub loop-rank-preserved : goal.loop-rank-preserved
loop-rank-preserved c =
    let ranked = c.args.ranked.now in
    written (ranked_at ranked.slots c.args.shared ranked.bits) c.args.ranks.now c.loop-rank.ranks c.loop-rank.rank-index 0 c.ranked.result (search rules) c.loop-rank.invariant c.ranked.ensures
