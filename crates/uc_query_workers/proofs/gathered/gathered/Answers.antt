use Rattle.std.proofs.Common.{subst, rules}
use Rattle.uc_query_workers.specs.Drawing.{AreLeft, StandsIn}
use Rattle.uc_query_workers.proofs.Shares.{all_left}
use Rattle.uc_query_workers.proofs.gathered.gathered.Goals as goal

pub joined-requires-clause-drawn : goal.joined-requires-clause-drawn
joined-requires-clause-drawn c =
    let batch = c.args.batch.now in
    let draws = c.args.draws.items in
    subst (λ n. AreLeft (StandsIn batch draws) batch 0 n draws) (search rules)
    (all_left (StandsIn batch draws) batch c.args.counter.now.pieces c.args.seat.numbers draws c.requires.drawn c.recall_all_drawn.ensures.once)
