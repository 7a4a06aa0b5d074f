use Rattle.std.proofs.Common.{◌-◌}
use Rattle.uc_query_workers.proofs.Draws.{DrawsOn}
use Rattle.uc_query_workers.proofs.Left.{above}
use Rattle.uc_query_workers.proofs.worker.draw_pieces.Given as goal

abbrev pub invariant-loop-number : goal.invariant-loop-number
invariant-loop-number g l = record {
  drawn : DrawsOn (g.S.Source.gives l.fn.job.source.now l.fn.place l.place) l.fn.job.batch.now l.fn.job.counter.now.pieces l.fn.seat l.seat l.numbers.items l.answers.items;
  goes_on : g.S.Source.goes_on l.fn.place l.place;
}

abbrev pub decreases-loop-number : goal.decreases-loop-number
decreases-loop-number g l = l.fn.job.counter.now.pieces - above l.numbers.items
