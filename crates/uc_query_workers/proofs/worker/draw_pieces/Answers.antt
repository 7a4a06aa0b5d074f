use Rattle.std.proofs.Common.{subst}
use Rattle.uc_query_workers.specs.Given.{Appended}
use Rattle.uc_query_workers.specs.Pieces.{piece_of}
use Rattle.uc_query_workers.proofs.Draws.{draws_on, draws_nearer, draws_weaker}
use Rattle.uc_query_workers.proofs.Pieced.{appended_weaker}
use Rattle.uc_query_workers.proofs.worker.draw_pieces.Goals as goal

pub loop-number-smaller : goal.loop-number-smaller
loop-number-smaller g c =
    draws_nearer (g.S.Source.gives c.args.job.now.source.now c.args.place.now c.loop-number.place) c.args.job.now.batch.now c.args.job.now.counter.now.pieces c.in-Some.number c.args.seat.now c.loop-number.seat c.draw.new.seat c.loop-number.numbers.items c.push.new.self.items c.loop-number.answers.items c.loop-number.invariant.drawn c.in_ok-push.ensures.items c.in-Some.ensures.rising c.in-Some.ensures.piece.0

pub loop-number-preserved : goal.loop-number-preserved
loop-number-preserved g c =
    let met = g.met.S.Source g.world.𝓛 g.world.𝓜 g.world.𝓡 ((λ s x. x), (λ x. x), (λ x. x), λ x. x) in
    let source = c.args.job.now.source.now in
    let first = c.args.place.now in
    let here = c.loop-number.place in
    let last = c.push_answers.new.place in
    let gives = g.S.Source.gives source first last in
    let batch = c.args.job.now.batch.now in
    let pieces = c.args.job.now.counter.now.pieces in
    let so_far = draws_weaker (g.S.Source.gives source first here) gives (λ query answer given. met.gives_on source first first here last query answer (met.stays first) c.in_ok-push_answers.ensures.goes_on given) batch pieces c.args.seat.now c.loop-number.seat c.loop-number.numbers.items c.loop-number.answers.items c.loop-number.invariant.drawn in
    let one = appended_weaker (g.S.Source.gives source here last) gives (λ query answer given. met.gives_on source first here last last query answer c.loop-number.invariant.goes_on (met.stays last) given) c.piece_of.result.now c.loop-number.answers.items c.push_answers.new.answers.items c.in_ok-push_answers.ensures.answers in
    let answered = subst (λ piece. Appended gives piece c.loop-number.answers.items c.push_answers.new.answers.items) {y = piece_of batch c.in-Some.number} c.piece_of.ensures one in
    record {
      drawn = draws_on gives batch pieces c.in-Some.number c.args.seat.now c.loop-number.seat c.draw.new.seat c.loop-number.numbers.items c.push.new.self.items c.loop-number.answers.items so_far c.in_ok-push.ensures.items c.in-Some.ensures.rising c.push_answers.new.answers.items c.in-Some.ensures.piece.1 c.in-Some.ensures.goes_on answered;
      goes_on = met.goes_further _ _ _ c.loop-number.invariant.goes_on c.in_ok-push_answers.ensures.goes_on;
    }
