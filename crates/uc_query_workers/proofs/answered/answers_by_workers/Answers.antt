use Rattle.std.proofs.Common.{rules}
use Rattle.std.specs.List.{AllZip}
use Rattle.std.proofs.lemmas.Result.{IfOk-weaker}
use Rattle.uc_query_workers.specs.Drawing.{HaveDrawn, StandsIn}
use Rattle.uc_query_workers.specs.Given.{GivenBySome}
use Rattle.uc_query_workers.proofs.Seen.{all_same}
use Rattle.uc_query_workers.proofs.Shares.{as_given, have_stand}
use Rattle.uc_query_workers.proofs.Zips.{all_weaker}
use Rattle.uc_query_workers.proofs.answered.answers_by_workers.Goals as goal

pub returns-in_default-clause-places : goal.returns-in_default-clause-places
returns-in_default-clause-places g c = all_same g.S.Source.goes_on (g.met.S.Source g.world.𝓛 g.world.𝓜 g.world.𝓡 ((λ s x. x), (λ x. x), (λ x. x), λ x. x)).stays c.args.places.items

pub gathered-requires-clause-drawn : goal.gathered-requires-clause-drawn
gathered-requires-clause-drawn g c =
    let given = GivenBySome (g.S.Source.gives c.args.source.now) c.args.places.items c.drawn_by_workers-places.result.0.items in
    let have : HaveDrawn given c.args.batch.now c.in-Ok.counter.pieces c.in-Ok-shares.seat.numbers c.in-Ok-shares.draws.items = search rules in
    have_stand given c.args.batch.now c.in-Ok.counter.pieces c.in-Ok-shares.seat.numbers c.in-Ok-shares.draws.items have

pub returns-clause-answers : goal.returns-clause-answers
returns-clause-answers g c =
    let batch = c.args.batch.now in
    let draws = c.in-Ok-shares.draws.items in
    let given = GivenBySome (g.S.Source.gives c.args.source.now) c.args.places.items c.drawn_by_workers-places.result.0.items in
    let have : HaveDrawn given batch c.in-Ok.counter.pieces c.in-Ok-shares.seat.numbers draws = search rules in
    IfOk-weaker c.gathered.result (λ answers. AllZip (StandsIn batch draws) batch.queries answers.items) (λ answers. AllZip given batch.queries answers.items)
    (λ answers all. all_weaker (StandsIn batch draws) given (as_given given batch draws have.answered) batch.queries answers.items all)
    c.gathered.ensures
