use Rattle.std.proofs.Common.{rules, ◌≡◌, ◌∷◌, [], ◌++◌, ap, refl}
use Rattle.std.proofs.lemmas.Result.{IfOk-weaker}
use Rattle.uc_query_workers.specs.Draws.{Drawing}
use Rattle.uc_query_workers.specs.Drawing.{HasDrawn, HaveDrawn}
use Rattle.uc_query_workers.specs.Given.{GivenBySome}
use Rattle.uc_query_workers.proofs.Ends.{last_goes, last_gives}
use Rattle.uc_query_workers.proofs.Seen.{all_same}
use Rattle.uc_query_workers.proofs.Shares.{one_worker, has_weaker}
use Rattle.uc_query_workers.proofs.workers.drawn_here.Goals as goal

pub returns-in-Err-clause-go_on : goal.returns-in-Err-clause-go_on
returns-in-Err-clause-go_on g c =
    let met = g.met.S.Source g.world.𝓛 g.world.𝓜 g.world.𝓡 ((λ s x. x), (λ x. x), (λ x. x), λ x. x) in
    last_goes g.S.Source.goes_on (c.args.places.items ++ c.args.place ∷ []) c.put_back.new.places.items c.args.places.items c.args.places.items c.args.place c.drawn_by_one-place.result.0 refl c.put_back.ensures.items (all_same g.S.Source.goes_on met.stays c.args.places.items) c.drawn_by_one-place.ensures.goes_on

pub returns-in-Ok-clause-go_on : goal.returns-in-Ok-clause-go_on
returns-in-Ok-clause-go_on g c =
    let met = g.met.S.Source g.world.𝓛 g.world.𝓜 g.world.𝓡 ((λ s x. x), (λ x. x), (λ x. x), λ x. x) in
    last_goes g.S.Source.goes_on (c.args.places.items ++ c.args.place ∷ []) c.put_back.new.places.items c.args.places.items c.args.places.items c.args.place c.drawn_by_one-place.result.0 refl c.put_back.ensures.items (all_same g.S.Source.goes_on met.stays c.args.places.items) c.drawn_by_one-place.ensures.goes_on

pub returns-in-Ok-clause-drawn : goal.returns-in-Ok-clause-drawn
returns-in-Ok-clause-drawn g c =
    let met = g.met.S.Source g.world.𝓛 g.world.𝓜 g.world.𝓡 ((λ s x. x), (λ x. x), (λ x. x), λ x. x) in
    let job = c.args.job.now in
    let gives = g.S.Source.gives job.source.now in
    let place = c.args.place in
    let now = c.drawn_by_one-place.result.0 in
    let before = c.args.places.items ++ place ∷ [] in
    let after = c.put_back.new.places.items in
    let drawn : HasDrawn (gives place now) job.batch.now job.counter.now.pieces c.in-Ok.seat.numbers c.in-Ok.drawn.numbers.items c.in-Ok.drawn.answers.items = search rules in
    let widely = has_weaker (gives place now) (GivenBySome gives before after) (λ query answer given. last_gives gives before after c.args.places.items c.args.places.items place now refl c.put_back.ensures.items query answer g.S.Source.goes_on (all_same g.S.Source.goes_on met.stays c.args.places.items) given) job.batch.now job.counter.now.pieces c.in-Ok.seat.numbers c.in-Ok.drawn.numbers.items c.in-Ok.drawn.answers.items drawn in
    IfOk-weaker c.alone.result (λ shares. (shares.0 ≡ c.in-Ok.seat) × (shares.1.items ≡ c.in-Ok.drawn ∷ [])) (λ shares. HaveDrawn (GivenBySome gives before after) job.batch.now job.counter.now.pieces shares.0.numbers shares.1.items)
    (λ shares are. one_worker (GivenBySome gives before after) job.batch.now job.counter.now.pieces c.in-Ok.seat.numbers c.in-Ok.drawn.numbers.items c.in-Ok.drawn.answers.items c.in-Ok.drawn widely refl refl shares.0.numbers shares.1.items (ap (λ (s : Drawing). s.numbers) are.0) are.1)
    c.alone.ensures
