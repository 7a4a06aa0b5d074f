use Rattle.std.proofs.Common.{rules, ◌≡◌, ◌≤◌, ◌+◌, ◌++◌, ◌∷◌, [], vec_capacity, ap, refl}
use Rattle.std.specs.List.{AllZip}
use Rattle.uc_query_workers.specs.Draws.{Drawing}
use Rattle.uc_query_workers.specs.Drawing.{HasDrawn, HaveDrawn}
use Rattle.uc_query_workers.specs.Given.{GivenBySome}
use Rattle.uc_query_workers.proofs.Ends.{last_goes, last_gives, others_give, zip_length}
use Rattle.uc_query_workers.proofs.Seen.{all_same}
use Rattle.uc_query_workers.proofs.Shares.{another_worker, has_weaker, have_weaker, if_both}
use Rattle.uc_query_workers.proofs.workers.+workers.Goals as goal

pub put_back-requires : goal.put_back-requires
put_back-requires g t c =
    let others : AllZip g.S.Source.goes_on c.pop.new.self.items c.join-place.result.1.0.items = search rules in
    let room : vec_capacity c.pop.new.self ≤ vec_capacity c.join-place.result.1.0 = search rules in
    let same = zip_length g.S.Source.goes_on c.pop.new.self.items c.join-place.result.1.0.items others in
    search (rules, same, room)

pub returns-in-Ok-Ok-clause-go_on : goal.returns-in-Ok-Ok-clause-go_on
returns-in-Ok-Ok-clause-go_on g t c =
    let others : AllZip g.S.Source.goes_on c.pop.new.self.items c.join-place.result.1.0.items = search rules in
    let one : g.S.Source.goes_on c.in-Some.place c.join-place.result.0.0 = search rules in
    last_goes g.S.Source.goes_on c.args.places.items c.put_back.new.places.items c.pop.new.self.items c.join-place.result.1.0.items c.in-Some.place c.join-place.result.0.0 c.in-Some.ensures.items c.put_back.ensures.items others one

pub returns-in_default-2-clause-go_on : goal.returns-in_default-2-clause-go_on
returns-in_default-2-clause-go_on g t c =
    let others : AllZip g.S.Source.goes_on c.pop.new.self.items c.join-place.result.1.0.items = search rules in
    let one : g.S.Source.goes_on c.in-Some.place c.join-place.result.0.0 = search rules in
    last_goes g.S.Source.goes_on c.args.places.items c.put_back.new.places.items c.pop.new.self.items c.join-place.result.1.0.items c.in-Some.place c.join-place.result.0.0 c.in-Some.ensures.items c.put_back.ensures.items others one

pub returns-in_default-clause-go_on : goal.returns-in_default-clause-go_on
returns-in_default-clause-go_on g t c =
    let met = g.met.S.Source g.world.𝓛 g.world.𝓜 g.world.𝓡 ((λ s x. x), (λ x. x), (λ x. x), λ x. x) in
    all_same g.S.Source.goes_on met.stays c.args.places.items

pub returns-in-Ok-Ok-clause-drawn : goal.returns-in-Ok-Ok-clause-drawn
returns-in-Ok-Ok-clause-drawn g t c =
    let job = c.args.job.now in
    let batch = job.batch.now in
    let pieces = job.counter.now.pieces in
    let gives = g.S.Source.gives job.source.now in
    let places = c.pop.new.self.items in
    let others = c.join-place.result.1.0.items in
    let place = c.in-Some.place in
    let now = c.join-place.result.0.0 in
    let given = GivenBySome gives c.args.places.items c.put_back.new.places.items in
    let seat = c.in-Ok-Ok.seat in
    let draws = c.in-Ok-Ok.draws in
    let part = c.in-Ok-Ok.part in
    let drawn = c.in-Ok-Ok.drawn in
    let go : AllZip g.S.Source.goes_on places others = search rules in
    let have : HaveDrawn (GivenBySome gives places others) batch pieces seat.numbers draws.items = search rules in
    let one : HasDrawn (gives place now) batch pieces part.numbers drawn.numbers.items drawn.answers.items = search rules in
    let have_widely = have_weaker (GivenBySome gives places others) given (others_give gives c.args.places.items c.put_back.new.places.items places others place now c.in-Some.ensures.items c.put_back.ensures.items) batch pieces seat.numbers draws.items have in
    let one_widely = has_weaker (gives place now) given (λ query answer by_it. last_gives gives c.args.places.items c.put_back.new.places.items places others place now c.in-Some.ensures.items c.put_back.ensures.items query answer g.S.Source.goes_on go by_it) batch pieces part.numbers drawn.numbers.items drawn.answers.items one in
    if_both c.together.result (λ shares. shares.0 ≡ record seat { parts = seat.parts + part.parts; numbers = seat.numbers ++ part.numbers }) (λ shares. shares.1.items ≡ draws.items ++ drawn ∷ []) (λ shares. HaveDrawn given batch pieces shares.0.numbers shares.1.items)
    (λ shares seat_is draws_are. another_worker given batch pieces part.numbers drawn.numbers.items drawn.answers.items drawn one_widely refl refl seat.numbers shares.0.numbers draws.items shares.1.items have_widely (ap (λ (s : Drawing). s.numbers) seat_is) draws_are)
    c.together.ensures.seat c.together.ensures.drawn
