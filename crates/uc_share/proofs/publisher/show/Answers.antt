use Rattle.std.proofs.Common.{◌≡◌, ◌≤◌, List, drop, fold, length, sym, ap, ◌∙◌, subst}
use Rattle.uc_share.specs.Fronts.{Moment, IsMoment}
use Rattle.uc_share.proofs.Showing.{rises, last_taken, ok_shows}
use Rattle.uc_share.proofs.publisher.show.Goals as goal

pub publish_as-back-requires : goal.publish_as-back-requires
publish_as-back-requires g c next is =
    let x = c.loop.writer.desk.shown.value in
    let before = drop c.args.writer.behind c.args.writer.log.items in
    let n : next ≡ c.args.next = is ∙ (ap (λ (l : List Moment). fold (λ (a : Moment) (b : Moment). b) x l) c.loop.invariant.1 ∙ last_taken x c.args.next before) in
    let up : length x.events ≤ length next.events = rw (c.loop.invariant.0, n) c.requires.longer in
    rises g.O.Operator.meaning g.N.Name.keeps_stay g.N.Name.book g.N.Name.base _ _ x next up (subst (λ (s : Moment). IsMoment g.O.Operator.meaning g.N.Name.keeps_stay g.N.Name.book g.N.Name.base s) (sym n) c.requires.moment)

pub returns-in-Ok : goal.returns-in-Ok
returns-in-Ok g c =
    let x = c.loop.writer.desk.shown.value in
    let before = drop c.args.writer.behind c.args.writer.log.items in
    ok_shows _ _ c.publish_as-back.result.1 c.in-Ok.field-0 _ _ _ c.in-Ok.is c.publish_as-back.ensures.values (ap (λ (l : List Moment). fold (λ (a : Moment) (b : Moment). b) x l) c.loop.invariant.1 ∙ last_taken x c.args.next before)
