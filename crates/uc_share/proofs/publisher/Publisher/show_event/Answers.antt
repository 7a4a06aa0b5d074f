use Rattle.std.proofs.Common.{rules, ◌≡◌, ◌++◌, ◌∷◌, [], sym, ap, ◌∙◌, subst}
use Rattle.logbook.specs.Pages.{Book}
use Rattle.uc_version_state.specs.Histories.{MayHappen, after}
use Rattle.uc_share.specs.Fronts.{Moment, IsMoment, moment, after_event}
use Rattle.uc_share.proofs.Showing.{grows}
use Rattle.uc_share.proofs.publisher.Publisher.show_event.Goals as goal

pub show-writer-requires-clause-moment : goal.show-writer-requires-clause-moment
show-writer-requires-clause-moment g c =
    let now = c.self.inside.writer.desk.shown.value in
    let e = g.M.Plain.ask c.args.about.now in
    let made : c.new-next.result ≡ moment g.N.Name.book (after now.version e) (now.events ++ e ∷ []) = search rules in
    let same : c.new-next.result ≡ after_event e now = made ∙ ap (λ (b : Book). moment b (after now.version e) (now.events ++ e ∷ [])) (sym c.self.invariant.0.book_is) in
    let may : MayHappen g.O.Operator.meaning now.version e = subst (λ (s : Moment). MayHappen g.O.Operator.meaning s.version e) (sym c.self.view_is) c.requires.may in
    subst (λ (s : Moment). IsMoment g.O.Operator.meaning g.N.Name.keeps_stay g.N.Name.book g.N.Name.base s) (sym same) (grows g.O.Operator.meaning g.N.Name.keeps_stay g.N.Name.book g.N.Name.base now e c.self.invariant.0 may c.requires.stays)

pub invariant_of-result-2 : goal.invariant_of-result-2
invariant_of-result-2 g c =
    let now = c.self.inside.writer.desk.shown.value in
    let e = g.M.Plain.ask c.args.about.now in
    let made : c.new-next.result ≡ moment g.N.Name.book (after now.version e) (now.events ++ e ∷ []) = search rules in
    let same : c.new-next.result ≡ after_event e now = made ∙ ap (λ (b : Book). moment b (after now.version e) (now.events ++ e ∷ [])) (sym c.self.invariant.0.book_is) in
    let shown : c.show-writer.result.desk.shown.value ≡ after_event e now = c.show-writer.ensures ∙ same in
    let may : MayHappen g.O.Operator.meaning now.version e = subst (λ (s : Moment). MayHappen g.O.Operator.meaning s.version e) (sym c.self.view_is) c.requires.may in
    let added : c.add.new.self ≡ now.events ++ e ∷ [] = search rules in (
      subst (λ (s : Moment). IsMoment g.O.Operator.meaning g.N.Name.keeps_stay g.N.Name.book g.N.Name.base s) (sym shown) (grows g.O.Operator.meaning g.N.Name.keeps_stay g.N.Name.book g.N.Name.base now e c.self.invariant.0 may c.requires.stays),
      added ∙ sym (ap (λ (s : Moment). s.events) shown),
    )
