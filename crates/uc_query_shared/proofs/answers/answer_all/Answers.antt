use mathlib.Core.List.{IsPrefix}
use Rattle.std.proofs.Common.{List, [], ◌∷◌, ap, ◌∙◌, subst, rules}
use Rattle.std.specs.List.{AllZip}
use Rattle.uc_query_read.specs.Answers.{answer_of}
use Rattle.uc_query_workers.specs.Given.{SomeZip}
use Rattle.uc_query_workers.specs.Pieces.{Batch}
use Rattle.uc_query_shared.specs.Given.{IsAnswerBetween, answers_given}
use Rattle.uc_version_state.specs.Histories.{version_after, writes_given}
use Rattle.uc_version_state.specs.declared.event.Event.{Event}
use Rattle.uc_share.proofs.Prefixes.{prefix_self}
use Rattle.uc_query_shared.proofs.Between.{Given, all_between, stays_given}
use Rattle.uc_query_shared.proofs.answers.answer_all.Goals as goal

all_begin : (seen : List (List Event)) → AllZip IsPrefix seen seen
all_begin [] = tt
all_begin (xs ∷ seen) = (prefix_self xs, all_begin seen)

pub returns-in-Some-clause-seen : goal.returns-in-Some-clause-seen
returns-in-Some-clause-seen g c = all_begin c.args.readers.items

pub returns-in-Ok-clause-answers : goal.returns-in-Ok-clause-answers
returns-in-Ok-clause-answers g c =
    let m = g.O.Operator.meaning in
    let base = g.N.Name.base in
    let old = c.args.readers.items in
    let new = c.answers_by_workers-readers.result.0.items in
    let all : AllZip (Given m g.N.Name.keeps_stay base old new) c.new-batch.result.queries c.in-Ok.answers.items = search rules in
    subst (λ (batch : Batch). AllZip (λ query answer. SomeZip (IsAnswerBetween m base query answer) old new) batch.queries c.in-Ok.answers.items) c.new-batch.ensures
    (all_between m g.N.Name.keeps_stay base old new c.new-batch.result.queries c.in-Ok.answers.items all)

pub returns-in-Ok-clause-stay : goal.returns-in-Ok-clause-stay
returns-in-Ok-clause-stay g c = λ stays h legal is.
    let m = g.O.Operator.meaning in
    let stay = g.N.Name.keeps_stay in
    let base = g.N.Name.base in
    let old = c.args.readers.items in
    let new = c.answers_by_workers-readers.result.0.items in
    let queries = c.new-batch.result.queries in
    let all : AllZip (Given m stay base old new) queries c.in-Ok.answers.items = search rules in
    c.answers_are_mapped.ensures (record {}) old new (answer_of m (writes_given h) (version_after h).keeps) queries c.in-Ok.answers.items
    (λ query answer given. stays_given m stay base old new query answer stays given h legal is) all
    ∙ ap (λ (batch : Batch). answers_given m h batch.queries) c.new-batch.ensures
