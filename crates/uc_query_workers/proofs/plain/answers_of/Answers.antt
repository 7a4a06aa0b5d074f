use Rattle.std.proofs.Common.{◌≡◌, ap, ◌∙◌}
use Rattle.std.specs.List.{AllZip}
use Rattle.std.proofs.lemmas.Result.{IfOk-weaker}
use Rattle.uc_query_read.specs.Answers.{answer_of}
use Rattle.uc_query_read.specs.declared.answer.Answer.{Answer}
use Rattle.uc_query_read.specs.declared.query.Query.{Query}
use Rattle.uc_version_state.specs.Versions.{writes_in}
use Rattle.uc_query_workers.specs.Asking.{answers_of}
use Rattle.uc_query_workers.specs.Given.{GivenBySome}
use Rattle.uc_query_workers.specs.Pieces.{Batch}
use Rattle.uc_query_workers.proofs.Pieced.{mapped}
use Rattle.uc_query_workers.proofs.Zips.{some_tells}
use Rattle.uc_query_workers.proofs.plain.answers_of.Goals as goal

pub returns : goal.returns
returns g c =
    let m = g.O.Operator.meaning in
    let version = c.args.version.now in
    let answer_to = answer_of m (writes_in version) version.keeps in
    let before = c.in_ok-places.places.items in
    let after = c.answers_by_workers-answers.result.0.items in
    let given : Query → Answer → Type 0 = GivenBySome (λ x y query answer. answer ≡ answer_to query) before after in
    IfOk-weaker c.answers_by_workers-answers.result.1 (λ answers. AllZip given c.new-batch.result.queries answers.items) (λ answers. answers.items ≡ answers_of m version c.args.queries.now)
    (λ answers all.
    mapped given answer_to (λ query answer some. some_tells (λ x y. answer ≡ answer_to query) (answer ≡ answer_to query) (λ x y is. is) before after some) c.new-batch.result.queries answers.items all
    ∙ ap (λ (batch : Batch). answers_of m version batch.queries) c.new-batch.ensures)
    c.answers_by_workers-answers.ensures.answers
