use Rattle.std.proofs.Common.{rules, ◌≡◌, List, ap, ◌∙◌}
use Rattle.std.specs.List.{flat_map}
use Rattle.uc_query_read.specs.Answers.{answer_of}
use Rattle.uc_query_read.specs.declared.answer.Answer.{Answer}
use Rattle.uc_query_read.specs.declared.query.Query.{Query}
use Rattle.uc_query_shared.specs.Given.{answers_given}
use Rattle.uc_version_state.specs.Histories.{version_after, writes_given}
use Rattle.uc_tool_opening.specs.AnswerLines.{answer_lines}
use Rattle.uc_tool_opening.specs.Asked.{query_of}
use Rattle.uc_tool_ask.proofs.Batches.{lines_are}
use Rattle.uc_tool_ask.proofs.answers.lines_of.Goals as goal

pub returns-in-Ok-clause-lines : goal.returns-in-Ok-clause-lines
returns-in-Ok-clause-lines g c h legal leads =
    let m = g.O.Operator.meaning in
    let queries = c.deref.ensures.value ∙ c.in_ok-queries.ensures in
    let answered : c.in-Ok.answers.items ≡ answers_given m h c.deref.result.now = (rw c.in-Ok.is at (c.answer_all-readers.ensures.stay c.requires.stay)) h legal leads in
    let value : c.deref-in-Ok.result.now ≡ c.in-Ok.answers.items = search rules in
    c.in_ok-answers_lines-in-Ok.ensures
    ∙ ap (λ (xs : List Answer). flat_map answer_lines xs) (value ∙ answered ∙ ap (λ (xs : List Query). answers_given m h xs) queries)
    ∙ lines_are answer_lines (answer_of m (writes_given h) (version_after h).keeps) (query_of c.args.last) c.args.asked.items
