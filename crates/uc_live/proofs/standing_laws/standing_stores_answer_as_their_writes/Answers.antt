use Rattle.std.proofs.Common.{ℕ, ◌∙◌, ap}
use Rattle.uc_query_read.specs.Answers.{first_rows, named_keys}
use Rattle.uc_version_state.proofs.Memtables.{last_above}
use Rattle.uc_live.specs.Lives as lives
use Rattle.uc_live.proofs.Standing.{last_stands, value_there, value_stands}
use Rattle.uc_live.proofs.Taken.{rows_alike}
use Rattle.uc_live.proofs.standing_laws.standing_stores_answer_as_their_writes.Goals as goal

pub returns-clause-last : goal.returns-clause-last
returns-clause-last g c = last_stands g.O.Operator.meaning

pub returns-clause-value : goal.returns-clause-value
returns-clause-value g c = value_stands g.O.Operator.meaning c.effect_continues_value.ensures.none

pub returns-clause-rows : goal.returns-clause-rows
returns-clause-rows g c l ws low high limit stands rising =
    let m = g.O.Operator.meaning in
    let above = last_above l.version.last l.gathered rising in
    rows_alike m (lives.writes_of l) ws low high (lives.last l) limit c.equal_values_give_equal_answers.ensures
    (λ key. value_there m c.effect_continues_value.ensures.none l ws key (lives.last l) stands above)
    ∙ ap (λ (at : ℕ). first_rows m ws at limit (named_keys ws low high)) (last_stands m l ws stands)
