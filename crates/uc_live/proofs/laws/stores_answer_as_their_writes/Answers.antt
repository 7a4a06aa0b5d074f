use Rattle.std.proofs.Common.{ℕ, inl, inr, ap, ◌∙◌}
use Rattle.uc_model.specs.Meaning.{value_of}
use Rattle.uc_query_read.specs.Answers.{first_rows, named_keys}
use Rattle.uc_query_read.specs.Query.{at_of}
use Rattle.uc_version_state.proofs.Memtables.{last_above}
use Rattle.uc_live.specs.Lives as lives
use Rattle.uc_live.proofs.Taken.{last_taken, value_taken, rows_alike}
use Rattle.uc_live.proofs.laws.stores_answer_as_their_writes.Goals as goal

pub returns-clause-last : goal.returns-clause-last
returns-clause-last g c l ws taken = last_taken g.O.Operator.meaning l ws taken c.histories_say_writes_and_keeps.ensures.last

pub returns-clause-value : goal.returns-clause-value
returns-clause-value g c l ws key taken rising =
    let m = g.O.Operator.meaning in
    let above = last_above l.version.last l.gathered rising in
    value_taken m l ws key (lives.last l) taken (inr above) c.histories_keep_what_is_read.ensures.values c.effect_continues_value.ensures.none
    ∙ ap (λ (at : ℕ). value_of m ws key at) (last_taken m l ws taken c.histories_say_writes_and_keeps.ensures.last)

pub returns-clause-rows : goal.returns-clause-rows
returns-clause-rows g c l ws low high limit taken rising =
    let m = g.O.Operator.meaning in
    let above = last_above l.version.last l.gathered rising in
    rows_alike m (lives.writes_of l) ws low high (lives.last l) limit c.equal_values_give_equal_answers.ensures
    (λ key. value_taken m l ws key (lives.last l) taken (inr above) c.histories_keep_what_is_read.ensures.values c.effect_continues_value.ensures.none)
    ∙ ap (λ (at : ℕ). first_rows m ws at limit (named_keys ws low high)) (last_taken m l ws taken c.histories_say_writes_and_keeps.ensures.last)

pub returns-clause-answer : goal.returns-clause-answer
returns-clause-answer g c l ws query taken rising =
    let m = g.O.Operator.meaning in
    c.equal_values_give_equal_answers.ensures (lives.writes_of l) ws l.version.keeps query
    (λ kept key reads. value_taken m l ws key (at_of query) taken (inl kept) c.histories_keep_what_is_read.ensures.values c.effect_continues_value.ensures.none)
