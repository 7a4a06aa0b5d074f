use Rattle.std.proofs.Common.{ℕ, List, take, ap}
use Rattle.uc_model.specs.Meaning.{value_of}
use Rattle.uc_query_read.specs.Answers.{named_keys}
use Rattle.uc_query_read.proofs.Shown.{filter_map-reverse, row_at}
use Rattle.uc_query_read.proofs.answer_laws.rows_back_are_rows_reversed.Goals as goal

pub returns : goal.returns
returns g c writes low high at limit =
    ap (take limit) (filter_map-reverse (row_at (λ (key : List ℕ). value_of g.O.Operator.meaning writes key at)) (named_keys writes low high))
