use Rattle.uc_model.proofs.Ranges.{empty_touches_none}
use Rattle.uc_model.proofs.laws.keys_are_touched_by_name_or_range.Goals as goal

pub returns-clause-empty : goal.returns-clause-empty
returns-clause-empty c = empty_touches_none
