use Rattle.uc_history.proofs.Moments.{sound_run}
use Rattle.uc_history.proofs.laws.no_more_is_shown_than_was_taken.Goals as goal

pub returns-clause-taken : goal.returns-clause-taken
returns-clause-taken g c = λ events may. (sound_run g.O.Operator.meaning events may).taken

pub returns-clause-acknowledged : goal.returns-clause-acknowledged
returns-clause-acknowledged g c = λ events may. (sound_run g.O.Operator.meaning events may).acknowledged

pub returns-clause-seen : goal.returns-clause-seen
returns-clause-seen g c = λ events may. (sound_run g.O.Operator.meaning events may).seen
