use Rattle.uc_model.proofs.MeaningLaws.{more_changes}
use Rattle.uc_model.proofs.laws.each_write_changes_what_it_touches.Goals as goal

pub returns-clause-more : goal.returns-clause-more
returns-clause-more g c = more_changes g.O.Operator.meaning
