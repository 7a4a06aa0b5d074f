use Rattle.uc_fold.proofs.Cuts.{fold-cut}
use Rattle.uc_fold.proofs.laws.folds_may_be_cut.Goals as goal

pub returns : goal.returns
returns g c = fold-cut g.met.J.Joins.lawful
