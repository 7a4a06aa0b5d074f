use Rattle.uc_fold.specs.Adding.{places, places_add}
use Rattle.uc_fold.proofs.HeldSums.{totals}
use Rattle.uc_fold.proofs.laws.sums_are_held.Goals as goal

pub returns : goal.returns
returns c = totals places places_add
