use Rattle.std.proofs.Common.{[], ◌∷◌, ◌++◌, refl}
use Rattle.uc_logrec.specs.Walk.{at_start, one_more}
use Rattle.uc_live.proofs.Recorded.{batches_known}
use Rattle.uc_live.proofs.recorded_laws.batches_are_walked.Goals as goal

pub returns-clause-none : goal.returns-clause-none
returns-clause-none c log = record { payloads = []; walked = at_start; read = refl }

pub returns-clause-more : goal.returns-clause-more
returns-clause-more c log offset behind writes more payload has lies read = record {
  payloads = has.payloads ++ payload ∷ [];
  walked = one_more has.payloads offset payload behind has.walked lies;
  read = batches_known has.payloads payload writes more has.read read;
}
