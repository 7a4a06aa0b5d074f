use Rattle.std.proofs.Common.{refl}
use Rattle.uc_version_state.proofs.Changes.{last_after, limit_after}
use Rattle.uc_version_state.proofs.laws.events_change_what_they_say.Goals as goal

pub returns : goal.returns
returns c = record {
  keeps_installed = λ v i. refl;
  keeps_fed = λ v ws. refl;
  last = λ v e. last_after v e;
  limit = λ v e. limit_after v e;
}
