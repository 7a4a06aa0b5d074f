use Rattle.uc_version_state.proofs.Refused.{no_writes_same, no_writes_may}
use Rattle.uc_version_state.proofs.laws.no_writes_change_nothing.Goals as goal

pub returns : goal.returns
returns c = record {
  same = λ v. no_writes_same v;
  may = λ v is_version. no_writes_may v is_version;
}
