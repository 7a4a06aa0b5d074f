use Rattle.uc_version_state.proofs.Fed.{fed_is_version}
use Rattle.uc_version_state.proofs.Snapped.{kept_is_version, released_is_version}
use Rattle.uc_version_state.proofs.laws.feeds_and_keeps_give_versions.Goals as goal

pub returns : goal.returns
returns c = record {
  fed = λ v ws is may. fed_is_version c.flushed_writes_are_a_run.ensures v ws is may;
  kept = λ v is. kept_is_version v is;
  released = λ v seq is. released_is_version seq v is;
}
