use Rattle.std.proofs.Common.{sym, ap}
use Rattle.uc_version_state.specs.Versions.{contents_of}
use Rattle.uc_version.specs.declared.held_stretch.HeldStretch.{HeldStretch}
use Rattle.uc_version.specs.Owners.{runs_held}
use Rattle.uc_version.proofs.CompactedNow.{claimed_stretch}
use Rattle.uc_version.proofs.Staying.{claim_is_held}
use Rattle.uc_version.proofs.laws.jobs_are_own.Goals as goal

pub returns : goal.returns
returns c o s is_owner fine = (
  claim_is_held o is_owner s fine,
  sym (ap (λ (h : HeldStretch). contents_of (runs_held o.version h)) (claimed_stretch o is_owner s fine)),
)
