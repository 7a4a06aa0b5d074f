-- Stretches that are compacted at once: claimed, compacted and installed.
use Rattle.std.specs.Prelude.{◌≡◌, None, Some, map}
use Rattle.uc_oper.specs.Operation.{Operation}
use Rattle.uc_version_state.specs.declared.stretch.Stretch.{Stretch}
use Rattle.uc_version_state.specs.Versions.{Stored}
use Rattle.uc_version_state.specs.Installs.{Install, IdLeft, installed}
use Rattle.uc_version.specs.declared.compact_error.CompactError.{CompactError}
use Rattle.uc_version.specs.declared.compact_error.CompactError.TheVariants.{NotClaimed, IdsSpent, Memory}
use Rattle.uc_version.specs.Owners.{Owner}
use Rattle.uc_version.specs.Claiming.{claim_refusal}
use Rattle.uc_version_compact.specs.Compacting.{runs_at, compaction_at, install_for}
use Rattle.uc_version.specs.Installing.{moved_up}

-- the install of a compacted stretch: its runs by their ids, the version's keeps, whether the last of its runs is the
-- oldest of all, and the compaction of the runs
abbrev pub install_at : Operation → Stored → Stretch → Install
install_at m v s = install_for m (runs_at v s) (compaction_at v s)

-- the owner after it: the same claims are held, and those after the stretch move up with their runs
abbrev pub after_compaction : Operation → Owner → Stretch → Owner
after_compaction m o s = record o {
  version = installed (install_at m o.version s) o.version;
  claims = map (moved_up s.first s.count) o.claims;
}

-- why a claim isn't compacted: no id is left, or memory ran out though one is
abbrev pub IsNotMade : Stored → CompactError → Type 0
IsNotMade v (NotClaimed error) = ⊥
IsNotMade v IdsSpent = ¬ IdLeft v
IsNotMade v Memory = IdLeft v

-- why a stretch isn't compacted at once: it can't be claimed, or no id is left; memory ran out only if neither holds
abbrev pub IsNotCompacted : Owner → Stretch → CompactError → Type 0
IsNotCompacted o s (NotClaimed error) = claim_refusal o s ≡ Some error
IsNotCompacted o s IdsSpent = (claim_refusal o s ≡ None) × ¬ IdLeft o.version
IsNotCompacted o s Memory = (claim_refusal o s ≡ None) × IdLeft o.version
