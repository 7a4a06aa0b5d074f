use Rattle.std.proofs.Common.{◌≡◌, take}
use Rattle.uc_version_open.specs.Progress.{progress_of}
use Rattle.uc_version_open.proofs.first_version.opener_after.Given as goal

abbrev pub invariant-loop-write : goal.invariant-loop-write
invariant-loop-write l = l.opener ≡ progress_of l.fn.options (take l.write-index l.writes)
