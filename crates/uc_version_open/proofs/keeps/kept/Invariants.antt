use Rattle.std.proofs.Common.{◌≡◌, take}
use Rattle.uc_version_state.specs.Openings.{rising}
use Rattle.uc_version_open.proofs.keeps.kept.Given as goal

abbrev pub invariant-loop-keep : goal.invariant-loop-keep
invariant-loop-keep l = l.kept.keys ≡ rising (take l.keep-index l.keeps)
