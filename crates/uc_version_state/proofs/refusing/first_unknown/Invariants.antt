use Rattle.std.proofs.Common.{◌≡◌, drop}
use Rattle.uc_version_state.specs.Refusals as refusals
use Rattle.uc_version_state.proofs.refusing.first_unknown.Given as goal

abbrev pub invariant-loop-keep : goal.invariant-loop-keep
invariant-loop-keep l = refusals.first_unknown l.terms l.keeps ≡ refusals.first_unknown l.terms (drop l.keep-index l.keeps)
