use Rattle.std.proofs.Common.{◌≡◌, ◌+◌, drop}
use Rattle.uc_version_state.specs.Picks as picks
use Rattle.uc_version_state.proofs.picking.unclaimed.Given as goal

abbrev pub invariant-loop-candidate : goal.invariant-loop-candidate
invariant-loop-candidate l = record {
  count : l.count ≡ l.candidate-index;
  ahead : picks.unclaimed l.candidates ≡ l.candidate-index + picks.unclaimed (drop l.candidate-index l.candidates);
}
