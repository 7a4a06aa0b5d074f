use Rattle.std.proofs.Common.{◌≡◌, ◌≤◌, ◌+◌, ◌*◌, ◌^◌, take, drop}
use Rattle.uc_version_state.specs.Picks as picks
use Rattle.uc_version_state.proofs.picking.collected.Given as goal

abbrev pub invariant-loop-candidate : goal.invariant-loop-candidate
invariant-loop-candidate l = record {
  count : l.count ≡ l.candidate-index;
  sum : l.sum ≡ picks.total (take l.candidate-index l.candidates);
  bound : l.sum ≤ l.candidate-index * 2 ^ 64;
  ahead : picks.collected l.options l.candidates ≡ l.candidate-index + picks.collected_behind l.options (take l.candidate-index l.candidates) (drop l.candidate-index l.candidates);
}
