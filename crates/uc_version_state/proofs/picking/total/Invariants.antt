use Rattle.std.proofs.Common.{◌≡◌, ◌≤◌, ◌*◌, ◌^◌, take}
use Rattle.uc_version_state.specs.Picks as picks
use Rattle.uc_version_state.proofs.picking.total.Given as goal

abbrev pub invariant-loop-candidate : goal.invariant-loop-candidate
invariant-loop-candidate l = record {
  so_far : l.all ≡ picks.total (take l.candidate-index l.candidates);
  bound : l.all ≤ l.candidate-index * 2 ^ 64;
}
