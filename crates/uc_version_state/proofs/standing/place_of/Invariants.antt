use Rattle.std.proofs.Common.{◌≡◌, ◌+◌, drop}
use Rattle.uc_version_state.specs.Installs.{place_of}
use Rattle.uc_version_state.proofs.standing.place_of.Given as goal

abbrev pub invariant-loop-place : goal.invariant-loop-place
invariant-loop-place l = place_of l.id l.runs ≡ l.place + place_of l.id (drop l.place l.runs)
