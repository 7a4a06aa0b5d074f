use Rattle.std.proofs.Common.{◌≡◌, ◌++◌, map, take, drop}
use Rattle.uc_version.specs.Feeding.{moved_down}
use Rattle.uc_version.proofs.claims.move_down.Given as goal

abbrev pub invariant-loop-number : goal.invariant-loop-number
invariant-loop-number l = l.claims ≡ map (moved_down l.count) (take l.number l.initial.claims) ++ drop l.number l.initial.claims
