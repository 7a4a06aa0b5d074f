use Rattle.std.proofs.Common.{◌≡◌, ◌++◌, map, take, drop}
use Rattle.uc_version.specs.Installing.{moved_up}
use Rattle.uc_version.proofs.claims.move_up.Given as goal

abbrev pub invariant-loop-number : goal.invariant-loop-number
invariant-loop-number l = l.claims ≡ map (moved_up l.first l.count) (take l.number l.initial.claims) ++ drop l.number l.initial.claims
