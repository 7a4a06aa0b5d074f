use Rattle.std.proofs.Common.{◌≡◌, ◌+◌, drop}
use Rattle.uc_version.specs.Claiming as claiming
use Rattle.uc_version.proofs.claims.free_number.Given as goal

abbrev pub invariant-loop-number : goal.invariant-loop-number
invariant-loop-number l = claiming.free_number l.claims ≡ l.number + claiming.free_number (drop l.number l.claims)
