use Rattle.std.proofs.Common.{◌≡◌, ◌++◌, take}
use Rattle.uc_claims.specs.Holding.{NoneHeld}
use Rattle.uc_claims.proofs.table.ClaimTable.take_more_in_place.Given as goal

abbrev pub invariant-loop-taken : goal.invariant-loop-taken
invariant-loop-taken l = record {
  held : l.held ≡ record l.initial.held { slots = l.initial.held.slots ++ take l.taken l.slots };
  apart : NoneHeld (take l.taken l.slots) l.initial.held.slots;
}
