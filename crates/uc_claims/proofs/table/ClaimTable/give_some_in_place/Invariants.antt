use Rattle.std.proofs.Common.{◌≡◌, take}
use Rattle.uc_claims.specs.Holding.{without}
use Rattle.uc_claims.proofs.table.ClaimTable.give_some_in_place.Given as goal

abbrev pub invariant-loop-slot : goal.invariant-loop-slot
invariant-loop-slot l = l.held ≡ record l.initial.held { slots = without (take l.slot-index l.slots) l.initial.held.slots }
