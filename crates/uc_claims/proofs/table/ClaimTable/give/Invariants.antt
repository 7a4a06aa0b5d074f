use Rattle.std.proofs.Common.{◌≡◌, length}
use Rattle.uc_claims.proofs.table.ClaimTable.give.Given as goal

abbrev pub invariant-loop-slot : goal.invariant-loop-slot
invariant-loop-slot l = record {
  same_table : l.held.table ≡ l.initial.held.table;
  same_whole : l.held.whole ≡ l.initial.held.whole;
}

abbrev pub decreases-loop-slot : goal.decreases-loop-slot
decreases-loop-slot l = length l.held.slots
