use Rattle.std.proofs.Common.{◌≡◌, ℕ, ◌<◌, eqb, false, length}
use Rattle.std.specs.Prelude.{slice_index_or}
use Rattle.std.specs.List.{list_any}
use Rattle.uc_claims.specs.declared.table.TheConstants.{MOST_SLOTS}
use Rattle.uc_version.proofs.slots.busy_slots.Given as goal

abbrev pub invariant-loop-slot : goal.invariant-loop-slot
invariant-loop-slot l = record {
  long : length l.busy ≡ MOST_SLOTS;
  flags : (k : ℕ) → k < l.slot → slice_index_or l.busy k false ≡ list_any (λ s. eqb s k) l.held.slots;
}
