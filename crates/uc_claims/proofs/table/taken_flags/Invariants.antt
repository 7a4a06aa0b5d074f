use Rattle.std.proofs.Common.{◌≡◌, ℕ, ◌<◌, ◌≤◌, false, ltb, length, get_or}
use Rattle.std.specs.Slots.{slots_items}
use Rattle.uc_claims.specs.declared.table.TheConstants.{MOST_SLOTS}
use Rattle.uc_claims.proofs.table.taken_flags.Given as goal

abbrev pub invariant-loop-slot : goal.invariant-loop-slot
invariant-loop-slot l = record {
  long : length l.flags ≡ MOST_SLOTS;
  read : (k : ℕ) → k < l.slot → get_or l.flags k false ≡ ltb 0 (get_or (slots_items l.closed.words) k 0);
  rest : (k : ℕ) → l.slot ≤ k → get_or l.flags k false ≡ false;
}
