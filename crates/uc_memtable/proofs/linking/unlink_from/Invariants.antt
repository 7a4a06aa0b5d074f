use Rattle.std.proofs.Common.{◌≤◌}
use Rattle.uc_memtable.specs.Linked.{HaveHeads}
use Rattle.uc_memtable.proofs.linking.unlink_from.Given as goal

-- the places that are left are linked
abbrev pub invariant-loop-place : goal.invariant-loop-place
invariant-loop-place l = record {
  low : l.count ≤ l.place;
  heads : HaveHeads l.heads l.labels l.place;
}
