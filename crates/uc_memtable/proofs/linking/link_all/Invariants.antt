use Rattle.std.proofs.Common.{length}
use Rattle.uc_memtable.specs.Linked.{HaveHeads, AreChained}
use Rattle.uc_memtable.proofs.linking.link_all.Given as goal

-- the places so far are linked
abbrev pub invariant-loop-place : goal.invariant-loop-place
invariant-loop-place l = record {
  heads : HaveHeads l.heads l.labels l.place;
  chained : AreChained (length l.heads) l.labels l.before l.place;
}
