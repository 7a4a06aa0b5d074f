use Rattle.std.proofs.Common.{◌≡◌, ◌<◌, ◌^◌, ◌++◌, length}
use Rattle.std.specs.List.{AllByRecursion}
use Rattle.uc_run_entry.specs.declared.entry.Entry.{Entry}
use Rattle.uc_run.specs.Ranks.{points_of}
use Rattle.uc_run.proofs.ranks.pack_ranked.Given as goal

-- what is packed and what is left are all points
abbrev pub invariant-loop-rest : goal.invariant-loop-rest
invariant-loop-rest l = record {
  all : l.packed ++ points_of l.ranked.slots l.ranked.bits l.rest ≡ points_of l.ranked.slots l.ranked.bits l.ranks;
  below : AllByRecursion (λ (p : Entry). p.seq < 2 ^ 56) (points_of l.ranked.slots l.ranked.bits l.rest);
}

abbrev pub decreases-loop-rest : goal.decreases-loop-rest
decreases-loop-rest l = length l.rest
