use Rattle.std.proofs.Common.{◌≡◌, ◌-◌, ◌^◌, min, take}
use Rattle.std.specs.List.{sum_by}
use Rattle.uc_run_entry.specs.Size as size
use Rattle.uc_run.proofs.run_size.fragments_size.Given as goal

abbrev pub invariant-loop-fragment : goal.invariant-loop-fragment
invariant-loop-fragment l = l.sum ≡ min (sum_by size.fragment_size (take l.fragment-index l.fragments)) (2 ^ 64 - 1)
