use Rattle.std.proofs.Common.{◌≡◌, map, take}
use Rattle.uc_run_entry.proofs.lists.Lists.of.Given as goal

abbrev pub invariant-loop-list : goal.invariant-loop-list
invariant-loop-list g l = l.made ≡ map (λ list. list.now) (take l.list-index l.lists)
