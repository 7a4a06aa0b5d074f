use Rattle.std.proofs.Common.{◌≡◌, ◌++◌, take}
use Rattle.uc_memtable.proofs.joining.push_shared.Given as goal

abbrev pub invariant-loop-memtable : goal.invariant-loop-memtable
invariant-loop-memtable l = l.all.items ≡ l.initial.all.items ++ take l.memtable-index l.memtables
