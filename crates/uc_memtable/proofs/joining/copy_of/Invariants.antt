use Rattle.std.proofs.Common.{◌≡◌, [], take}
use Rattle.uc_memtable.specs.Frozen.{all_of}
use Rattle.uc_memtable.proofs.joining.copy_of.Given as goal

abbrev pub invariant-loop-memtable : goal.invariant-loop-memtable
invariant-loop-memtable l = l.one ≡ record { shown = all_of (take l.memtable-index l.memtables); waiting = [] }
