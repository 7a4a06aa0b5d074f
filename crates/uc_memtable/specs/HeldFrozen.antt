-- How a frozen memtable is held.
use Rattle.std.specs.Prelude.{List}
use Rattle.std.specs.Arc.{arc_value}
use Rattle.uc_bytes.specs.declared.write.Write.{Write}
use Rattle.uc_memtable.specs.declared.frozen_memtable.FrozenMemtable.TheInside.{Inside}

abbrev pub frozen : Inside → List Write
frozen f = (arc_value f.memtable).shown
