-- How frozen memtables are held.
use Rattle.std.specs.Prelude.{◌≡◌, List, count_by, length}
use Rattle.uc_bytes.specs.declared.write.Write.{Write}
use Rattle.uc_batch.specs.Rising.{IsRising, last_of}
use Rattle.uc_run.specs.Size.{memtable_size}
use Rattle.uc_memtable.specs.Frozen.{all_of}
use Rattle.uc_memtable.specs.Labels.{deletes_range}
use Rattle.uc_memtable.specs.declared.frozen_memtables.FrozenMemtables.TheInside.{Inside}

abbrev pub all_frozen : Inside → List Write
all_frozen f = all_of f.memtables.items

-- the sequence numbers of all writes rise, and their totals are right
pub record AreFrozen (f : Inside) : Type 0 where
  pub rising : IsRising 0 (all_of f.memtables.items)
  pub len_counted : f.len ≡ length (all_of f.memtables.items)
  pub size_counted : f.size ≡ memtable_size (all_of f.memtables.items)
  pub last_counted : f.last ≡ last_of 0 (all_of f.memtables.items)
  pub ranges_counted : f.ranges ≡ count_by deletes_range (all_of f.memtables.items)
