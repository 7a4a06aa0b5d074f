-- How a memtable holds its writes.
use Rattle.std.specs.Prelude.{◌≡◌, List}
use Rattle.uc_bytes.specs.declared.write.Write.{Write}
use Rattle.uc_batch.specs.Rising.{IsRising, last_of}
use Rattle.uc_run.specs.Size.{memtable_size}
use Rattle.uc_run.specs.declared.memtable.Memtable.TheInside.{Inside}

-- the writes that were inserted, in order
abbrev pub inserted : Inside → List Write
inserted m = m.slots

-- their sequences rise, and the size and the last sequence are counted
pub record IsHeld (m : Inside) : Type 0 where
  pub rising : IsRising 0 m.slots
  pub size_counted : m.size ≡ memtable_size m.slots
  pub last_counted : m.last ≡ last_of 0 m.slots
