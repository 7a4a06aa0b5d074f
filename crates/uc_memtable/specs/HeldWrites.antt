-- How a memtable holds the writes that reads see, and those that wait.
use Rattle.std.specs.Prelude.{◌≡◌, ◌≤◌, count_by, length, take, drop, map}
use Rattle.uc_batch.specs.Rising.{IsRising, last_of}
use Rattle.uc_run.specs.Size.{memtable_size}
use Rattle.uc_memtable.specs.Gathering.{Gathering}
use Rattle.uc_memtable.specs.Labels.{write_label, deletes_range}
use Rattle.uc_memtable.specs.declared.active_memtable.ActiveMemtable.TheInside.{Inside}

-- the first ones are shown
abbrev pub gathered : Inside → Gathering
gathered m = record { shown = take m.shown m.writes; waiting = drop m.shown m.writes }

-- the sequence numbers of all writes rise, each has its label, and the totals of the shown ones are right
pub record IsGathered (m : Inside) : Type 0 where
  pub within : m.shown ≤ length m.writes
  pub rising : IsRising 0 m.writes
  pub labelled : m.chains ≡ map write_label m.writes
  pub size_counted : m.size ≡ memtable_size (take m.shown m.writes)
  pub last_counted : m.last ≡ last_of 0 (take m.shown m.writes)
  pub ranges_counted : m.ranges ≡ count_by deletes_range (take m.shown m.writes)
  pub all_ranges_counted : m.all_ranges ≡ count_by deletes_range m.writes
