-- How memtables are held of which the oldest may be set apart.
use Rattle.std.specs.Prelude.{◌++◌, length}
use Rattle.uc_batch.specs.Rising.{IsRising}
use Rattle.uc_memtable.specs.Gathering.{Gathered}
use Rattle.uc_memtable.specs.declared.flushable_memtables.FlushableMemtables.TheInside.{Inside}

abbrev pub all_flushable : Inside → Gathered
all_flushable f = record { shown = f.apart ++ f.behind.shown; waiting = f.behind.waiting; apart = length f.apart }

-- the sequences of all writes rise
abbrev pub AreFlushable : Inside → Type 0
AreFlushable f = IsRising 0 ((f.apart ++ f.behind.shown) ++ f.behind.waiting)
