-- Representation of memtables.
use Rattle.std.specs.Prelude.{◌++◌}
use Rattle.uc_batch.specs.Rising.{IsRising}
use Rattle.uc_memtable.specs.Gathering.{Gathering}
use Rattle.uc_memtable.specs.declared.gathered_memtables.GatheredMemtables.TheInside.{Inside}

abbrev pub all_gathered : Inside → Gathering
all_gathered g = record { shown = g.frozen ++ g.active.shown; waiting = g.active.waiting }

-- the sequences of all writes rise
abbrev pub AreGathered : Inside → Type 0
AreGathered g = IsRising 0 ((g.frozen ++ g.active.shown) ++ g.active.waiting)
