use Rattle.std.proofs.Common.{◌≡◌, take}
use Rattle.uc_run.specs.Size.{memtable_size}
use Rattle.uc_run.proofs.slot_totals.size_of_slots.Given as goal

-- the size of the writes so far
abbrev pub invariant-loop-place : goal.invariant-loop-place
invariant-loop-place l = l.size ≡ memtable_size (take l.place l.slots)
