use Rattle.std.proofs.Common.{◌≡◌, take}
use Rattle.uc_version_state.specs.Flushes.{memtables}
use Rattle.uc_version_open.specs.Progress.{flushing_of}
use Rattle.uc_version_open.proofs.flushes.flush_writes.Given as goal

abbrev pub invariant-loop-write : goal.invariant-loop-write
invariant-loop-write g l = l.memtables ≡ flushing_of (memtables l.limit (take l.write-index l.writes))
