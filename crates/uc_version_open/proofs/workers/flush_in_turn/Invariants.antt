use Rattle.std.proofs.Common.{◌≡◌, map, take}
use Rattle.uc_run.specs.Flush.{flushed}
use Rattle.uc_version_open.proofs.workers.flush_in_turn.Given as goal

abbrev pub invariant-loop-memtable : goal.invariant-loop-memtable
invariant-loop-memtable l = l.runs.items ≡ map flushed (take l.memtable-index l.full)
