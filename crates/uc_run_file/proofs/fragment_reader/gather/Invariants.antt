use Rattle.std.proofs.Common.{length}
use Rattle.uc_run_file.specs.Faults.{AreRead}
use Rattle.uc_run_file.proofs.fragment_reader.gather.Given as goal

abbrev pub invariant-loop-rest : goal.invariant-loop-rest
invariant-loop-rest l = AreRead l.bytes l.rest l.ends l.lists

abbrev pub decreases-loop-rest : goal.decreases-loop-rest
decreases-loop-rest l = length l.rest
