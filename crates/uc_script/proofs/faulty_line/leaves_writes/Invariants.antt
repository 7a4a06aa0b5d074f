use Rattle.std.proofs.Common.{◌≡◌, length}
use Rattle.uc_script.specs.Explanations.{begins_write, takes_writes}
use Rattle.uc_script.specs.Leaving.{leaves}
use Rattle.uc_script.specs.Lines.{lines_of}
use Rattle.uc_script.proofs.Leaving.{left_by}
use Rattle.uc_script.proofs.faulty_line.leaves_writes.Given as goal

abbrev pub invariant-loop-rest : goal.invariant-loop-rest
invariant-loop-rest l = left_by begins_write takes_writes l.is_left (lines_of l.rest) ≡ leaves begins_write takes_writes (lines_of l.fn.text)

abbrev pub decreases-loop-rest : goal.decreases-loop-rest
decreases-loop-rest l = length l.rest
