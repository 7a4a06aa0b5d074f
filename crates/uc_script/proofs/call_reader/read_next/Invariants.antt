use Rattle.std.proofs.Common.{◌≡◌, length}
use Rattle.uc_script.specs.Lines.{lines_of}
use Rattle.uc_script.specs.Script.{calls_from}
use Rattle.uc_script.proofs.call_reader.read_next.Given as goal

abbrev pub invariant-loop-alloc : goal.invariant-loop-alloc
invariant-loop-alloc l = calls_from l.ops.items (lines_of l.rest) ≡ calls_from l.fn.ops.items (lines_of l.fn.lines)

abbrev pub decreases-loop-alloc : goal.decreases-loop-alloc
decreases-loop-alloc l = length l.rest
