use Rattle.std.proofs.Common.{◌≡◌, ◌+◌, ◌≤◌, [], length}
use Rattle.uc_script.specs.Lines.{lines_of}
use Rattle.uc_script.specs.HeadReading.{head_after}
use Rattle.uc_script.proofs.head.read_lines.Given as goal

abbrev pub invariant-loop-rest : goal.invariant-loop-rest
invariant-loop-rest l = record {
  same : head_after l.keeps.items l.number (length l.fn.text) (length l.rest) (lines_of l.rest) ≡ head_after [] 1 (length l.fn.text) (length l.fn.text) (lines_of l.fn.text);
  counted : l.number + length l.rest ≤ length l.fn.text + 1;
}

abbrev pub decreases-loop-rest : goal.decreases-loop-rest
decreases-loop-rest l = length l.rest
