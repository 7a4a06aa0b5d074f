use Rattle.std.proofs.Common.{◌≡◌, ◌+◌, ◌≤◌, [], length}
use Rattle.uc_script.specs.Lines.{lines_of}
use Rattle.uc_script.specs.Reading.{calls_after}
use Rattle.uc_script.proofs.script_text.read_calls.Given as goal

abbrev pub invariant-loop-rest : goal.invariant-loop-rest
invariant-loop-rest l = record {
  same : calls_after l.calls.items l.ops.items l.number (lines_of l.rest) ≡ calls_after [] [] l.fn.first (lines_of l.fn.text);
  counted : l.number + length l.rest ≤ l.fn.first + length l.fn.text;
}

abbrev pub decreases-loop-rest : goal.decreases-loop-rest
decreases-loop-rest l = length l.rest
