use Rattle.std.proofs.Common.{◌≡◌, ◌+◌, ◌≤◌, false, length}
use Rattle.uc_script.specs.Lines.{lines_of}
use Rattle.uc_script.specs.Reading.{judged_after}
use Rattle.uc_script.proofs.script_text.judge_calls.Given as goal

abbrev pub invariant-loop-rest : goal.invariant-loop-rest
invariant-loop-rest l = record {
  same : judged_after l.is_unfed l.number (lines_of l.rest) ≡ judged_after false l.fn.first (lines_of l.fn.text);
  counted : l.number + length l.rest ≤ l.fn.first + length l.fn.text;
}

abbrev pub decreases-loop-rest : goal.decreases-loop-rest
decreases-loop-rest l = length l.rest
