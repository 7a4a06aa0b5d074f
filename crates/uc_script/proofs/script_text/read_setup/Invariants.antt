use Rattle.std.proofs.Common.{◌≡◌, ◌+◌, ◌≤◌, [], length}
use Rattle.uc_script.specs.Lines.{lines_of}
use Rattle.uc_script.specs.Reading.{IsRest, setup_after}
use Rattle.uc_script.proofs.script_text.read_setup.Given as goal

abbrev pub invariant-loop-rest : goal.invariant-loop-rest
invariant-loop-rest l = record {
  same : setup_after l.ops.items l.keeps.items l.number (lines_of l.rest) ≡ setup_after [] [] 1 (lines_of l.fn.text);
  counted : l.number + length l.rest ≤ length l.fn.text + 1;
  rest : IsRest l.fn.text l.rest;
  within : length l.rest ≤ length l.fn.text;
}

abbrev pub decreases-loop-rest : goal.decreases-loop-rest
decreases-loop-rest l = length l.rest
