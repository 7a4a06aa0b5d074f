use Rattle.std.proofs.Common.{◌≡◌, take, drop}
use Rattle.std.specs.List.{list_any}
use Rattle.uc_script.specs.Lines.{lines_of}
use Rattle.uc_script.specs.Explanations.{says_open}
use Rattle.uc_script.proofs.faulty_line.skip_lines.Given as goal

abbrev pub invariant-loop : goal.invariant-loop
invariant-loop l = record {
  rest : lines_of l.rest ≡ drop l.counter (lines_of l.fn.text);
  opened : l.is_opened ≡ list_any says_open (take l.counter (lines_of l.fn.text));
}
