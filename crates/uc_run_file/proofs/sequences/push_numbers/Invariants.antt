use Rattle.std.proofs.Common.{◌≡◌, ◌++◌, take}
use Rattle.uc_run_file.specs.Spelling.{numbers_text}
use Rattle.uc_run_file.proofs.sequences.push_numbers.Given as goal

abbrev pub invariant-loop-number : goal.invariant-loop-number
invariant-loop-number l = l.bytes.items ≡ l.fn.bytes.items ++ numbers_text (take l.number-index l.numbers)
