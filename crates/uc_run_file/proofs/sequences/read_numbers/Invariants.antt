use Rattle.uc_run_file.proofs.NumbersText.{AreRead}
use Rattle.uc_run_file.proofs.sequences.read_numbers.Given as goal

abbrev pub invariant-loop : goal.invariant-loop
invariant-loop l = AreRead l.bytes l.rest l.numbers.items l.counter
