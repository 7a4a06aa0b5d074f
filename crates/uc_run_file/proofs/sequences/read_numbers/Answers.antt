use Rattle.uc_run_file.proofs.NumbersText.{no_more}
use Rattle.uc_run_file.proofs.sequences.read_numbers.Goals as goal

pub returns-in-None : goal.returns-in-None
returns-in-None c = record {
  read = λ others rest many below e.
      no_more c.args.bytes.now c.loop.rest.now c.loop.numbers.items others rest c.args.count c.loop.counter c.loop.invariant c.loop-test.true many below e
      (λ n after fits next. c.in-None.ensures.none n after fits next);
}
