use Rattle.std.proofs.Common.{rules, ◌<◌, length, ◌∙◌}
use Rattle.std.proofs.lemmas.List.{length-set}
use Rattle.uc_run.proofs.SetBits.{kept_more, added_more}
use Rattle.uc_run.proofs.filter.add_bits.Goals as goal

pub loop-place-preserved : goal.loop-place-preserved
loop-place-preserved c =
    let words = c.loop-place.words in
    let other = c.args.other.now in
    let n = c.loop-place.place in
    let within : n < length words = search (rules, c.loop-place-test.true, c.loop-place.invariant.count) in
    record {
      count = length-set words n _ ∙ c.loop-place.invariant.count;
      kept = λ place bits has. kept_more words other n within place bits (c.loop-place.invariant.kept place bits has);
      added = λ place bits lt has. added_more words other n within c.loop-place.invariant.added place bits lt has;
    }
