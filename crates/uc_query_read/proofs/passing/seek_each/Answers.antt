use Rattle.std.proofs.Common.{ap, ◌∙◌, option_map}
use Rattle.uc_run.specs.Heads.{NextKeys}
use Rattle.uc_run_entry.proofs.Written.{written}
use Rattle.uc_query_read.specs.Walks.{sought}
use Rattle.uc_query_read.proofs.Beside.{moved}
use Rattle.uc_query_read.proofs.passing.seek_each.Goals as goal

pub loop-place-preserved : goal.loop-place-preserved
loop-place-preserved c = record {
  cursors = written (sought c.args.low.now) c.args.cursors.now c.loop-place.cursors c.loop-place.place _ c.seek.new.self c.loop-place-test.true c.loop-place.invariant.cursors c.seek.ensures;
  heads = ap (λ (h : NextKeys). h.keys) c.set.ensures ∙ moved c.loop-place.heads.keys c.loop-place.cursors c.loop-place.place c.seek.new.self (option_map (λ k. k.now) c.key.result) c.loop-place.invariant.heads c.key.ensures.there;
}
