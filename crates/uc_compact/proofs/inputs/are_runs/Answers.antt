use Rattle.std.proofs.Common.{subst}
use Rattle.std.specs.Arc.{arc_value}
use Rattle.uc_run_entry.specs.Run.{Contents, IsRun}
use Rattle.uc_compact.proofs.Together.{one_more}
use Rattle.uc_compact.proofs.inputs.are_runs.Goals as goal

pub loop-run-preserved : goal.loop-run-preserved
loop-run-preserved c =
    one_more arc_value (λ (r : Contents). IsRun r.low r.high r.points r.fragments) c.args.inputs.now c.loop-run.run-index c.run-item.result c.loop-run-test.true c.run-item.is
    (subst (λ (r : Contents). IsRun r.low r.high r.points r.fragments) c.deref.ensures c.recall.ensures) c.loop-run.invariant
