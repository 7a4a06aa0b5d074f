use Rattle.std.proofs.Common.{◌∙◌}
use Rattle.std.proofs.lemmas.Result.{on_ok_weaker}
use Rattle.uc_logrec.proofs.Writing.{Remains-middle, Remains-last, Extends-then}
use Rattle.uc_logrec.proofs.log_writer.push_rest.Goals as goal

pub loop-left-preserved : goal.loop-left-preserved
loop-left-preserved c = record {
  remains = rw (c.in_ok-push_record.ensures.ok, c.split_at.ensures.front, c.split_at.ensures.back) (Remains-middle _ _ _ _ c.loop-left.invariant.remains c.loop-left-test.true);
  kept = Extends-then _ _ _ c.loop-left.invariant.kept c.push_record.ensures.kept;
}

pub returns-clause-ok : goal.returns-clause-ok
returns-clause-ok c = on_ok_weaker c.push_record-2.result (λ e. e ∙ Remains-last _ _ _ _ c.loop-left.invariant.remains c.loop-left-test.false) c.push_record-2.ensures.ok
