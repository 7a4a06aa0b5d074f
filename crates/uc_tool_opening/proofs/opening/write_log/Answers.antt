use Rattle.std.proofs.Common.{◌≡◌, ◌++◌, drop, [], sym, ap, ◌∙◌, arith}
use Rattle.std.proofs.lemmas.List.{append-nil, drop_all}
use Rattle.uc_logrec.specs.Log.{log_text}
use Rattle.uc_tool_opening.specs.Opening.{batch_texts}
use Rattle.uc_tool_opening.proofs.LogAgain.{batch_more, fits_at}
use Rattle.uc_tool_opening.proofs.opening.write_log.Goals as goal

pub write_batch-requires : goal.write_batch-requires
write_batch-requires c =
    rw (c.from_ref.ensures.value, c.loop-op.invariant.0) (fits_at c.args.first c.loop-op.op-index c.args.ops.now c.op-item.result c.loop-op-test.true c.op-item.is c.requires)

pub loop-op-preserved : goal.loop-op-preserved
loop-op-preserved c =
    let l = c.loop-op in
    let text = rw c.from_ref.ensures.value at c.in_ok-batch.ensures in
    let payload = c.deref.ensures.value ∙ text in (
      omega (arith, l.invariant.0),
      rw (c.in_ok-add.ensures.ok, payload) (batch_more l.log l.seq l.op-index c.args.ops.now c.op-item.result (batch_texts c.args.first c.args.ops.now) c.loop-op-test.true c.op-item.is l.invariant.1),
    )

pub returns : goal.returns
returns c =
    let l = c.loop-op in
    let rest : batch_texts l.seq (drop l.op-index c.args.ops.now) ≡ [] = ap (batch_texts l.seq) (drop_all l.op-index c.args.ops.now c.loop-op-test.false) in
    c.finish.ensures ∙ ap log_text (sym (append-nil l.log) ∙ ap (λ r. l.log ++ r) (sym rest) ∙ l.invariant.1)
