use Rattle.std.proofs.Common.{◌≡◌, ◌+◌, ◌++◌, drop}
use Rattle.uc_tool_opening.specs.Opening.{batch_texts}
use Rattle.uc_tool_opening.proofs.opening.write_log.Given as goal

abbrev pub invariant-loop-op : goal.invariant-loop-op
invariant-loop-op l = (l.seq ≡ l.fn.first + l.op-index) × (l.log ++ batch_texts l.seq (drop l.op-index l.ops) ≡ batch_texts l.fn.first l.ops)
