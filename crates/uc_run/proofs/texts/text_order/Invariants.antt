use Rattle.std.proofs.Common.{◌≡◌, length}
use Rattle.uc_bytes.specs.Bytes.{bytes_cmp}
use Rattle.uc_run.proofs.texts.text_order.Given as goal

abbrev pub invariant-loop-rest : goal.invariant-loop-rest
invariant-loop-rest l = bytes_cmp l.rest l.other_rest ≡ bytes_cmp l.text l.other

abbrev pub decreases-loop-rest : goal.decreases-loop-rest
decreases-loop-rest l = length l.rest
