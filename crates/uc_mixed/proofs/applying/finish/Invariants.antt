use Rattle.std.proofs.Common.{◌≡◌, vec_len}
use Rattle.uc_mixed.specs.Parts as parts
use Rattle.uc_mixed.specs.Walks as walks
use Rattle.uc_mixed.proofs.applying.finish.Given as goal

abbrev pub invariant-loop-end : goal.invariant-loop-end
invariant-loop-end l = walks.finished l.operand (parts.backward l.ends.items) l.value ≡ walks.finished l.operand (parts.backward l.fn.ends.items) l.fn.value

abbrev pub decreases-loop-end : goal.decreases-loop-end
decreases-loop-end l = vec_len l.ends
