use Rattle.std.proofs.Common.{arith}
use Rattle.uc_run.proofs.fences.fence.Goals as goal

pub overflow_mul-block : goal.overflow_mul-block
overflow_mul-block c = omega (arith, c.len.ensures.count, c.len.ensures.bound)
