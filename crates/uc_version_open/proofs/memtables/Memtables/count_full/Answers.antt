use Rattle.std.proofs.Common.{arith}
use Rattle.uc_version_open.proofs.memtables.Memtables.count_full.Goals as goal

pub overflow_add-result : goal.overflow_add-result
overflow_add-result c =
    omega (arith, c.len-flushed.ensures, c.self.inside.runs.small, c.as_slice-lent.type_inv.1, c.as_slice-full.type_inv.1)
