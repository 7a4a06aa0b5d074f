use Rattle.std.proofs.Common.{arith}
use Rattle.uc_memtable.proofs.AllGathered.{ranges_short, shown_rising}
use Rattle.uc_memtable.proofs.flushable_memtables.FlushableMemtables.ranges.Goals as goal

pub overflow_add-result : goal.overflow_add-result
overflow_add-result c =
    let s = c.self.inside in
    let short = ranges_short s.apart s.behind.shown (shown_rising s.apart s.behind c.self.invariant) in
    omega (arith, short)
