use Rattle.std.proofs.Common.{arith}
use Rattle.uc_memtable.proofs.AllGathered.{ranges_short, shown_rising}
use Rattle.uc_memtable.proofs.gathered_memtables.GatheredMemtables.ranges.Goals as goal

pub overflow_add-result : goal.overflow_add-result
overflow_add-result c =
    let s = c.self.inside in
    let short = ranges_short s.frozen s.active.shown (shown_rising s.frozen s.active c.self.invariant) in
    omega (arith, short)
