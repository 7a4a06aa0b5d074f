use Rattle.std.proofs.Common.{◌≡◌, map, take}
use Rattle.uc_run_entry.specs.Spanning as spanning
use Rattle.uc_run_entry.proofs.spanning.spans_of.Given as goal

abbrev pub invariant-loop-range : goal.invariant-loop-range
invariant-loop-range l = l.spans.items ≡ spanning.spans_of (map (λ cut. cut.now) l.cuts) (take l.range-index l.ranges)
