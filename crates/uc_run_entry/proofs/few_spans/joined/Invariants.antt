use Rattle.std.proofs.Common.{◌≡◌, ◌++◌, drop}
use Rattle.uc_run_entry.specs.Joined.{joined_onto, joined}
use Rattle.uc_run_entry.proofs.few_spans.joined.Given as goal

abbrev pub invariant-loop-next : goal.invariant-loop-next
invariant-loop-next l = l.made.items ++ joined_onto l.open (drop l.next-index l.next-items) ≡ joined l.fn.spans
