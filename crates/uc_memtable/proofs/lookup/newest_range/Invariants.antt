use Rattle.std.proofs.Common.{◌≡◌, ℕ, ◌≤◌, length, false}
use Rattle.std.specs.Prelude.{IfSome}
use Rattle.uc_memtable.specs.Ends.{newest_end}
use Rattle.uc_memtable.specs.Labels.{deletes_range}
use Rattle.uc_memtable.specs.Linked.{has_label}
use Rattle.uc_memtable.specs.Sights.{seen_by}
use Rattle.uc_memtable.proofs.lookup.newest_range.Given as goal

-- the walk stays among the range deletions, and none is seen behind it
abbrev pub invariant-loop-end : goal.invariant-loop-end
invariant-loop-end l = record {
  within : l.end ≤ length l.chains;
  ends : newest_end (has_label l.chains 0) l.end ≡ l.end;
  none : (place : ℕ) → l.end ≤ place → IfSome (seen_by l.sight place) (λ w. deletes_range w ≡ false);
}

abbrev pub decreases-loop-end : goal.decreases-loop-end
decreases-loop-end l = l.end
