-- Points of writes.
use Rattle.std.specs.Prelude.{◌==◌, List}
use Rattle.std.specs.List.{IsDistinct}
use Rattle.uc_run_entry.specs.declared.entry.Entry.{Entry}

-- no two points have one sequence
abbrev pub HaveOwnSeqs : List Entry → Type 0
HaveOwnSeqs points = IsDistinct (λ p q. p.seq == q.seq) points
