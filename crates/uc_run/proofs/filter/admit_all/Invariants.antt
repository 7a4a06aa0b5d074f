use Rattle.std.proofs.Common.{◌≡◌, length}
use Rattle.uc_run.specs.Filters.{AdmitsAll}
use Rattle.uc_run.proofs.Walking.{passed, IsAhead}
use Rattle.uc_run.proofs.filter.admit_all.Given as goal

-- the keys of the points so far are admitted
abbrev pub invariant-loop-point : goal.invariant-loop-point
invariant-loop-point l = record {
  long : length l.words ≡ length l.fn.words;
  ahead : IsAhead l.points l.ahead;
  admitted : AdmitsAll l.words (passed l.points l.ahead);
}

abbrev pub decreases-loop-point : goal.decreases-loop-point
decreases-loop-point l = length l.ahead
