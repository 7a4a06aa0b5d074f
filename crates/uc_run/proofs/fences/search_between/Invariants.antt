use Rattle.std.proofs.Common.{◌-◌, ◌≤◌}
use Rattle.uc_run.specs.Blocks.{blocks_of}
use Rattle.uc_run.specs.Fences.{AreAhead, ArePassed}
use Rattle.uc_run.proofs.fences.search_between.Given as goal

-- where the search is still to look
abbrev pub invariant-loop-passed : goal.invariant-loop-passed
invariant-loop-passed l = record {
  order : l.passed ≤ l.ahead;
  bound : l.ahead ≤ blocks_of l.points;
  before : ArePassed l.points l.low l.strict l.passed;
  after : AreAhead l.points l.low l.strict l.ahead;
}

abbrev pub decreases-loop-passed : goal.decreases-loop-passed
decreases-loop-passed l = l.ahead - l.passed
