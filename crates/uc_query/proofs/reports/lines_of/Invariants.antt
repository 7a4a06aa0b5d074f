use Rattle.std.proofs.Common.{◌≡◌, map, take}
use Rattle.uc_query.specs.Reports as reports
use Rattle.uc_query.proofs.reports.lines_of.Given as goal

abbrev pub invariant-loop-placed : goal.invariant-loop-placed
invariant-loop-placed l = l.lines.items ≡ map reports.line_of (take l.placed-index l.runs)
