use Rattle.std.proofs.Common.{◌≡◌, map, take}
use Rattle.uc_query.specs.Reports as reports
use Rattle.uc_query.proofs.reports.parts_of.Given as goal

abbrev pub invariant-loop-line : goal.invariant-loop-line
invariant-loop-line l = l.parts.items ≡ map reports.totals_of (take l.line-index l.lines)
