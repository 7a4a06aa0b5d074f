use Rattle.std.proofs.Common.{◌≡◌, take}
use Rattle.uc_engine.specs.EngineReports as reports
use Rattle.uc_engine.proofs.report.total.Given as goal

abbrev pub invariant-loop-placed : goal.invariant-loop-placed
invariant-loop-placed l = l.total ≡ reports.total (take l.placed-index l.runs)
