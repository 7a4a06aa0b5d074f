use Rattle.std.proofs.Common.{◌≡◌, ◌++◌, take}
use Rattle.std.specs.List.{flat_map}
use Rattle.uc_tool_opening.specs.ReportLines.{run_line}
use Rattle.uc_tool_opening.proofs.reports.push_runs.Given as goal

abbrev pub invariant-loop-run : goal.invariant-loop-run
invariant-loop-run l = l.out.items ≡ l.fn.out.items ++ flat_map run_line (take l.run-index l.runs)
