use Rattle.std.proofs.Common.{◌≡◌, ◌++◌, take, codes}
use Rattle.std.specs.List.{flat_map}
use Rattle.uc_tool_opening.specs.ReportLines.{spaced}
use Rattle.uc_tool_opening.proofs.reports.push_keeps.Given as goal

abbrev pub invariant-loop-keep : goal.invariant-loop-keep
invariant-loop-keep l = l.out.items ≡ l.fn.out.items ++ codes "keeps" ++ flat_map spaced (take l.keep-index l.keeps)
