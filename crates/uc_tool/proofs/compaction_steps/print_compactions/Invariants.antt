use Rattle.std.proofs.Common.{◌-◌}
use Rattle.uc_tool.specs.Report.{compactions_of}
use Rattle.uc_tool.proofs.Compactions.{CompactsOn}
use Rattle.uc_tool.proofs.compaction_steps.print_compactions.Given as goal

abbrev pub invariant-loop : goal.invariant-loop
invariant-loop g l =
    CompactsOn g.O.Operator.meaning (compactions_of g.O.Operator.meaning l.fn.owned) (l.end - l.counter) l.owned (g.W.Write.contents l.fn.writer) (g.W.Write.contents l.writer)
