use Rattle.std.proofs.Common.{◌≤◌, ◌<◌, length, vec_len}
use Rattle.uc_script.specs.Head.{queries_in}
use Rattle.uc_query_shared.specs.Given.{ForEachHistory}
use Rattle.uc_tool_ask.specs.Given.{replies_given}
use Rattle.uc_tool_io.proofs.Printing.{GoesOn}
use Rattle.uc_tool_ask.proofs.answers.print_answers.Given as goal

abbrev pub invariant-asked : goal.invariant-asked
invariant-asked g l = record {
  enough : l.plan.workers ≤ vec_len l.readers;
  some : 0 < l.size;
  goes : ForEachHistory g.O.Operator.meaning g.N.Name.base (λ h. GoesOn (replies_given g.O.Operator.meaning h l.last (queries_in l.head)) (replies_given g.O.Operator.meaning h l.last l.ahead) (g.W.Write.contents l.fn.writer) (g.W.Write.contents l.writer));
}

abbrev pub decreases-asked : goal.decreases-asked
decreases-asked g l = length l.ahead
