use Rattle.std.proofs.Common.{All, length}
use Rattle.uc_script.specs.Calls.{calls_in}
use Rattle.uc_script.specs.Names.{NameIsGood}
use Rattle.uc_query.specs.Names.{AreHeld}
use Rattle.uc_query.specs.Running.{unnamed}
use Rattle.uc_tool.specs.Play.{FitLogs, replies_of}
use Rattle.uc_tool_io.proofs.Printing.{GoesOn}
use Rattle.uc_tool.proofs.replies.print_replies.Given as goal

abbrev pub invariant-loop-ahead : goal.invariant-loop-ahead
invariant-loop-ahead g l = record {
  fits : FitLogs l.next l.ahead;
  names : All NameIsGood l.ahead;
  held : AreHeld l.owned l.claims;
  goes : GoesOn (replies_of g.O.Operator.meaning (unnamed l.fn.owned) l.last l.first (calls_in l.lines)) (replies_of g.O.Operator.meaning (record { owner = l.owned; names = l.claims }) l.last l.next l.ahead) (g.W.Write.contents l.fn.writer) (g.W.Write.contents l.writer);
}

abbrev pub decreases-loop-ahead : goal.decreases-loop-ahead
decreases-loop-ahead g l = length l.ahead
