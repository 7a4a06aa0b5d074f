use Rattle.std.proofs.Common.{rules, ◌≡◌, ℕ, codes, Err, ap, sym, subst}
use Rattle.uc_script.specs.Head.{head_of}
use Rattle.uc_tool_io.specs.Output.{Output, Prints, refused}
use Rattle.uc_tool_io.specs.Line.{numbered_line}
use Rattle.uc_tool_ask.specs.Ask.{asked_of}
use Rattle.uc_tool_ask.proofs.ask_run.run.Goals as goal

pub returns-in-Err-Fault-clause-printed : goal.returns-in-Err-Fault-clause-printed
returns-in-Err-Fault-clause-printed g c =
    let contents = g.V.Write.contents in
    let fault : head_of c.args.input ≡ Err c.in-Err-Fault.line = search rules in
    let named = subst (λ (n : ℕ). Prints (refused (numbered_line (codes "fault line ") n)).replies (contents c.args.writer.now) (contents c.print_fault-outcome.new.writer) c.print_fault-outcome.result) c.in-Err-Fault.line-is c.print_fault-outcome.ensures.printed in
    subst (λ (out : Output). Prints out.replies (contents c.args.writer.now) (contents c.print_fault-outcome.new.writer) c.print_fault-outcome.result) (sym (ap (asked_of g.O.Operator.meaning c.args.options.now c.args.later c.args.input) fault)) named
