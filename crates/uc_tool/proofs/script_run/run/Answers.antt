use Rattle.std.proofs.Common.{rules, ◌≡◌, ℕ, codes, Err, ap, sym, subst}
use Rattle.uc_script.specs.Script.{script_of}
use Rattle.uc_tool_io.specs.Output.{Output, Prints, refused}
use Rattle.uc_tool_io.specs.Line.{numbered_line}
use Rattle.uc_tool.specs.Play.{played}
use Rattle.uc_tool.proofs.script_run.run.Goals as goal

pub returns-in-Err-Fault-clause-printed : goal.returns-in-Err-Fault-clause-printed
returns-in-Err-Fault-clause-printed g c =
    let contents = g.W.Write.contents in
    let fault : script_of c.args.input.items ≡ Err c.in-Err-Fault.line = search rules in
    let named = subst (λ (n : ℕ). Prints (refused (numbered_line (codes "fault line ") n)).replies (contents c.args.writer.now) (contents c.print_fault.new.writer) c.print_fault.result) c.in-Err-Fault.line-is c.print_fault.ensures.printed in
    subst (λ (out : Output). Prints out.replies (contents c.args.writer.now) (contents c.print_fault.new.writer) c.print_fault.result) (sym (ap (played g.O.Operator.meaning c.args.options.now) fault)) named
