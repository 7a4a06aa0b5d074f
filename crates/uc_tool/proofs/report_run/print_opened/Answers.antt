use Rattle.std.proofs.Common.{subst}
use Rattle.uc_tool_io.specs.Output.{Output, Prints}
use Rattle.uc_tool.proofs.Reported.{good_options, opens_so}
use Rattle.uc_tool.proofs.report_run.print_opened.Goals as goal

pub print_reports-outcome-requires-after_bounds : goal.print_reports-outcome-requires-after_bounds
print_reports-outcome-requires-after_bounds g c κs within =
    let taken = c.requires in
    good_options c.args.options.now taken.0 (c.in-Ok.ensures.ok c.args.options.now taken.0 taken.1 taken.2).1

pub returns-in-Ok-clause-printed : goal.returns-in-Ok-clause-printed
returns-in-Ok-clause-printed g c writes rising from =
    let m = g.O.Operator.meaning in
    let contents = g.W.Write.contents in
    let ok = c.in-Ok.ensures.ok c.args.options.now writes rising from in
    subst (λ (out : Output). Prints out.replies (contents c.args.writer.now) (contents c.print_reports-outcome.new.writer) c.print_reports-outcome.result) (opens_so m c.args.options.now writes c.in-Ok.version ok.0 ok.1) c.print_reports-outcome.ensures.printed
