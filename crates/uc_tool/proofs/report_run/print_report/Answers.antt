use Rattle.std.proofs.Common.{ap, ◌∙◌}
use Rattle.uc_tool_opening.specs.ReportLines.{report_lines}
use Rattle.uc_tool.specs.Report.{store_lines}
use Rattle.uc_tool.proofs.Reported.{one_reply}
use Rattle.uc_tool.proofs.report_run.print_report.Goals as goal

pub returns : goal.returns
returns g c =
    let contents = g.W.Write.contents in
    let is = c.deref.ensures.value ∙ c.in_ok-lines.ensures ∙ ap report_lines c.in_ok-report.ensures in
    one_reply (store_lines c.args.version.now) c.deref.result.now (contents c.args.writer.now) (contents c.write_bytes.new.writer) c.write_bytes.result is c.write_bytes.ensures.ok c.write_bytes.ensures.err c.write_bytes.ensures.device
