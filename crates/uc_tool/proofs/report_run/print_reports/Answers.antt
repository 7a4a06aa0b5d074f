use Rattle.std.proofs.Common.{Result, Ok, Err, ap, ◌∙◌}
use Rattle.std.proofs.lemmas.Result.{err_from_is_err_and}
use Rattle.uc_version.specs.Owners.{Owner}
use Rattle.uc_tool_io.specs.declared.run_error.RunError.{RunError}
use Rattle.uc_tool.proofs.Reported.{first_fails, second_fails, last_comes}
use Rattle.uc_tool.proofs.report_run.print_reports.Goals as goal

pub returns-in_err-print_report-clause-printed : goal.returns-in_err-print_report-clause-printed
returns-in_err-print_report-clause-printed g c =
    let contents = g.W.Write.contents in
    let p = err_from_is_err_and c.from_residual-in_err-print_report.result c.from_residual-in_err-print_report.ensures.1 in
    rw (p.1, p.2) (first_fails g.O.Operator.meaning c.args.version c.args.options.now c.in_ok-owned.owned c.in_ok-owned.ensures c.version.result.now c.version.ensures (contents c.args.writer.now) (contents c.print_report.new.writer) c.in_err-print_report.field-0.0 c.in_err-print_report.ensures)

pub returns-in_err-print_compactions-clause-printed :
    goal.returns-in_err-print_compactions-clause-printed
returns-in_err-print_compactions-clause-printed g c =
    let contents = g.W.Write.contents in
    let p = err_from_is_err_and c.from_residual-in_err-print_compactions.result c.from_residual-in_err-print_compactions.ensures.1 in
    rw (p.1, p.2) (second_fails g.O.Operator.meaning c.args.version c.args.options.now c.in_ok-owned.owned c.in_ok-owned.ensures c.version.result.now c.version.ensures (contents c.args.writer.now) (contents c.print_report.new.writer) c.in_ok-print_report.ensures (contents c.print_compactions.new.writer) c.in_err-print_compactions.field-0.0 c.in_err-print_compactions.ensures.printed)

pub returns-in_err-print_report-2-clause-printed :
    goal.returns-in_err-print_report-2-clause-printed
returns-in_err-print_report-2-clause-printed g c =
    let contents = g.W.Write.contents in
    let r : Result (Unit {0}) RunError = Err c.in_err-print_report-2.field-0.0 in
    let p = err_from_is_err_and c.from_residual-in_err-print_report-2.result c.from_residual-in_err-print_report-2.ensures.1 in
    let last = c.version-2.ensures ∙ ap (λ (o : Owner). o.version) c.in_ok-print_compactions.ensures.left in
    rw (p.1, p.2) (last_comes g.O.Operator.meaning c.args.version c.args.options.now c.in_ok-owned.owned c.in_ok-owned.ensures c.version.result.now c.version.ensures (contents c.args.writer.now) (contents c.print_report.new.writer) c.in_ok-print_report.ensures (contents c.print_compactions.new.writer) c.in_ok-print_compactions.ensures.printed c.version-2.result.now last (contents c.print_report-2.new.writer) r c.in_err-print_report-2.ensures)

pub returns-clause-printed : goal.returns-clause-printed
returns-clause-printed g c =
    let contents = g.W.Write.contents in
    let r : Result (Unit {0}) RunError = Ok tt in
    let last = c.version-2.ensures ∙ ap (λ (o : Owner). o.version) c.in_ok-print_compactions.ensures.left in
    last_comes g.O.Operator.meaning c.args.version c.args.options.now c.in_ok-owned.owned c.in_ok-owned.ensures c.version.result.now c.version.ensures (contents c.args.writer.now) (contents c.print_report.new.writer) c.in_ok-print_report.ensures (contents c.print_compactions.new.writer) c.in_ok-print_compactions.ensures.printed c.version-2.result.now last (contents c.print_report-2.new.writer) r c.in_ok-print_report-2.ensures
