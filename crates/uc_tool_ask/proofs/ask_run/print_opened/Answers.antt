use Rattle.std.proofs.Common.{◌∙◌}
use Rattle.uc_version_state.specs.Openings.{Opening}
use Rattle.uc_script.specs.Head.{queries_in}
use Rattle.uc_tool_ask.proofs.Opened.{printed_of_writes}
use Rattle.uc_tool_ask.proofs.ask_run.print_opened.Goals as goal

pub returns-in-Ok-clause-printed : goal.returns-in-Ok-clause-printed
returns-in-Ok-clause-printed g c writes rising from =
    let m = g.O.Operator.meaning in
    let contents = g.V.Write.contents in
    let ok = c.in-Ok.ensures.ok c.args.options.now writes rising from in
    let opening : Opening = record { writes = writes; keeps = c.args.keeps.now; options = c.args.options.now } in
    let may = (c.no_refusal_is_leave_to_open.ensures opening rising).0 ok.1 in
    printed_of_writes m c.args.options.now c.args.keeps.now (queries_in c.args.head.now) writes ok.1 c.in-Ok-of.opening.version (c.in-Ok-of.ensures.version ∙ ok.0) may (contents c.args.writer.now) (contents c.answer_shared-outcome.new.writer) c.answer_shared-outcome.result.0 c.answer_shared-outcome.ensures.printed
