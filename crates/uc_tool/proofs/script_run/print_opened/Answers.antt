use Rattle.std.proofs.Common.{Ok}
use Rattle.std.proofs.lemmas.Result.{err_from_is_err_and}
use Rattle.uc_script.specs.Calls.{calls_in}
use Rattle.uc_tool.specs.Play.{output_of}
use Rattle.uc_tool.proofs.Opened.{stops_at_first, stops_behind, prints_behind, nothing_printed}
use Rattle.uc_tool.proofs.script_run.print_opened.Goals as goal

pub returns-in_err-line-clause-printed : goal.returns-in_err-line-clause-printed
returns-in_err-line-clause-printed g c =
    let p = err_from_is_err_and c.from_residual-in_err-line.result c.from_residual-in_err-line.ensures.1 in
    rw (p.1, p.2) (nothing_printed (output_of g.O.Operator.meaning c.args.version c.args.options.now (calls_in c.args.lines.now)).replies (g.W.Write.contents c.args.writer.now))

pub returns-in_err-write_bytes-clause-printed : goal.returns-in_err-write_bytes-clause-printed
returns-in_err-write_bytes-clause-printed g c =
    let contents = g.W.Write.contents in
    let front = rw c.deref.ensures.value at c.in_err-write_bytes.ensures.err in
    let p = err_from_is_err_and c.from_residual-in_err-write_bytes.result c.from_residual-in_err-write_bytes.ensures.1 in
    rw (p.1, p.2, c.in_err-write_bytes.ensures.device) (stops_at_first g.O.Operator.meaning c.args.version c.args.options.now (calls_in c.args.lines.now) c.last-last.result c.in_ok-owned.owned c.in_ok-line.line.items c.last-last.ensures c.in_ok-owned.ensures c.in_ok-line.ensures (contents c.args.writer.now) (contents c.write_bytes.new.writer) front)

pub returns-in_err-print_replies-clause-printed : goal.returns-in_err-print_replies-clause-printed
returns-in_err-print_replies-clause-printed g c =
    let contents = g.W.Write.contents in
    let sent = rw c.deref.ensures.value at c.in_ok-write_bytes.ensures.ok in
    let p = err_from_is_err_and c.from_residual-in_err-print_replies.result c.from_residual-in_err-print_replies.ensures.1 in
    rw (p.1, p.2) (stops_behind g.O.Operator.meaning c.args.version c.args.options.now (calls_in c.args.lines.now) c.last-last.result c.in_ok-owned.owned c.in_ok-line.line.items c.last-last.ensures c.in_ok-owned.ensures c.in_ok-line.ensures (contents c.args.writer.now) (contents c.write_bytes.new.writer) (contents c.print_replies.new.writer) c.in_err-print_replies.field-0.0 sent c.in_err-print_replies.ensures)

pub returns-clause-printed : goal.returns-clause-printed
returns-clause-printed g c =
    let contents = g.W.Write.contents in
    let sent = rw c.deref.ensures.value at c.in_ok-write_bytes.ensures.ok in
    prints_behind g.O.Operator.meaning c.args.version c.args.options.now (calls_in c.args.lines.now) c.last-last.result c.in_ok-owned.owned c.in_ok-line.line.items c.last-last.ensures c.in_ok-owned.ensures c.in_ok-line.ensures (contents c.args.writer.now) (contents c.write_bytes.new.writer) (contents c.print_replies.new.writer) (Ok c.in_ok-print_replies.field-0) sent c.in_ok-print_replies.ensures
