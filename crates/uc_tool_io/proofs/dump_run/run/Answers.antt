use Rattle.std.proofs.Common.{map, [], ◌∷◌}
use Rattle.std.proofs.lemmas.Result.{err_from_is_err_and}
use Rattle.uc_batch.specs.Log.{log_writes}
use Rattle.uc_tool_io.specs.LogLines.{write_line, ended_line}
use Rattle.uc_tool_io.proofs.Parts.{stops_within, no_last, stops_at_last, prints_last}
use Rattle.uc_tool_io.proofs.dump_run.run.Goals as goal

pub returns-in_err-ended-clause-printed : goal.returns-in_err-ended-clause-printed
returns-in_err-ended-clause-printed g c =
    let contents = g.W.Write.contents in
    let log = log_writes c.args.input in
    let p = err_from_is_err_and c.from_residual.result c.from_residual.ensures.1 in
    rw (p.1, p.2) (stops_within (map write_line log.list) (ended_line log.ended ∷ []) (contents c.args.writer.now) (contents c.print_log.new.writer) c.in_err-ended.field-0.0 c.in_err-ended.ensures.printed)

pub returns-in_err-line-clause-printed : goal.returns-in_err-line-clause-printed
returns-in_err-line-clause-printed g c =
    let contents = g.W.Write.contents in
    let log = log_writes c.args.input in
    let p = err_from_is_err_and c.from_residual-in_err-line.result c.from_residual-in_err-line.ensures.1 in
    rw (p.1, p.2) (no_last (map write_line log.list) (ended_line log.ended) (contents c.args.writer.now) (contents c.print_log.new.writer) c.in_ok-ended.ensures.printed)

pub returns-in_err-write_bytes-clause-printed : goal.returns-in_err-write_bytes-clause-printed
returns-in_err-write_bytes-clause-printed g c =
    let contents = g.W.Write.contents in
    let log = log_writes c.args.input in
    let p = err_from_is_err_and c.from_residual-in_err-write_bytes.result c.from_residual-in_err-write_bytes.ensures.1 in
    let front = rw (c.deref.ensures.value, c.in_ok-line.ensures, c.in_ok-ended.ensures.ended) at c.in_err-write_bytes.ensures.err in
    rw (p.1, p.2, c.in_err-write_bytes.ensures.device) (stops_at_last (map write_line log.list) (ended_line log.ended) (contents c.args.writer.now) (contents c.print_log.new.writer) c.in_ok-ended.ensures.printed (contents c.write_bytes.new.writer) front)

pub returns-clause-printed : goal.returns-clause-printed
returns-clause-printed g c =
    let contents = g.W.Write.contents in
    let log = log_writes c.args.input in
    let line = rw (c.deref.ensures.value, c.in_ok-line.ensures, c.in_ok-ended.ensures.ended) at c.in_ok-write_bytes.ensures.ok in
    prints_last (map write_line log.list) (ended_line log.ended) (contents c.args.writer.now) (contents c.print_log.new.writer) c.in_ok-ended.ensures.printed (contents c.write_bytes.new.writer) line
