use Rattle.std.proofs.lemmas.Result.{err_from_is_err_and}
use Rattle.uc_batch.specs.Log.{log_writes}
use Rattle.uc_tool_io.proofs.Dumps.{begins, no_memory, ends_lines, goes_on, stops}
use Rattle.uc_tool_io.proofs.dump_run.print_log.Goals as goal

pub loop-lines-init : goal.loop-lines-init
loop-lines-init g c = begins (log_writes c.args.log) c.new-batches.result (g.W.Write.contents c.args.writer.now) c.new-batches.ensures.ahead

pub returns-in_err-advance-clause-printed : goal.returns-in_err-advance-clause-printed
returns-in_err-advance-clause-printed g c =
    let contents = g.W.Write.contents in
    let l = c.loop-lines in
    let p = err_from_is_err_and c.from_residual.result c.from_residual.ensures.1 in
    rw (p.1, p.2) (no_memory (log_writes c.args.log) l.batches (contents c.args.writer.now) (contents l.writer) l.invariant)

pub returns-in-Ended-clause-printed : goal.returns-in-Ended-clause-printed
returns-in-Ended-clause-printed g c =
    let contents = g.W.Write.contents in
    let l = c.loop-lines in
    let end = rw c.in-Ended.is at c.in_ok-advance.ensures.ok in
    ends_lines (log_writes c.args.log) l.batches (contents c.args.writer.now) (contents l.writer) l.invariant c.in-Ended.ended end.0

pub returns-in_err-print_writes-in-Batch-clause-printed : goal.returns-in_err-print_writes-in-Batch-clause-printed
returns-in_err-print_writes-in-Batch-clause-printed g c =
    let contents = g.W.Write.contents in
    let l = c.loop-lines in
    let comes = rw c.in-Batch.is at c.in_ok-advance.ensures.ok in
    let stopped = rw c.writes.ensures at c.in_err-print_writes-in-Batch.ensures in
    let p = err_from_is_err_and c.from_residual-in_err-print_writes-in-Batch.result c.from_residual-in_err-print_writes-in-Batch.ensures.1 in
    rw (p.1, p.2) (stops (log_writes c.args.log) l.batches (contents c.args.writer.now) (contents l.writer) l.invariant c.advance.new.self comes (contents c.print_writes.new.writer) c.in_err-print_writes-in-Batch.field-0.0 stopped)

pub loop-lines-preserved : goal.loop-lines-preserved
loop-lines-preserved g c =
    let contents = g.W.Write.contents in
    let l = c.loop-lines in
    let comes = rw c.in-Batch.is at c.in_ok-advance.ensures.ok in
    let sent = rw c.writes.ensures at c.in_ok-print_writes-in-Batch.ensures in
    goes_on (log_writes c.args.log) l.batches (contents c.args.writer.now) (contents l.writer) l.invariant c.advance.new.self comes (contents c.print_writes.new.writer) sent
