use Rattle.std.proofs.Common.{◌≡◌, ◌+◌, ◌-◌, suc, length, arith}
use Rattle.std.proofs.lemmas.Result.{err_from_is_err_and}
use Rattle.uc_tool.specs.Compacting.{IsStep}
use Rattle.uc_tool.specs.Report.{compactions, compactions_of}
use Rattle.uc_tool.specs.declared.compaction_steps.Step.TheVariants as step
use Rattle.uc_tool_io.proofs.Printing.{no_memory}
use Rattle.uc_tool.proofs.Compactions.{ended_lines, ended_owner, whatever_comes, nothing_picked, refused_owner, refused_lines, sent_or_stopped, compacted, stopped}
use Rattle.uc_tool.proofs.compaction_steps.print_compactions.Goals as goal

pub returns-in_err-compact_picked-clause-printed : goal.returns-in_err-compact_picked-clause-printed
returns-in_err-compact_picked-clause-printed g c =
    let m = g.O.Operator.meaning in
    let contents = g.W.Write.contents in
    let l = c.loop in
    let left = length c.runs-end.result.now - l.counter in
    let here = l.owned in
    let p = err_from_is_err_and c.from_residual.result c.from_residual.ensures.1 in
    rw (p.1, p.2) (no_memory (compactions_of m c.args.owned.now).lines (compactions m left here).lines (contents c.args.writer.now) (contents l.writer) l.invariant.lines)

pub returns-in-Nothing-clause-printed : goal.returns-in-Nothing-clause-printed
returns-in-Nothing-clause-printed g c =
    let m = g.O.Operator.meaning in
    let contents = g.W.Write.contents in
    let l = c.loop in
    let end = length c.runs-end.result.now in
    let here = l.owned in
    let next = c.compact_picked.new.owned in
    let all = compactions_of m c.args.owned.now in
    let more : end - l.counter ≡ suc (end - (l.counter + 1)) = omega (arith, c.loop-test.true) in
    let taken : IsStep m here step.Nothing next = rw c.in-Nothing.is at c.in_ok-compact_picked.ensures in
    let old = contents c.args.writer.now in
    let now = contents l.writer in
    ended_lines m all (end - l.counter) here old now l.invariant next (nothing_picked m all (end - l.counter) here old now l.invariant (end - (l.counter + 1)) more next taken)

pub returns-in-Nothing-clause-left : goal.returns-in-Nothing-clause-left
returns-in-Nothing-clause-left g c =
    let m = g.O.Operator.meaning in
    let contents = g.W.Write.contents in
    let l = c.loop in
    let end = length c.runs-end.result.now in
    let here = l.owned in
    let next = c.compact_picked.new.owned in
    let all = compactions_of m c.args.owned.now in
    let more : end - l.counter ≡ suc (end - (l.counter + 1)) = omega (arith, c.loop-test.true) in
    let taken : IsStep m here step.Nothing next = rw c.in-Nothing.is at c.in_ok-compact_picked.ensures in
    let old = contents c.args.writer.now in
    let now = contents l.writer in
    ended_owner m all (end - l.counter) here old now l.invariant next (nothing_picked m all (end - l.counter) here old now l.invariant (end - (l.counter + 1)) more next taken)

pub returns-in-Last-clause-printed : goal.returns-in-Last-clause-printed
returns-in-Last-clause-printed g c =
    let m = g.O.Operator.meaning in
    let contents = g.W.Write.contents in
    let l = c.loop in
    let end = length c.runs-end.result.now in
    let here = l.owned in
    let next = c.compact_picked.new.owned in
    let all = compactions_of m c.args.owned.now in
    let line = c.in-Last.line in
    let more : end - l.counter ≡ suc (end - (l.counter + 1)) = omega (arith, c.loop-test.true) in
    let taken : IsStep m here (step.Last line) next = rw c.in-Last.is at c.in_ok-compact_picked.ensures in
    let old = contents c.args.writer.now in
    let now = contents l.writer in
    let goes = refused_lines m all (end - l.counter) here old now l.invariant (end - (l.counter + 1)) more next line taken in
    sent_or_stopped all.lines line.items old now (contents c.write_bytes.new.writer) c.write_bytes.result goes (rw c.deref.ensures.value at c.write_bytes.ensures.ok) (rw c.deref.ensures.value at c.write_bytes.ensures.err) c.write_bytes.ensures.device

pub returns-in-Last-clause-left : goal.returns-in-Last-clause-left
returns-in-Last-clause-left g c =
    let m = g.O.Operator.meaning in
    let contents = g.W.Write.contents in
    let l = c.loop in
    let end = length c.runs-end.result.now in
    let here = l.owned in
    let next = c.compact_picked.new.owned in
    let all = compactions_of m c.args.owned.now in
    let line = c.in-Last.line in
    let more : end - l.counter ≡ suc (end - (l.counter + 1)) = omega (arith, c.loop-test.true) in
    let taken : IsStep m here (step.Last line) next = rw c.in-Last.is at c.in_ok-compact_picked.ensures in
    let old = contents c.args.writer.now in
    let now = contents l.writer in
    whatever_comes c.write_bytes.result (refused_owner m all (end - l.counter) here old now l.invariant (end - (l.counter + 1)) more next line taken)

pub returns-in_err-write_bytes-in-Compacted-clause-printed :
    goal.returns-in_err-write_bytes-in-Compacted-clause-printed
returns-in_err-write_bytes-in-Compacted-clause-printed g c =
    let m = g.O.Operator.meaning in
    let contents = g.W.Write.contents in
    let l = c.loop in
    let end = length c.runs-end.result.now in
    let here = l.owned in
    let next = c.compact_picked.new.owned in
    let all = compactions_of m c.args.owned.now in
    let line = c.in-Compacted.line in
    let more : end - l.counter ≡ suc (end - (l.counter + 1)) = omega (arith, c.loop-test.true) in
    let taken : IsStep m here (step.Compacted line) next = rw c.in-Compacted.is at c.in_ok-compact_picked.ensures in
    let old = contents c.args.writer.now in
    let now = contents l.writer in
    let front = rw c.deref-in-Compacted.ensures.value at c.in_err-write_bytes-in-Compacted.ensures.err in
    let p = err_from_is_err_and c.from_residual-in_err-write_bytes-in-Compacted.result c.from_residual-in_err-write_bytes-in-Compacted.ensures.1 in
    rw (p.1, p.2, c.in_err-write_bytes-in-Compacted.ensures.device) (stopped m all (end - l.counter) here old now l.invariant (end - (l.counter + 1)) more next line taken (contents c.write_bytes-in-Compacted.new.writer) front)

pub loop-preserved : goal.loop-preserved
loop-preserved g c =
    let m = g.O.Operator.meaning in
    let contents = g.W.Write.contents in
    let l = c.loop in
    let end = length c.runs-end.result.now in
    let here = l.owned in
    let next = c.compact_picked.new.owned in
    let all = compactions_of m c.args.owned.now in
    let line = c.in-Compacted.line in
    let more : end - l.counter ≡ suc (end - (l.counter + 1)) = omega (arith, c.loop-test.true) in
    let taken : IsStep m here (step.Compacted line) next = rw c.in-Compacted.is at c.in_ok-compact_picked.ensures in
    let old = contents c.args.writer.now in
    let now = contents l.writer in
    let sent = rw c.deref-in-Compacted.ensures.value at c.in_ok-write_bytes-in-Compacted.ensures.ok in
    compacted m all (end - l.counter) here old now l.invariant (end - (l.counter + 1)) more next line taken (contents c.write_bytes-in-Compacted.new.writer) sent
