use Rattle.std.proofs.Common.{Err, refl, ap}
use Rattle.uc_tool_io.proofs.Written.{of_input, of_unread}
use Rattle.uc_tool_io.proofs.whole_run.run_over_input.Goals as goal

pub returns-in-Ok-clause-written : goal.returns-in-Ok-clause-written
returns-in-Ok-clause-written g c program whole prints =
    let contents = g.W.Write.contents in
    let input = c.in-Ok.input in
    let bytes = g.I.Gathered.bytes in
    let does = prints input _ _ c.work-outcome.result.0 c.work-outcome.result.1 c.in-Ok.ensures.short c.work-outcome.ensures in
    of_input program whole (g.R.Read.remaining c.args.reader.now) (bytes input) (contents c.args.writer.now) _ (contents c.finish.new.writer) c.work-outcome.result.0 c.finish.result c.in-Ok.ensures.whole c.in-Ok.ensures.short does.0 does.1 c.finish.ensures

pub returns-in-Ok-clause-told : goal.returns-in-Ok-clause-told
returns-in-Ok-clause-told g c = record {
  input = c.in-Ok.input;
  whole = c.in-Ok.ensures.whole;
  short = c.in-Ok.ensures.short;
  before = _;
  after = _;
  outcome = c.work-outcome.result.0;
  call = c.work-outcome.ensures;
  begins = refl;
  ends = c.finish.ensures;
}

pub returns-in-Err-clause-written : goal.returns-in-Err-clause-written
returns-in-Err-clause-written g c program whole prints =
    let contents = g.W.Write.contents in
    of_unread program (g.R.Read.remaining c.args.reader.now) (contents c.args.writer.now) (contents c.finish_without_input.new.writer) c.in-Err.error c.finish_without_input.result (λ is. c.in-Err.ensures.long (ap (λ e. Err e) is)) c.finish_without_input.ensures
