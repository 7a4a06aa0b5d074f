use Rattle.std.proofs.Common.{ap, ◌∙◌}
use Rattle.uc_logrec.specs.Log.{payloads_of}
use Rattle.uc_logrec.proofs.RoundTrip.{IsLog-nil, payloads_of-nil}
use Rattle.uc_logrec.proofs.log_writer.LogWriter.new.Goals as goal

pub invariant_of-result : goal.invariant_of-result
invariant_of-result c = rw c.new.ensures.items IsLog-nil

pub returns : goal.returns
returns c = ap payloads_of c.new.ensures.items ∙ payloads_of-nil
