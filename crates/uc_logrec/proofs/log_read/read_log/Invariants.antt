use Rattle.std.proofs.Common.{◌≡◌, length}
use Rattle.uc_logrec.specs.Log.{reading_of}
use Rattle.uc_logrec.proofs.Reading.{with_front}
use Rattle.uc_logrec.proofs.log_read.read_log.Given as goal

abbrev pub invariant-loop-joined : goal.invariant-loop-joined
invariant-loop-joined l = reading_of l.bytes ≡ with_front l.payloads.items l.log.ahead

abbrev pub decreases-loop-joined : goal.decreases-loop-joined
decreases-loop-joined l = length l.log.ahead.payloads
