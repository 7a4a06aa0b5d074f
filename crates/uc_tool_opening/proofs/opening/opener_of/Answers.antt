use Rattle.std.proofs.Common.{ap, ◌∙◌, subst}
use Rattle.uc_batch.specs.Log.{log_writes}
use Rattle.uc_batch.specs.Rising.{IsRising}
use Rattle.uc_batch.specs.WriteLog.{WriteLog}
use Rattle.uc_version_open.specs.Progress.{progress_of}
use Rattle.uc_tool_opening.proofs.LogAgain.{log_again}
use Rattle.uc_tool_opening.proofs.opening.opener_of.Goals as goal

pub returns-clause-opener : goal.returns-clause-opener
returns-clause-opener g c =
    let again = ap log_writes (c.in_ok-log.ensures ∙ c.in_ok-log_of.ensures) ∙ log_again c.written_batch_is_read.ensures c.written_log_is_read.ensures 1 c.args.ops c.requires in
    c.in_ok-opener.ensures.opener ∙ ap (λ (w : WriteLog). progress_of c.args.options w.list) again

pub returns-clause-rising : goal.returns-clause-rising
returns-clause-rising g c =
    let again = ap log_writes (c.in_ok-log.ensures ∙ c.in_ok-log_of.ensures) ∙ log_again c.written_batch_is_read.ensures c.written_log_is_read.ensures 1 c.args.ops c.requires in
    subst (λ (w : WriteLog). IsRising 0 w.list) again c.in_ok-opener.ensures.rising
