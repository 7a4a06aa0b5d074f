use Rattle.std.proofs.Common.{ap, ◌∙◌}
use Rattle.uc_batch.specs.Log.{log_writes}
use Rattle.uc_tool_opening.proofs.LogAgain.{clean_log, log_again, read_back}
use Rattle.uc_tool_opening.proofs.opening.writes_by_log.Goals as goal

pub returns-in-Ok : goal.returns-in-Ok
returns-in-Ok c =
    let again = log_again c.written_batch_is_read.ensures c.written_log_is_read.ensures c.args.first c.args.ops c.requires in
    read_back c.deref.result.now c.in-Ok.writes (clean_log c.args.first c.args.ops) (ap log_writes (c.deref.ensures.value ∙ c.in_ok-log.ensures) ∙ again) c.in-Ok.ensures.ok
