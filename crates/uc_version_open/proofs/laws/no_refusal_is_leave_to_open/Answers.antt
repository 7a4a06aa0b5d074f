use Rattle.uc_version_open.proofs.Refused.{may_open, not_refused}
use Rattle.uc_version_open.proofs.laws.no_refusal_is_leave_to_open.Goals as goal

pub returns : goal.returns
returns c o rises = (may_open o rises, not_refused o)
