use Rattle.uc_version_state.proofs.Refused.{is_leave}
use Rattle.uc_version_state.proofs.laws.no_refusal_is_leave_to_feed.Goals as goal

pub returns : goal.returns
returns c v ws rises = is_leave v ws rises
