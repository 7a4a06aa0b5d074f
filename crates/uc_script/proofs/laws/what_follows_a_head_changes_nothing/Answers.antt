use Rattle.uc_script.proofs.HeadFollowed.{head_followed}
use Rattle.uc_script.proofs.laws.what_follows_a_head_changes_nothing.Goals as goal

pub returns : goal.returns
returns c = head_followed
