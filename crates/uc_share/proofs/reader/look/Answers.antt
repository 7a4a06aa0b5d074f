use Rattle.uc_share.proofs.Showing.{enters}
use Rattle.uc_share.proofs.reader.look.Goals as goal

pub enter_as-requires : goal.enter_as-requires
enter_as-requires g c x = enters _ _ _ _ _ _ x
