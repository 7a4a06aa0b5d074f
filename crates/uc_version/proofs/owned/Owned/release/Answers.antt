use Rattle.uc_version.proofs.Feeding.{released_is_owned}
use Rattle.uc_version.proofs.owned.Owned.release.Goals as goal

pub invariant_of-self : goal.invariant_of-self
invariant_of-self g c = released_is_owned c.self.inside c.self.invariant c.args.seq c.release.new.self c.release.ensures
