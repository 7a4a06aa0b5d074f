use Rattle.uc_version.proofs.Feeding.{kept_or_not}
use Rattle.uc_version.proofs.owned.Owned.keep.Goals as goal

pub invariant_of-self : goal.invariant_of-self
invariant_of-self g c = kept_or_not c.self.inside c.self.invariant c.keep.result c.keep.new.self c.keep.ensures.ok c.keep.ensures.err

pub invariant_of-self-2 : goal.invariant_of-self-2
invariant_of-self-2 g c = kept_or_not c.self.inside c.self.invariant c.keep.result c.keep.new.self c.keep.ensures.ok c.keep.ensures.err
