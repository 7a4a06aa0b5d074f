use Rattle.uc_version_state.specs.HeldVersions.{stored}
use Rattle.uc_version_state.proofs.Snapped.{either_is_version}
use Rattle.uc_version_state.proofs.version.Version.keep.Goals as goal

pub invariant_of-self : goal.invariant_of-self
invariant_of-self c =
    either_is_version (stored c.self.inside) c.push_keep.result c.push_keep.new.keeps.items c.self.invariant c.push_keep.ensures.ok c.push_keep.ensures.err
