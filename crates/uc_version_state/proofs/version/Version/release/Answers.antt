use Rattle.std.proofs.Common.{ℕ, List, sym, subst}
use Rattle.uc_version_state.specs.Versions.{IsVersion}
use Rattle.uc_version_state.specs.HeldVersions.{stored}
use Rattle.uc_version_state.proofs.Snapped.{released_is_version}
use Rattle.uc_version_state.proofs.version.Version.release.Goals as goal

pub invariant_of-self : goal.invariant_of-self
invariant_of-self c =
    let v = stored c.self.inside in
    subst (λ (keeps : List ℕ). IsVersion (record v { keeps = keeps })) (sym c.take_out.ensures) (released_is_version c.args.seq v c.self.invariant)
