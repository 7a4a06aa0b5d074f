use Rattle.std.proofs.Common.{◌≡◌, List, subst}
use Rattle.std.proofs.lemmas.Bool.{false≢true}
use Rattle.uc_version_state.specs.Versions.{PlacedRun, ids_of}
use Rattle.uc_version_state.specs.Installs.{standing}
use Rattle.uc_version_state.proofs.Found.{stand_nowhere}
use Rattle.uc_version_state.proofs.version.Version.place_of.Goals as goal

pub returns-else-are_in_place-clause-none : goal.returns-else-are_in_place-clause-none
returns-else-are_in_place-clause-none c =
    let missing = subst (λ (runs : List PlacedRun). ids_of (standing c.args.ids.now runs) ≡ c.args.ids.now → ⊥) c.runs-runs.ensures (λ same. false≢true (c.if-are_in_place.ensures.1 same)) in
    stand_nowhere c.args.self.now c.recall.ensures c.args.ids.now missing
