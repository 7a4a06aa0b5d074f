use Rattle.std.proofs.Common.{◌≤◌, ◌∙◌, List, length, ap, sym, subst}
use Rattle.uc_claims.specs.declared.table.TheConstants.{MOST_SLOTS}
use Rattle.uc_version_state.specs.Versions.{PlacedRun, Stored, IsVersion}
use Rattle.uc_version_compact.specs.Compacting.{runs_at}
use Rattle.uc_version_compact.proofs.Few.{few_part}
use Rattle.uc_share.proofs.taken.Taken.runs.Goals as goal

pub returns-clause-few : goal.returns-clause-few
returns-clause-few g c =
    let s = c.self.inside.stretch in
    let v = c.self.inside.pin.version in
    let is : IsVersion v = subst IsVersion c.version.ensures c.recall-2.ensures in
    let runs = c.stretch_runs.ensures ∙ ap (λ (w : Stored). runs_at w s) c.version-2.ensures in
    subst (λ (ps : List PlacedRun). length ps ≤ MOST_SLOTS) (sym runs) (few_part v is s.first s.count)
