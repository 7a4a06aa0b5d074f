use Rattle.std.proofs.Common.{◌≤◌, ◌∙◌, List, length, false, sym, ap, subst}
use Rattle.std.specs.Prelude.{map, slice_index_or}
use Rattle.uc_claims.specs.declared.table.TheConstants.{MOST_SLOTS}
use Rattle.uc_version_state.specs.Picks.{picked}
use Rattle.uc_version_state.specs.Versions.{PlacedRun}
use Rattle.uc_version_compact.specs.Picking.{candidate_of}
use Rattle.uc_version_state.proofs.Few.{few_runs}
use Rattle.uc_version_compact.proofs.candidates.pick.Goals as goal

pub candidates-requires-clause-few : goal.candidates-requires-clause-few
candidates-requires-clause-few c = subst (λ (ps : List PlacedRun). length ps ≤ MOST_SLOTS) (sym c.runs-runs.ensures) (few_runs c.args.version.now c.recall.ensures)

pub returns : goal.returns
returns c =
    c.pick_among.ensures
    ∙ ap (picked c.args.options.now) (c.candidates.ensures ∙ ap (λ (ps : List PlacedRun). map (candidate_of (λ slot. slice_index_or c.args.busy.now slot false)) ps) c.runs-runs.ensures)
