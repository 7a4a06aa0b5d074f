use Rattle.std.proofs.Common.{◌≡◌, ◌≤◌, List, true, length, ap, sym, ◌∙◌, subst}
use Rattle.uc_claims.specs.declared.table.TheConstants.{MOST_SLOTS}
use Rattle.uc_version_state.specs.Versions.{PlacedRun, Stored}
use Rattle.uc_live.specs.Lives.{Live}
use Rattle.uc_live.specs.LiveOptions.{are_good}
use Rattle.uc_live.proofs.Quiet.{runs_claimed}
use Rattle.uc_live.proofs.live_store.LiveStore.find_slot.Goals as goal

pub returns-then-runs-ge-MOST_SLOTS-clause-err : goal.returns-then-runs-ge-MOST_SLOTS-clause-err
returns-then-runs-ge-MOST_SLOTS-clause-err g c =
    let now = c.args.self.now in
    let good : are_good now.options ≡ true = ap (λ (l : Live). are_good l.options) (sym c.self.view_is) ∙ c.self.invariant.options_good in
    let runs : c.runs.result.now ≡ now.version.runs = c.runs.ensures ∙ ap (λ (v : Stored). v.runs) c.version.ensures ∙ ap (λ (l : Live). l.version.runs) c.self.view_is in
    let full : MOST_SLOTS ≤ length now.version.runs = subst (λ (rs : List PlacedRun). MOST_SLOTS ≤ length rs) runs c.if-runs-ge-MOST_SLOTS.true in
    (full, runs_claimed c.something_is_picked_above_the_trigger.ensures now good c.requires full)
