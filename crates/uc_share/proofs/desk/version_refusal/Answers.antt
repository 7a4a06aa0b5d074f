use Rattle.std.proofs.Common.{◌≡◌, ◌≤◌, ◌∙◌, List, length, fold, ap, subst}
use Rattle.uc_version_state.specs.Versions.{PlacedRun, Stored, IsVersion, ids_of}
use Rattle.uc_version_state.specs.Installs.{terms_of}
use Rattle.uc_version_state.specs.Refusals.{AreReplaceable}
use Rattle.uc_version_state.specs.Histories.{after}
use Rattle.uc_share.specs.Fronts.{Moment}
use Rattle.uc_share.specs.Claims.{claimed_runs}
use Rattle.uc_share.specs.Installing.{MayInstallHere}
use Rattle.uc_share.proofs.StillThere.{may_install, if_none}
use Rattle.uc_share.proofs.desk.version_refusal.Goals as goal

pub returns-clause-may : goal.returns-clause-may
returns-clause-may g c =
    let base = g.N.Name.base in
    let h = c.args.held.now in
    let now = c.args.publisher.now in
    let made = c.args.made.now in
    let pinned : h.pin.version ≡ fold after base h.pin.events = subst (λ (p : Moment). p.version ≡ fold after base p.events) c.pin.ensures c.recall-3.ensures.version_is in
    let is : IsVersion h.pin.version = subst IsVersion (c.version.ensures ∙ ap (λ (p : Moment). p.version) c.pin-2.ensures) c.recall-4.ensures in
    let two : 2 ≤ length (claimed_runs h) = subst (λ (ps : List PlacedRun). 2 ≤ length ps) c.runs.ensures.runs c.runs.ensures.two in
    let replaced : AreReplaceable c.version-2.result.now (ids_of c.runs.result.now) (terms_of made) → AreReplaceable now.version (ids_of (claimed_runs h)) (terms_of made) = λ there.
    subst (λ (ps : List PlacedRun). AreReplaceable now.version (ids_of ps) (terms_of made)) c.runs.ensures.runs
    (subst (λ (v : Stored). AreReplaceable v (ids_of c.runs.result.now) (terms_of made)) (c.version-2.ensures ∙ ap (λ (s : Moment). s.version) c.shown.ensures) there) in
    if_none _ (MayInstallHere g.O.Operator.meaning now.version (claimed_runs h) made) c.present_refusal.result
    (λ there. may_install g.O.Operator.meaning base h now made c.claimed_runs_stay_the_same.ensures c.what_fits_may_be_installed.ensures pinned c.recall.ensures.version_is is c.requires.before two c.recall_standing.ensures.stand c.requires.inputs (replaced there)) c.present_refusal.ensures.none
