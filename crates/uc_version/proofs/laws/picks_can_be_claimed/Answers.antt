use Rattle.uc_version.specs.Owners.{is_busy}
use Rattle.uc_version_compact.specs.Picking.{candidates_of}
use Rattle.uc_version.proofs.PickedClaims.{can_be_claimed}
use Rattle.uc_version.proofs.laws.picks_can_be_claimed.Goals as goal

pub returns : goal.returns
returns c o s is_owner picked =
    let all = candidates_of o.version (is_busy o) in
    let pick = c.picks_are_unclaimed_runs.ensures in
    can_be_claimed o s (pick.two o.options all s is_owner.options_good picked) (pick.there o.options all s picked) (pick.unclaimed o.options all s picked)
