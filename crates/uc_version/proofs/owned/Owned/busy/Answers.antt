use Rattle.std.proofs.Common.{◌∙◌, ap}
use Rattle.uc_version.specs.Owners.{Owner, is_busy, claimed_slots}
use Rattle.uc_version.specs.HeldOwners.{owner}
use Rattle.uc_version.proofs.Flags.{flag_is, same_any}
use Rattle.uc_version.proofs.owned.Owned.busy.Goals as goal

pub returns : goal.returns
returns g c =
    flag_is c.has.result c.self.inside.held.slots c.args.slot c.has.ensures
    ∙ same_any c.self.inside.held.slots (claimed_slots (owner c.self.inside)) c.args.slot (c.self.invariant.slots c.args.slot)
    ∙ ap (λ (o : Owner). is_busy o c.args.slot) c.self.view_is
