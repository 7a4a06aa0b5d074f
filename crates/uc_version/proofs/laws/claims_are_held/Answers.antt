use Rattle.uc_version.proofs.Staying.{claim_is_held}
use Rattle.uc_version.proofs.laws.claims_are_held.Goals as goal

pub returns : goal.returns
returns c o s is_owner fine = claim_is_held o is_owner s fine
