use Rattle.uc_version.specs.declared.held_stretch.TheConstants.{MOST_CLAIMS}
use Rattle.uc_query.proofs.EmptyNames.{all_none}
use Rattle.uc_query.proofs.named_claims.NamedClaims.new.Goals as goal

pub returns : goal.returns
returns c = all_none c.default.result MOST_CLAIMS c.default.ensures.long c.default.ensures.at
