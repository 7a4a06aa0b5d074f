use Rattle.std.proofs.Common.{refl}
use Rattle.uc_version_state.specs.Versions.{ids_of}
use Rattle.uc_version_state.specs.Installs.{part_of}
use Rattle.uc_version_state.proofs.Found.{standing_is}
use Rattle.uc_version_state.proofs.laws.neighbours_stand_where_their_ids_say.Goals as goal

pub returns : goal.returns
returns c v first count is_version some within = standing_is v is_version (ids_of (part_of first count v.runs)) first count some within refl
