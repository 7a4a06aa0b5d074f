use Rattle.uc_version.specs.Installing.{stretch_of}
use Rattle.uc_version_compact.proofs.Standing.{part_stands}
use Rattle.uc_version.proofs.Taking.{held_stands}
use Rattle.uc_version.proofs.Staying.{own_may, only_ids}
use Rattle.uc_version.proofs.laws.claims_can_be_compacted.Goals as goal

pub returns : goal.returns
returns c = record {
  stand = λ o claim is_owner held.
      let there = held_stands o is_owner claim held in
      part_stands o.version is_owner.version (stretch_of o claim).first (stretch_of o claim).count there.0 there.1;
  may = λ o claim is_owner held left.
      let there = held_stands o is_owner claim held in
      own_may o.version is_owner.version (stretch_of o claim) there.0 there.1 left;
  refused = λ o claim error is_owner held refused.
      let there = held_stands o is_owner claim held in
      only_ids o.version is_owner.version (stretch_of o claim) there.0 there.1 error refused;
}
