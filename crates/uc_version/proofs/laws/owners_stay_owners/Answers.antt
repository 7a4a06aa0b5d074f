use Rattle.uc_version.proofs.Staying.{claimed_stays, given_back_stays, installed_stays}
use Rattle.uc_version.proofs.Feeding.{owner_fed, owner_kept, owner_released}
use Rattle.uc_version.proofs.laws.owners_stay_owners.Goals as goal

pub returns : goal.returns
returns g c = record {
  claimed = λ o s is_owner fine. claimed_stays o is_owner s fine;
  given_back = λ o claim is_owner held. given_back_stays o claim is_owner held;
  installed = λ o claim made is_owner held stand may.
      installed_stays g.O.Operator.meaning o claim made is_owner held stand may c.install_gives_a_version.ensures;
  fed = λ o ws is_owner may. owner_fed o is_owner ws (c.feeds_and_keeps_give_versions.ensures.fed o.version ws is_owner.version may);
  kept = λ o is_owner. owner_kept o is_owner;
  let_go = λ o seq is_owner. owner_released o is_owner seq;
}
