use Rattle.uc_version.proofs.CompactedNow.{back_again, may, at_once, stays}
use Rattle.uc_version.proofs.HeldOver.{held_over}
use Rattle.uc_version.proofs.laws.claimable_stretches_can_be_compacted.Goals as goal

pub returns : goal.returns
returns g c =
    let m = g.O.Operator.meaning in
    record {
      may = λ o s is_owner fine left. may m o is_owner s fine left;
      after = λ o s is_owner fine left. at_once m o is_owner s fine left;
      stays = λ o s is_owner fine left. stays m o is_owner s fine left c.install_gives_a_version.ensures;
      given_back = λ o s. back_again o s;
      kept = λ o s claim is_owner fine left held. held_over m o is_owner s fine left claim held;
    }
