use Rattle.std.proofs.Common.{refl, sym}
use Rattle.uc_version.proofs.KeptClaims.{claim_notes, kept}
use Rattle.uc_version.proofs.HeldOn.{held_over_a_claim, held_over_an_abandon, held_over_an_install}
use Rattle.uc_version.proofs.Feeding.{claim_fed}
use Rattle.uc_version.proofs.laws.claims_keep_their_runs.Goals as goal

pub returns : goal.returns
returns g c = record {
  notes = λ o claim is_owner held. claim_notes o claim is_owner held;
  kept = λ o claim other made is_owner held other_held apart. kept g.O.Operator.meaning o claim other made is_owner held other_held apart;
  held_on = λ o claim other made is_owner held other_held apart. held_over_an_install g.O.Operator.meaning o claim other made other_held apart;
  over_a_claim = λ o claim s is_owner held fine. held_over_a_claim o claim s held;
  over_an_abandon = λ o claim other is_owner held other_held apart. held_over_an_abandon o claim other held (λ same. apart (sym same));
  over_a_feed = λ o claim ws is_owner held may. claim_fed o claim ws held;
  over_a_keep = λ o claim is_owner held. (held, refl);
  over_a_release = λ o claim seq is_owner held. (held, refl);
}
