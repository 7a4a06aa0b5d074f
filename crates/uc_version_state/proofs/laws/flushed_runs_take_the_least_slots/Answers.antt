use Rattle.uc_version_state.proofs.Free.{not_there, is_there, least_within}
use Rattle.uc_version_state.proofs.laws.flushed_runs_take_the_least_slots.Goals as goal

pub returns : goal.returns
returns c = record {
  free = λ slots there. not_there slots there;
  least = λ slots slot below. is_there slots slot below;
  within = λ slots. least_within slots;
}
